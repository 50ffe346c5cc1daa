-- What is printed for a whole input (docs/RULES.md, 'Text').
use Rattle.std.specs.Prelude.{ℕ, List, ◌++◌, length}
use Rattle.lines.specs.Lines.{lines_of, each_line}
use Rattle.lines.specs.Turns.{quiet}
use Rattle.text.specs.Desk.{Turn, empty_desk, line_turn, finish_turn}

-- a turn whose text comes after what was printed before
unfoldable pub and_then : List ℕ → Turn → Turn
and_then printed turn = record { desk = turn.desk; text = printed ++ turn.text }

-- one complete line more, with its number
unfoldable pub with_line : Turn → ℕ → List ℕ → Turn
with_line so number line = and_then so.text (line_turn so.desk number line)

-- the input's end, after so many complete lines
unfoldable pub with_end : Turn → ℕ → Turn
with_end so count = and_then so.text (finish_turn so.desk count)

-- line by line; lines count from 1
unfoldable pub after_lines : List (List ℕ) → Turn
after_lines lines = each_line with_line (quiet empty_desk) 0 lines

-- THE OUTPUT OF THE SETTLING PROGRAM for an input: the text of each complete line, then that of the input's end
unfoldable pub settle : List ℕ → List ℕ
settle input = (with_end (after_lines (lines_of input)) (length (lines_of input))).text
