-- What is said for the lines of an input, one after the other, and at its end: by what was given before each of them.
use Rattle.std.specs.Prelude.{ℕ, ◌+◌, List, [], ◌∷◌, ◌++◌}

-- `says` by what was given, a line's number and the line; `after`, what is given then; `ends`, where line n is not there
module _ {S A : Type 0} (says : S → ℕ → List ℕ → List A) (after : S → List ℕ → S) (ends : S → ℕ → List A) where
  -- the lines from number n on
  unfoldable pub walk : S → ℕ → List (List ℕ) → List A
  walk so n [] = ends so n
  walk so n (line ∷ lines) = says so n line ++ walk (after so line) (n + 1) lines
