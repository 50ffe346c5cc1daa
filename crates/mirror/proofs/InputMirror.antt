-- THE MIRROR OF AN INPUT'S BYTES: its lines are the mirrored lines, and mirrored twice it is the input.
-- Assumes nothing.
use Prim.Native.Nat.{ℕ}
use mathlib.Core.Path.{◌≡◌, refl, sym, ap, ap₂, ◌∙◌}
use mathlib.Core.List.{List, [], ◌∷◌, ◌++◌, append_assoc}
use native.Mathlib.Omega.{arith}
use lib.ListN.{length, drop}
use lib.Seq.{drop-append_seam}
use Rattle.vocabulary.specs.declared.direction.Direction.{Direction}
use Rattle.vocabulary.specs.declared.direction.Direction.TheVariants.{Positive, Negative}
use Rattle.series.specs.Scan.{each}
use Rattle.sheets.specs.Sheet.{letter_of}
use Rattle.lines.specs.Lines.{lines_of}
use Rattle.lines.proofs.LineLaws as W
use Rattle.lines.proofs.LineLaws.{NoLf, Written, read_back, written}
use Rattle.reading.specs.Line.{line_of}
use Rattle.meaning.specs.Endings.{Each, of_none, of_more}
use Rattle.join.proofs.NumberBack.{each_both}
use Rattle.mirror.specs.Bytes.{parted, mirror_bytes, ended, mirror_input}
use Rattle.mirror.proofs.Parted.{NoTab, each-tabbed, each-fields}
use Rattle.mirror.proofs.LineMirror.{each-mirrored, line-twice}

-- ---- a line with no LF in it has none in the mirror

abbrev Other : ℕ → Type 0
Other x = x ≡ 10 → ⊥

each-other : {line : List ℕ} → NoLf line → Each (λ (x : ℕ). NoTab x → Other x) line
each-other W.none = of_none
each-other (W.another n r) = of_more (λ t. n) (each-other r)

no-lf : {line : List ℕ} → Each Other line → NoLf line
no-lf of_none = W.none
no-lf (of_more p ps) = W.another p (no-lf ps)

letters : (d : Direction) → Other (letter_of d)
letters Positive e = omega arith
letters Negative e = omega arith

minus : Other 45
minus e = omega arith

tab : Other 9
tab e = omega arith

parted-other : {fs : List (List ℕ)} → Each (Each Other) fs → Each Other (parted fs)
parted-other of_none = of_none
parted-other (of_more p ps) = each_both p (each-tabbed tab ps)

line-no-lf : {line : List ℕ} → NoLf line → NoLf (mirror_bytes line)
unfolding mirror_bytes
line-no-lf {line} n = no-lf (parted-other (each-mirrored minus letters (line_of line) (each-fields (each-other n))))

-- ---- lines and what follows them

-- an input is its lines, each with its LF, and what follows them
record Parts (lines : List (List ℕ)) (input : List ℕ) : Type 0 where
  rest : List ℕ
  free : NoLf rest
  frees : Each NoLf lines
  is : input ≡ ended lines ++ rest

parts : {lines : List (List ℕ)} {input : List ℕ} → Written lines input → Parts lines input
unfolding ended
parts (W.last {rest} n) = record { rest = rest; free = n; frees = of_none; is = refl }
parts (W.ended {line} {lines} n w) =
    let p = parts w in
    record {
      rest = p.rest;
      free = p.free;
      frees = of_more n p.frees;
      is = ap (λ (l : List ℕ). line ++ (10 ∷ l)) p.is ∙ sym (append_assoc line (10 ∷ ended lines) p.rest);
    }

write : {lines : List (List ℕ)} {rest : List ℕ} → Each NoLf lines → NoLf rest → Written lines (ended lines ++ rest)
unfolding ended
write of_none n = W.last n
write {rest = rest} (of_more {x = line} {xs = lines} p ps) n = rw (append_assoc line (10 ∷ ended lines) rest) (W.ended p (write ps n))

-- what follows them
rest-is : (lines : List (List ℕ)) (rest input : List ℕ) → input ≡ ended lines ++ rest → drop (length (ended lines)) input ≡ rest
rest-is lines rest input e = ap (drop (length (ended lines))) e ∙ drop-append_seam (ended lines) rest

mirror-no-lf : {lines : List (List ℕ)} → Each NoLf lines → Each NoLf (each mirror_bytes lines)
unfolding each
mirror-no-lf of_none = of_none
mirror-no-lf (of_more p ps) = of_more (line-no-lf p) (mirror-no-lf ps)

lines-twice : (lines : List (List ℕ)) → each mirror_bytes (each mirror_bytes lines) ≡ lines
unfolding each
lines-twice [] = refl
lines-twice (line ∷ lines) = ap₂ ◌∷◌ (line-twice line) (lines-twice lines)

-- ---- THE LAWS, for every input

-- the mirror of an input, by its lines and what follows them
mirror-by : (input : List ℕ) {lines : List (List ℕ)} (rest : List ℕ) → lines_of input ≡ lines → input ≡ ended lines ++ rest → mirror_input input ≡ ended (each mirror_bytes lines) ++ rest
unfolding mirror_input
mirror-by input {lines} rest e f = rw (e, rest-is lines rest input f)

module _ (input : List ℕ) where
  abbrev own : Parts (lines_of input) input
  own = parts (written input)

  mirror-is : mirror_input input ≡ ended (each mirror_bytes (lines_of input)) ++ own.rest
  mirror-is = mirror-by input own.rest refl own.is

  -- its lines
  pub lines-mirrored : lines_of (mirror_input input) ≡ each mirror_bytes (lines_of input)
  lines-mirrored = ap lines_of mirror-is ∙ read_back (write (mirror-no-lf own.frees) own.free)

  -- mirrored twice it is the input
  pub input-twice : mirror_input (mirror_input input) ≡ input
  input-twice =
      mirror-by (mirror_input input) own.rest lines-mirrored mirror-is
      ∙ ap (λ (lines : List (List ℕ)). ended lines ++ own.rest) (lines-twice (lines_of input))
      ∙ sym own.is
