-- What is printed of a block is read as that block, line by line.
-- Assumes nothing.
use Prim.Native.Nat.{ℕ, ◌≤◌}
use mathlib.Core.Path.{◌≡◌, refl, sym, ap, ap₂, ◌∙◌}
use mathlib.Core.Bool.{true}
use mathlib.Core.List.{List, [], ◌∷◌, ◌++◌, append_assoc, append-nil}
use native.Mathlib.Omega.{arith}
use borrow.Author.Tests.{le-ltb}
use lib.IntN.{ℤ}
use lib.ListN.{length, length-append}
use Rattle.arithmetic.proofs.Booleans.{both}
use Rattle.vocabulary.specs.declared.interval.Interval.{Interval}
use Rattle.vocabulary.specs.Sample.{power_in_range}
use Rattle.channel.specs.Start.{Block, carried}
use Rattle.channel.specs.Acceptable.{all_in_range, Acceptable}
use Rattle.series.specs.Scan.{each}
use Rattle.print.specs.Decimal.{line_end, number_text}
use Rattle.print.specs.Fields.{tabbed}
use Rattle.sheets.specs.Sheet.{line_text, bounds_text, setpoint_text, setpoints_text, block_text}
use Rattle.fields.specs.Fields.{fields, field_at}
use Rattle.fields.specs.Numbers.{number_of}
use Rattle.fields.proofs.FieldLaws.{fields-none, fields-tab, fields-other}
use Rattle.lines.specs.Lines.{lines_of, on_first}
use Rattle.channel.proofs.HandedOn.{Small, power_small, bound-small}
use Rattle.lines.proofs.LineLaws.{NoLf, none, another, Written, last, ended, read_back, written}
use Rattle.reading.specs.Line.{is_letter, kind_of, bounds_of, setpoint_of, line_of}
use Rattle.reading.specs.declared.Line.TheVariants as L
use Rattle.meaning.specs.Endings.{Each, of_none, of_more}
use Rattle.join.specs.Says.{bounds_line, block_lines}
use Rattle.join.proofs.NumberBack.{Visible, number-visible, number-back, number_short}

-- ---- fields of bytes that are no tabs, parted by tabs, are found again

module _ {P : ℕ → Type 0} (no-tab : (x : ℕ) → P x → x ≡ 9 → ⊥) where
  fields-one : {f : List ℕ} → Each P f → fields f ≡ f ∷ []
  fields-one of_none = fields-none
  fields-one (of_more {x = x} {xs = f} v vs) = fields-other x f (no-tab x v) ∙ ap (on_first x) (fields-one vs)

  fields-more : {f : List ℕ} (rest : List ℕ) → Each P f → fields (f ++ (9 ∷ rest)) ≡ f ∷ fields rest
  fields-more rest of_none = fields-tab 9 rest refl
  fields-more rest (of_more {x = x} {xs = f} v vs) = fields-other x (f ++ (9 ∷ rest)) (no-tab x v) ∙ ap (on_first x) (fields-more rest vs)

  pub fields-parted : {f : List ℕ} {fs : List (List ℕ)} → Each P f → Each (Each P) fs → fields (f ++ tabbed fs) ≡ f ∷ fs
  unfolding tabbed
  fields-parted {f} v of_none = ap fields (append-nil f) ∙ fields-one v
  fields-parted {f} v (of_more {x = g} {xs = fs} w ws) = fields-more (g ++ tabbed fs) v ∙ ap (λ (l : List (List ℕ)). f ∷ l) (fields-parted w ws)

visible-no-tab : (x : ℕ) → Visible x → x ≡ 9 → ⊥
visible-no-tab x v e = omega arith

pub fields_back : {f : List ℕ} {fs : List (List ℕ)} → Each Visible f → Each (Each Visible) fs → fields (f ++ tabbed fs) ≡ f ∷ fs
fields_back v vs = fields-parted visible-no-tab v vs

-- ---- and have no LF

not-lf : (x : ℕ) → Visible x → x ≡ 10 → ⊥
not-lf x v e = omega arith

tab-not-lf : ◌≡◌ {A = ℕ} 9 10 → ⊥
tab-not-lf e = omega arith

no-lf : {f g : List ℕ} → Each Visible f → NoLf g → NoLf (f ++ g)
no-lf of_none n = n
no-lf (of_more {x = x} v vs) n = another (not-lf x v) (no-lf vs n)

tabbed-no-lf : {fs : List (List ℕ)} → Each (Each Visible) fs → NoLf (tabbed fs)
unfolding tabbed
tabbed-no-lf of_none = none
tabbed-no-lf (of_more v vs) = another tab-not-lf (no-lf v (tabbed-no-lf vs))

line-no-lf : (kind : ℕ) {fs : List (List ℕ)} → Visible kind → Each (Each Visible) fs → NoLf (kind ∷ tabbed fs)
line-no-lf kind v vs = another (not-lf kind v) (tabbed-no-lf vs)

-- so a line that is printed before others is read before them
pub line-written : (kind : ℕ) {fs lines : List (List ℕ)} {input : List ℕ} → Visible kind → Each (Each Visible) fs → Written lines input
    → Written ((kind ∷ tabbed fs) ∷ lines) (line_text kind fs ++ input)
unfolding line_text
line-written kind {fs} {lines} {input} v vs w =
    rw (append_assoc (tabbed fs) line_end input) (ended (line-no-lf kind v vs) w)

-- ---- O

module _ (b : Block) where
  abbrev bounds_fields : List (List ℕ)
  bounds_fields = number_text b.oga ∷ number_text b.uga ∷ []

  abbrev bounds_bytes : List ℕ
  bounds_bytes = 79 ∷ tabbed bounds_fields

  bounds-visible : Each (Each Visible) bounds_fields
  bounds-visible = of_more (number-visible b.oga) (of_more (number-visible b.uga) of_none)

  bounds-fields : fields bounds_bytes ≡ (79 ∷ []) ∷ bounds_fields
  bounds-fields = let v : Visible 79 = omega arith in fields_back (of_more v of_none) bounds-visible

  module _ (above : Small 10800000000 b.oga) (below : Small 10800000000 b.uga) where
    bounds-length : length bounds_bytes ≤ 80
    unfolding tabbed
    bounds-length =
        omega (
          arith,
          length-append (number_text b.oga) (9 ∷ (number_text b.uga ++ [])),
          length-append (number_text b.uga) [],
          number_short 10 b.oga (omega (arith, above.above)) (omega (arith, above.below)),
          number_short 10 b.uga (omega (arith, below.above)) (omega (arith, below.below)),
        )

    bounds-back : line_of bounds_bytes ≡ bounds_line b
    unfolding line_of kind_of is_letter bounds_of field_at
    bounds-back =
        rw (
          le-ltb 80 (length bounds_bytes) bounds-length,
          bounds-fields,
          number-back 10 b.oga (omega arith) (omega (arith, above.above)) (omega (arith, above.below)),
          number-back 10 b.uga (omega arith) (omega (arith, below.above)) (omega (arith, below.below)),
        )

-- ---- B

abbrev setpoint_bytes : ℤ → List ℕ
setpoint_bytes s = 66 ∷ tabbed (number_text s ∷ [])

module _ (s : ℤ) where
  setpoint-visible : Each (Each Visible) (number_text s ∷ [])
  setpoint-visible = of_more (number-visible s) of_none

  setpoint-fields : fields (setpoint_bytes s) ≡ (66 ∷ []) ∷ number_text s ∷ []
  setpoint-fields = let v : Visible 66 = omega arith in fields_back (of_more v of_none) setpoint-visible

  module _ (small : Small 2000000 s) where
    setpoint-length : length (setpoint_bytes s) ≤ 80
    unfolding tabbed
    setpoint-length = omega (arith, length-append (number_text s) [], number_short 8 s (omega (arith, small.above)) (omega (arith, small.below)))

    setpoint-back : line_of (setpoint_bytes s) ≡ L.Setpoint s
    unfolding line_of kind_of is_letter setpoint_of number_of field_at
    setpoint-back =
        rw (le-ltb 80 (length (setpoint_bytes s)) setpoint-length, setpoint-fields, number-back 8 s (omega arith) (omega (arith, small.above)) (omega (arith, small.below)))

setpoints-back : (ss : List ℤ) → all_in_range ss ≡ true → each line_of (each setpoint_bytes ss) ≡ each L.Setpoint ss
unfolding each all_in_range
setpoints-back [] a = refl
setpoints-back (s ∷ ss) a =
    let t = both (power_in_range s) (all_in_range ss) a in
    ap₂ ◌∷◌ (setpoint-back s (power_small s t.0)) (setpoints-back ss t.1)

setpoints-written : (ss : List ℤ) {lines : List (List ℕ)} {input : List ℕ} → Written lines input → Written (each setpoint_bytes ss ++ lines) (setpoints_text ss ++ input)
unfolding each setpoints_text setpoint_text
setpoints-written [] w = w
setpoints-written (s ∷ ss) {lines} {input} w =
    let v : Visible 66 = omega arith in
    rw (append_assoc (line_text 66 (number_text s ∷ [])) (setpoints_text ss) input) (line-written 66 v (setpoint-visible s) (setpoints-written ss w))

-- ---- the block

-- its lines, as bytes
abbrev pub block_bytes : Block → List (List ℕ)
block_bytes b = bounds_bytes b ∷ each setpoint_bytes b.setpoints

-- put before other lines it is read before them
pub block_written : (b : Block) {lines : List (List ℕ)} {input : List ℕ} → Written lines input → Written (block_bytes b ++ lines) (block_text b ++ input)
unfolding block_text bounds_text
block_written b {lines} {input} w =
    let v : Visible 79 = omega arith in
    rw (append_assoc (line_text 79 (bounds_fields b)) (setpoints_text b.setpoints) input) (line-written 79 v (bounds-visible b) (setpoints-written b.setpoints w))

-- by itself, its lines are these
pub block-bytes : (b : Block) → lines_of (block_text b) ≡ block_bytes b
block-bytes b =
    ap lines_of (sym (append-nil (block_text b))) ∙ read_back (block_written b (last none)) ∙ append-nil (block_bytes b)

-- A PRINTED BLOCK IS READ AS THAT BLOCK
pub block_back : (i : Interval) (b : Block) → Acceptable i b → each line_of (lines_of (block_text b)) ≡ block_lines (carried b)
unfolding each
block_back i b a =
    ap (each line_of) (block-bytes b)
    ∙ ap₂ ◌∷◌ (bounds-back b (bound-small b.oga a.oga) (bound-small b.uga a.uga)) (setpoints-back b.setpoints a.setpoints)

-- BEHIND A LINE OF AN INPUT, as D is: its lines follow that line, and then come those that followed it before
pub behind-line : (b : Block) {line : List ℕ} (input : List ℕ) → NoLf line → lines_of (line ++ (10 ∷ (block_text b ++ input))) ≡ line ∷ (lines_of (block_text b) ++ lines_of input)
behind-line b {line} input n = read_back (ended n (block_written b (written input))) ∙ ap (λ (l : List (List ℕ)). line ∷ (l ++ lines_of input)) (sym (block-bytes b))
