-- THE MIRROR OF A LINE'S BYTES says the mirror of what the line says.
-- Assumes nothing.
use Prim.Native.Nat.{ℕ, suc, ◌*◌, ◌≤◌}
use mathlib.Core.Path.{◌≡◌, refl, sym, ap, subst, ◌∙◌}
use mathlib.Core.Bool.{Bool, true, false, cond}
use mathlib.Core.List.{List, [], ◌∷◌}
use native.Mathlib.Omega.{arith}
use borrow.Author.Tests.{ltb-false, le-ltb, eqb-true}
use lib.Dec.{ltb, eqb}
use lib.IntN.{ℤ, neg_ℤ}
use lib.ListN.{length, length-append}
use Rattle.arithmetic.proofs.Booleans.{true-false, both}
use Rattle.vocabulary.specs.Direction.{mirror_of}
use Rattle.vocabulary.specs.declared.direction.Direction.{Direction}
use Rattle.vocabulary.specs.declared.direction.Direction.TheVariants.{Positive, Negative}
use Rattle.vocabulary.specs.declared.contract.Contract.{Contract}
use Rattle.print.specs.Fields.{tabbed}
use Rattle.sheets.specs.Sheet.{letter_of}
use Rattle.fields.specs.Fields.{fields, field_at}
use Rattle.std.specs.Prelude.{Option, Some, None}
use Rattle.std.proofs.lemmas.Option.{none-some, same_Some}
use Rattle.arithmetic.specs.declared.date.Date.{Date}
use Rattle.vocabulary.specs.declared.header.Lot.{Lot}
use Rattle.fields.specs.Numbers.{long_number_of, number_of}
use Rattle.fields.specs.Day.{day_of}
use Rattle.fields.proofs.FieldLaws.{numbered, counted}
use Rattle.reading.specs.Line.{is_letter, kind_of, direction_of, lot_of, header_fields, bounds_fields, setpoint_fields, contract_fields, sample_fields, of_fields}
use Rattle.reading.specs.Line.{header_of, bounds_of, setpoint_of, identifier_of, contract_of, sample_of, end_of, by_kind, line_of}
use Rattle.reading.specs.declared.Kind.{Kind}
use Rattle.reading.specs.declared.Kind.TheVariants as K
use Rattle.reading.specs.declared.Line.{Line}
use Rattle.reading.specs.declared.Line.TheVariants as L
use Rattle.meaning.specs.Endings.{Each, of_none, of_more}
use Rattle.meaning.specs.Mirror.{mirror_contract, mirror_line}
use Rattle.mirror.specs.Bytes.{mirror_number, mirror_fields, parted, mirror_bytes}
use Rattle.mirror.proofs.NumberMirror.{number-mirrored, number-twice, number_short}
use Rattle.mirror.proofs.Parted.{NoTab, each-field, parted-fields, fields_back, fields-some, tabbed-length, tabbed-none, fields-no-tab}

-- ---- what the fields of a line say: nothing that the mirror changes, or one of four kinds

data Said : List (List ℕ) → Line → Type 0 where
  stays : {fs : List (List ℕ)} {l : Line} → mirror_line l ≡ l → ((gs : List (List ℕ)) → mirror_fields l gs ≡ gs) → Said fs l
  bounds : {k a b : List ℕ} {oga uga : ℤ} → kind_of k ≡ K.Bounds → long_number_of 11 a ≡ Some oga → long_number_of 11 b ≡ Some uga
      → Said (k ∷ a ∷ b ∷ []) (L.Bounds (record { oga = record { 0 = oga }; uga = record { 0 = uga } }))
  setpoint : {k a : List ℕ} {s : ℤ} → kind_of k ≡ K.Setpoint → long_number_of 9 a ≡ Some s → Said (k ∷ a ∷ []) (L.Setpoint s)
  contract : {k d i a p : List ℕ} {c : Contract} → kind_of k ≡ K.Contract → direction_of d ≡ Some c.direction → number_of a ≡ Some c.award → number_of p ≡ Some c.price
      → Said (k ∷ d ∷ i ∷ a ∷ p ∷ []) (L.Contract c)
  sample : {k a b : List ℕ} {s t : ℤ} → kind_of k ≡ K.Sample → long_number_of 9 a ≡ Some s → long_number_of 9 b ≡ Some t
      → Said (k ∷ a ∷ b ∷ []) (L.Sample (record { setpoint = s; actual = t }))

malformed : {fs : List (List ℕ)} → Said fs L.Malformed
malformed = stays refl (λ gs. refl)

-- a line of n fields
of-count : (n : ℕ) (fs : List (List ℕ)) (l : Line) → Said (numbered fs 0 n) l → Said fs (of_fields n fs l)
of-count n fs l said = go (eqb (length fs) n) refl
  where
    go : (t : Bool) → eqb (length fs) n ≡ t → Said fs (cond t l L.Malformed)
    go true e = subst (λ (gs : List (List ℕ)). Said gs l) (sym (counted fs n e)) said
    go false e = malformed

-- each kind, by what its fields say
header-said : {fs : List (List ℕ)} (day : Option Date) (i : Option ℤ) (lot : Option Lot) (q : Option ℤ) → Said fs (header_fields day i lot q)
header-said (Some date) (Some i) (Some lot) (Some q) = stays refl (λ gs. refl)
header-said (Some date) (Some i) (Some lot) None = malformed
header-said (Some date) (Some i) None q = malformed
header-said (Some date) None lot q = malformed
header-said None i lot q = malformed

bounds-said : (k a b : List ℕ) (x y : Option ℤ) → kind_of k ≡ K.Bounds → long_number_of 11 a ≡ x → long_number_of 11 b ≡ y → Said (k ∷ a ∷ b ∷ []) (bounds_fields x y)
bounds-said k a b (Some x) (Some y) e p q = bounds e p q
bounds-said k a b (Some x) None e p q = malformed
bounds-said k a b None y e p q = malformed

setpoint-said : (k a : List ℕ) (x : Option ℤ) → kind_of k ≡ K.Setpoint → long_number_of 9 a ≡ x → Said (k ∷ a ∷ []) (setpoint_fields x)
setpoint-said k a (Some x) e p = setpoint e p
setpoint-said k a None e p = malformed

contract-said : (k d i a p : List ℕ) (x : Option Direction) (y z : Option ℤ) → kind_of k ≡ K.Contract → direction_of d ≡ x → number_of a ≡ y → number_of p ≡ z
    → Said (k ∷ d ∷ i ∷ a ∷ p ∷ []) (contract_fields x y z)
contract-said k d i a p (Some x) (Some y) (Some z) e f g h = contract e f g h
contract-said k d i a p (Some x) (Some y) None e f g h = malformed
contract-said k d i a p (Some x) None z e f g h = malformed
contract-said k d i a p None y z e f g h = malformed

sample-said : (k a b : List ℕ) (x y : Option ℤ) → kind_of k ≡ K.Sample → long_number_of 9 a ≡ x → long_number_of 9 b ≡ y
    → Said (k ∷ a ∷ b ∷ []) (sample_fields x y)
sample-said k a b (Some x) (Some y) e p q = sample e p q
sample-said k a b (Some x) None e p q = malformed
sample-said k a b None y e p q = malformed

said-kind : (fs : List (List ℕ)) (kind : Kind) → kind_of (field_at 0 fs) ≡ kind → Said fs (by_kind kind fs)
unfolding header_of bounds_of setpoint_of contract_of sample_of end_of number_of
said-kind fs K.Header e = of-count 5 fs _ (header-said (day_of (field_at 1 fs)) (number_of (field_at 2 fs)) (lot_of (field_at 3 fs)) (number_of (field_at 4 fs)))
said-kind fs K.Bounds e = of-count 3 fs _ (bounds-said (field_at 0 fs) (field_at 1 fs) (field_at 2 fs) _ _ e refl refl)
said-kind fs K.Setpoint e = of-count 2 fs _ (setpoint-said (field_at 0 fs) (field_at 1 fs) _ e refl)
said-kind fs K.Contract e = of-count 5 fs _ (contract-said (field_at 0 fs) (field_at 1 fs) (field_at 2 fs) (field_at 3 fs) (field_at 4 fs) _ _ _ e refl refl refl)
said-kind fs K.Sample e = of-count 3 fs _ (sample-said (field_at 0 fs) (field_at 1 fs) (field_at 2 fs) _ _ e refl refl)
said-kind fs K.End e = of-count 1 fs _ (stays refl (λ gs. refl))
said-kind fs K.Unknown e = malformed

said : (line : List ℕ) → Said (fields line) (line_of line)
unfolding line_of
said line = go (ltb 80 (length line)) (said-kind (fields line) (kind_of (field_at 0 (fields line))) refl)
  where
    go : (t : Bool) {l : Line} → Said (fields line) l → Said (fields line) (cond t L.Malformed l)
    go true s = malformed
    go false s = s

-- ---- letters

-- a kind that is known has one letter
many-letters : (k : List ℕ) → eqb (length k) 1 ≡ false → kind_of k ≡ K.Unknown
unfolding kind_of is_letter
many-letters k e = rw e

one-letter : (k : List ℕ) {kind : Kind} → kind_of k ≡ kind → (kind ≡ K.Unknown → ⊥) → length k ≡ 1
one-letter k {kind} e n = go (eqb (length k) 1) refl
  where
    go : (t : Bool) → eqb (length k) 1 ≡ t → length k ≡ 1
    go true f = eqb-true (length k) 1 f
    go false f = absurd (n (sym e ∙ many-letters k f))

letter : (f : List ℕ) (x : ℕ) → is_letter x f ≡ true → f ≡ x ∷ []
unfolding is_letter
letter [] x e = true-false e refl
letter (y ∷ []) x e = ap (λ (z : ℕ). z ∷ []) (eqb-true y x e)
letter (y ∷ (z ∷ zs)) x e = absurd (omega (arith, eqb-true (suc (suc (length zs))) 1 (both (eqb (suc (suc (length zs))) 1) (eqb y x) e).0))

-- a direction has the letter that it is printed with
direction-letter : (d : List ℕ) (x : Direction) → direction_of d ≡ Some x → d ≡ letter_of x ∷ []
unfolding direction_of
direction-letter d x e = go (is_letter 80 d) (is_letter 78 d) refl refl e
  where
    go : (a b : Bool) → is_letter 80 d ≡ a → is_letter 78 d ≡ b → cond a (Some Positive) (cond b (Some Negative) None) ≡ Some x → d ≡ letter_of x ∷ []
    go true b p q e = rw (← same_Some Positive x e) (letter d 80 p)
    go false true p q e = rw (← same_Some Negative x e) (letter d 78 q)
    go false false p q e = absurd (none-some x e)

letter-direction : (x : Direction) → direction_of (letter_of x ∷ []) ≡ Some x
unfolding direction_of is_letter
letter-direction Positive = refl
letter-direction Negative = refl

-- ---- a line of at most 80 bytes, by its fields

read_by : (fs : List (List ℕ)) → 1 ≤ length fs → Each (Each NoTab) fs → length (parted fs) ≤ 80 → line_of (parted fs) ≡ by_kind (kind_of (field_at 0 fs)) fs
unfolding line_of
read_by fs some free short = rw (le-ltb 80 (length (parted fs)) short, fields_back fs some free)

-- and a contract has no more
contract-short : (line : List ℕ) (c : Contract) → line_of line ≡ L.Contract c → length line ≤ 80
unfolding line_of
contract-short line c e = ltb-false 80 (length line) (go (ltb 80 (length line)) _ e)
  where
    go : (t : Bool) (l : Line) → cond t L.Malformed l ≡ L.Contract c → t ≡ false
    go true l e = absurd cc
    go false l e = refl

-- ---- a letter and one or two numbers are short enough

abbrev Few : List ℕ → Type 0
Few f = length f ≤ 12

tabbed-few : {fs : List (List ℕ)} → Each Few fs → length (tabbed fs) ≤ 13 * length fs
tabbed-few of_none = omega (arith, tabbed-none)
tabbed-few (of_more {x = f} {xs = fs} p ps) = omega (arith, tabbed-length f fs, tabbed-few ps)

numbers-short : (k : List ℕ) {fs : List (List ℕ)} → length k ≡ 1 → Each Few fs → length fs ≤ 2 → length (parted (k ∷ fs)) ≤ 80
numbers-short k {fs} one few two = omega (arith, length-append k (tabbed fs), tabbed-few few)

-- the mirror of a number of at most 11 digits
few-mirrored : (most : ℕ) (f : List ℕ) (z : ℤ) → most ≤ 11 → long_number_of most f ≡ Some z → Few (mirror_number f)
few-mirrored most f z m e = omega (arith, number_short most (mirror_number f) (neg_ℤ z) (number-mirrored most f z e))

-- ---- THE KINDS THAT THE MIRROR CHANGES

bounds-mirrored : (k a b : List ℕ) (oga uga : ℤ) → kind_of k ≡ K.Bounds → long_number_of 11 a ≡ Some oga → long_number_of 11 b ≡ Some uga
    → Each (Each NoTab) (k ∷ mirror_number b ∷ mirror_number a ∷ [])
    → line_of (parted (k ∷ mirror_number b ∷ mirror_number a ∷ [])) ≡ L.Bounds (record { oga = record { 0 = neg_ℤ uga }; uga = record { 0 = neg_ℤ oga } })
unfolding field_at bounds_of
bounds-mirrored k a b oga uga e p q free =
    let one = one-letter k e (λ n. cc) in
    let few : Each Few (mirror_number b ∷ mirror_number a ∷ []) = of_more (few-mirrored 11 b uga (omega arith) q) (of_more (few-mirrored 11 a oga (omega arith) p) of_none) in
    read_by (k ∷ mirror_number b ∷ mirror_number a ∷ []) (omega arith) free (numbers-short k one few (omega arith))
    ∙ rw (e, number-mirrored 11 b uga q, number-mirrored 11 a oga p)

setpoint-mirrored : (k a : List ℕ) (s : ℤ) → kind_of k ≡ K.Setpoint → long_number_of 9 a ≡ Some s
    → Each (Each NoTab) (k ∷ mirror_number a ∷ []) → line_of (parted (k ∷ mirror_number a ∷ [])) ≡ L.Setpoint (neg_ℤ s)
unfolding field_at setpoint_of number_of
setpoint-mirrored k a s e p free =
    let one = one-letter k e (λ n. cc) in
    let few : Each Few (mirror_number a ∷ []) = of_more (few-mirrored 9 a s (omega arith) p) of_none in
    read_by (k ∷ mirror_number a ∷ []) (omega arith) free (numbers-short k one few (omega arith)) ∙ rw (e, number-mirrored 9 a s p)

sample-mirrored : (k a b : List ℕ) (s t : ℤ) → kind_of k ≡ K.Sample → long_number_of 9 a ≡ Some s → long_number_of 9 b ≡ Some t
    → Each (Each NoTab) (k ∷ mirror_number a ∷ mirror_number b ∷ [])
    → line_of (parted (k ∷ mirror_number a ∷ mirror_number b ∷ [])) ≡ L.Sample (record { setpoint = neg_ℤ s; actual = neg_ℤ t })
unfolding field_at sample_of number_of
sample-mirrored k a b s t e p q free =
    let one = one-letter k e (λ n. cc) in
    let few : Each Few (mirror_number a ∷ mirror_number b ∷ []) = of_more (few-mirrored 9 a s (omega arith) p) (of_more (few-mirrored 9 b t (omega arith) q) of_none) in
    read_by (k ∷ mirror_number a ∷ mirror_number b ∷ []) (omega arith) free (numbers-short k one few (omega arith))
    ∙ rw (e, number-mirrored 9 a s p, number-mirrored 9 b t q)

contract-mirrored : (k d i a p : List ℕ) (c : Contract) → kind_of k ≡ K.Contract → direction_of d ≡ Some c.direction → number_of a ≡ Some c.award → number_of p ≡ Some c.price
    → length (parted (k ∷ d ∷ i ∷ a ∷ p ∷ [])) ≤ 80 → Each (Each NoTab) (k ∷ (letter_of (mirror_of c.direction) ∷ []) ∷ i ∷ a ∷ p ∷ [])
    → line_of (parted (k ∷ (letter_of (mirror_of c.direction) ∷ []) ∷ i ∷ a ∷ p ∷ [])) ≡ L.Contract (mirror_contract c)
unfolding field_at contract_of
contract-mirrored k d i a p c e f g h short free =
    let fs = i ∷ a ∷ p ∷ [] in
    let x = letter_of (mirror_of c.direction) ∷ [] in
    let same : length d ≡ length x = ap length (direction-letter d c.direction f) in
    let fits : length (parted (k ∷ x ∷ fs)) ≤ 80 = omega (arith, length-append k (tabbed (d ∷ fs)), length-append k (tabbed (x ∷ fs)), tabbed-length d fs, tabbed-length x fs) in
    read_by (k ∷ x ∷ fs) (omega arith) free fits ∙ rw (e, letter-direction (mirror_of c.direction), g, h)

-- ---- what holds of each byte of a line's fields, of a minus and of the letters of the directions, holds of each byte in the mirror

module _ {P : ℕ → Type 0} (minus : P 45) (letters : (d : Direction) → P (letter_of d)) where
  each_number : {f : List ℕ} → Each P f → Each P (mirror_number f)
  unfolding mirror_number
  each_number of_none = of_none
  each_number (of_more {x = x} {xs = xs} p ps) = go (eqb x 45) (eqb x 48)
    where
      go : (m n : Bool) → Each P (cond m xs (cond n (x ∷ xs) (45 ∷ (x ∷ xs))))
      go true n = ps
      go false true = of_more p ps
      go false false = of_more minus (of_more p ps)

  pub each-mirrored : (l : Line) {fs : List (List ℕ)} → Each (Each P) fs → Each (Each P) (mirror_fields l fs)
  each-mirrored (L.Header h) e = e
  each-mirrored (L.Bounds x) e = of_more (each-field _ e) (of_more (each_number (each-field _ e)) (of_more (each_number (each-field _ e)) of_none))
  each-mirrored (L.Setpoint s) e = of_more (each-field _ e) (of_more (each_number (each-field _ e)) of_none)
  each-mirrored (L.Contract c) e =
      let d : Each P (letter_of (mirror_of c.direction) ∷ []) = of_more (letters (mirror_of c.direction)) of_none in
      of_more (each-field _ e) (of_more d (of_more (each-field _ e) (of_more (each-field _ e) (of_more (each-field _ e) of_none))))
  each-mirrored (L.Sample x) e = of_more (each-field _ e) (of_more (each_number (each-field _ e)) (of_more (each_number (each-field _ e)) of_none))
  each-mirrored L.End e = e
  each-mirrored L.Malformed e = e

mirror-some : (l : Line) (fs : List (List ℕ)) → 1 ≤ length fs → 1 ≤ length (mirror_fields l fs)
mirror-some (L.Header h) fs s = s
mirror-some (L.Bounds x) fs s = omega arith
mirror-some (L.Setpoint x) fs s = omega arith
mirror-some (L.Contract c) fs s = omega arith
mirror-some (L.Sample x) fs s = omega arith
mirror-some L.End fs s = s
mirror-some L.Malformed fs s = s

no-tab-letter : (d : Direction) → NoTab (letter_of d)
no-tab-letter Positive e = omega arith
no-tab-letter Negative e = omega arith

no-tab-minus : NoTab 45
no-tab-minus e = omega arith

-- ---- THE LAWS, for every line

-- the fields of the mirror
mirror-no-tab : (line : List ℕ) → Each (Each NoTab) (mirror_fields (line_of line) (fields line))
mirror-no-tab line = each-mirrored no-tab-minus no-tab-letter (line_of line) (fields-no-tab line)

pub fields-mirrored : (line : List ℕ) → fields (mirror_bytes line) ≡ mirror_fields (line_of line) (fields line)
unfolding mirror_bytes
fields-mirrored line = fields_back (mirror_fields (line_of line) (fields line)) (mirror-some (line_of line) (fields line) (fields-some line)) (mirror-no-tab line)

-- it says the mirror of what the line says
said-mirrored : {fs : List (List ℕ)} {l : Line} → Said fs l → line_of (parted fs) ≡ l → Each (Each NoTab) (mirror_fields l fs) → line_of (parted (mirror_fields l fs)) ≡ mirror_line l
unfolding field_at
said-mirrored {fs} (stays e f) h n = rw (e, f fs) h
said-mirrored (bounds {k} {a} {b} {oga} {uga} e p q) h n = bounds-mirrored k a b oga uga e p q n
said-mirrored (setpoint {k} {a} {s} e p) h n = setpoint-mirrored k a s e p n
said-mirrored (contract {k} {d} {i} {a} {p} {c} e f g q) h n = contract-mirrored k d i a p c e f g q (contract-short (parted (k ∷ d ∷ i ∷ a ∷ p ∷ [])) c h) n
said-mirrored (sample {k} {a} {b} {s} {t} e p q) h n = sample-mirrored k a b s t e p q n

pub line-mirrored : (line : List ℕ) → line_of (mirror_bytes line) ≡ mirror_line (line_of line)
unfolding mirror_bytes
line-mirrored line = said-mirrored (said line) (ap line_of (parted-fields line)) (mirror-no-tab line)

-- mirrored twice it is the line
pub direction-twice : (d : Direction) → mirror_of (mirror_of d) ≡ d
direction-twice Positive = refl
direction-twice Negative = refl

said-twice : {fs : List (List ℕ)} {l : Line} → Said fs l → mirror_fields (mirror_line l) (mirror_fields l fs) ≡ fs
unfolding field_at
said-twice {fs} (stays e f) = rw (e, f (mirror_fields _ fs)) (f fs)
said-twice (bounds {k} {a} {b} {oga} {uga} e p q) = rw (number-twice 11 a oga p, number-twice 11 b uga q)
said-twice (setpoint {k} {a} {s} e p) = rw (number-twice 9 a s p)
said-twice (contract {k} {d} {i} {a} {p} {c} e f g q) = rw (direction-twice c.direction, direction-letter d c.direction f)
said-twice (sample {k} {a} {b} {s} {t} e p q) = rw (number-twice 9 a s p, number-twice 9 b t q)

pub line-twice : (line : List ℕ) → mirror_bytes (mirror_bytes line) ≡ line
unfolding mirror_bytes
line-twice line = rw (line-mirrored line, fields-mirrored line, said-twice (said line)) (parted-fields line)

-- a contract keeps its identifier
pub identifier-mirrored : (line : List ℕ) (c : Contract) → line_of line ≡ L.Contract c → identifier_of (mirror_bytes line) ≡ identifier_of line
unfolding identifier_of field_at
identifier-mirrored line c e = rw (fields-mirrored line, e)
