-- A line by its fields. Those of numbers in the range of powers have neither tabs nor LFs, and few bytes, so that a line of them is read as it was written.
use Rattle.std.specs.Prelude.{Some}
use Rattle.std.proofs.Common.{◌≡◌, ℕ, suc, ◌+◌, ◌-◌, ◌*◌, ◌<◌, ◌≤◌, Bool, true, false, cond, List, [], ◌∷◌, ◌++◌, length, ℤ, sym, refl, ap, ◌∙◌, subst, append_assoc, append-nil, arith, length-append, ne_eqb, eqb-true}
use native.Mathlib.Decide.{ℕ_discrete}
use Rattle.fields.specs.Fields.{fields}
use Rattle.fields.proofs.FieldLaws.{fields-tab, fields-other, fields-none}
use Rattle.fields.specs.Numbers.{value_from, unsigned_of, number_of}
use Rattle.lines.specs.Lines.{on_first, lines_of}
use Rattle.lines.proofs.LineLaws.{NoLf, none, another, Written, last, ended, read_back, written}
use Rattle.reading.specs.Line.{is_letter}
use Rattle.vocabulary.specs.Sample.{power_in_range}
use Rattle.samples.proofs.DigitScan.{is_digit_lem, digit-of, after-digit}
use Rattle.samples.proofs.UnsignedForm.{plain_of, short}
use Rattle.samples.proofs.PowerForm.{number-plain, number-minus, no_number, above, below, range-pos, range-neg}

-- a number has neither tabs nor LFs
pub data Solid : List ℕ → Type 0 where
  empty : Solid []
  more : {x : ℕ} {xs : List ℕ} → 10 < x → Solid xs → Solid (x ∷ xs)

solid-digits : (bytes : List ℕ) (v w : ℕ) → value_from v bytes ≡ Some w → Solid bytes
solid-digits [] v w e = empty
solid-digits (x ∷ xs) v w e =
    let d = is_digit_lem x (digit-of v x w xs e) in
    let g : 10 < x = omega arith in
    more g (solid-digits xs (v * 10 + (x - 48)) w (after-digit v x w xs e))

-- and few bytes, if it is a power
pub record Short (bytes : List ℕ) : Type 0 where
  pub solid : Solid bytes
  pub few : length bytes ≤ 8

short-unsigned : (bytes : List ℕ) (n : ℕ) → unsigned_of 9 bytes ≡ Some n → n ≤ 2000000 → Solid bytes × (length bytes ≤ 7)
short-unsigned bytes n e h = let p = plain_of bytes n e in (solid-digits bytes 0 n p.says, short bytes n p h)

pub short-number : (bytes : List ℕ) (z : ℤ) → number_of bytes ≡ Some z → power_in_range z ≡ true → Short bytes
short-number [] z e r = absurd (no_number z e)
short-number (x ∷ xs) z e r =
    elim (ℕ_discrete x 45) [
      | yes q ↦
          let m = below (unsigned_of 9 xs) z (sym (number-minus x xs q) ∙ e) in
          let l = range-neg m.n (sym (ap power_in_range m.is) ∙ r) in
          let p = short-unsigned xs (suc m.n) m.says (omega arith) in
          let g : 10 < x = omega arith in
          record { solid = more g p.0; few = omega (arith, p.1) }
      | no q ↦
          let m = above (unsigned_of 9 (x ∷ xs)) z (sym (number-plain x xs q) ∙ e) in
          let p = short-unsigned (x ∷ xs) m.n m.says (range-pos m.n (sym (ap power_in_range m.is) ∙ r)) in
          record { solid = p.0; few = omega (arith, p.1) }
    ]

pub data Shorts : List (List ℕ) → Type 0 where
  no_field : Shorts []
  a-field : {f : List ℕ} {fs : List (List ℕ)} → Short f → Shorts fs → Shorts (f ∷ fs)

pub a-letter : (x : ℕ) → 10 < x → Solid (x ∷ [])
a-letter x h = more h empty

-- a first field and others, with a tab between one and the next
abbrev pub joined : List ℕ → List (List ℕ) → List ℕ
joined f [] = f
joined f (g ∷ gs) = f ++ (9 ∷ joined g gs)

-- the same before further bytes
abbrev pub spread : List ℕ → List (List ℕ) → List ℕ → List ℕ
spread f [] t = f ++ t
spread f (g ∷ gs) t = f ++ (9 ∷ spread g gs t)

pub one_line : (f : List ℕ) (gs : List (List ℕ)) (t : List ℕ) → spread f gs t ≡ joined f gs ++ t
one_line f [] t = refl
one_line f (g ∷ gs) t = ap (λ (l : List ℕ). f ++ (9 ∷ l)) (one_line g gs t) ∙ sym (append_assoc f (9 ∷ joined g gs) t)

-- fields with no tab in them
field-before : {a : List ℕ} (l : List ℕ) → Solid a → fields (a ++ (9 ∷ l)) ≡ a ∷ fields l
field-before l empty = fields-tab 9 l refl
field-before l (more {x} {xs} h s) = fields-other x (xs ++ (9 ∷ l)) (λ e. omega arith) ∙ ap (on_first x) (field-before l s)

field-last : {b : List ℕ} → Solid b → fields b ≡ b ∷ []
field-last empty = fields-none
field-last (more {x} {xs} h s) = fields-other x xs (λ e. omega arith) ∙ ap (on_first x) (field-last s)

-- lines with no LF in them
not-lf : {x : ℕ} → 10 < x → x ≡ 10 → ⊥
not-lf h e = omega arith

tab-lf : ◌≡◌ {A = ℕ} 9 10 → ⊥
tab-lf e = omega arith

no-lf : {a b : List ℕ} → Solid a → NoLf b → NoLf (a ++ b)
no-lf empty n = n
no-lf (more h s) n = another (not-lf h) (no-lf s n)

solid-lf : {b : List ℕ} → Solid b → NoLf b
solid-lf empty = none
solid-lf (more h s) = another (not-lf h) (solid-lf s)

-- SUCH A LINE IS READ AS IT WAS WRITTEN: its fields, its end, and that it is not overlong
pub joined-fields : {f : List ℕ} {gs : List (List ℕ)} → Solid f → Shorts gs → fields (joined f gs) ≡ f ∷ gs
joined-fields s no_field = field-last s
joined-fields {f} s (a-field {f = g} {fs = gs} h t) = field-before (joined g gs) s ∙ ap (λ (fs : List (List ℕ)). f ∷ fs) (joined-fields h.solid t)

joined-lf : {f : List ℕ} {gs : List (List ℕ)} → Solid f → Shorts gs → NoLf (joined f gs)
joined-lf s no_field = solid-lf s
joined-lf s (a-field h t) = no-lf s (another tab-lf (joined-lf h.solid t))

pub joined-few : (f : List ℕ) {gs : List (List ℕ)} → Shorts gs → length (joined f gs) ≤ length f + 9 * length gs
joined-few f no_field = omega arith
joined-few f (a-field {f = g} {fs = gs} h t) = omega (arith, length-append f (9 ∷ joined g gs), joined-few g t, h.few)

pub joined-first : {f : List ℕ} {gs : List (List ℕ)} → Solid f → Shorts gs → (rest : List ℕ) → lines_of (joined f gs ++ (10 ∷ rest)) ≡ joined f gs ∷ lines_of rest
joined-first s t rest = read_back (ended (joined-lf s t) (written rest))

-- AND NO OTHER LINE HAS THESE FIELDS
-- the fields, each after a tab
abbrev tabbed : List (List ℕ) → List ℕ
tabbed [] = []
tabbed (f ∷ fs) = 9 ∷ (f ++ tabbed fs)

parted : (l : List ℕ) → 9 ∷ l ≡ tabbed (fields l)
parted [] = rw fields-none
parted (x ∷ xs) =
    elim (ℕ_discrete x 9) [
      | yes e ↦ rw (e, fields-tab 9 xs refl) (ap (λ (l : List ℕ). 9 ∷ l) (parted xs))
      | no e ↦ rw (fields-other x xs e) (before (fields xs) (parted xs))
    ]
  where
    before : (fs : List (List ℕ)) → 9 ∷ xs ≡ tabbed fs → 9 ∷ (x ∷ xs) ≡ tabbed (on_first x fs)
    before [] q = absurd (let z : ◌≡◌ {A = ℕ} 0 1 = cc in (omega arith))
    before (f ∷ fs) q = let r : xs ≡ f ++ tabbed fs = cc in ap (λ (l : List ℕ). 9 ∷ (x ∷ l)) r

untabbed : (f : List ℕ) (gs : List (List ℕ)) → f ++ tabbed gs ≡ joined f gs
untabbed f [] = append-nil f
untabbed f (g ∷ gs) = ap (λ (l : List ℕ). f ++ (9 ∷ l)) (untabbed g gs)

pub line-of : (line f : List ℕ) (gs : List (List ℕ)) → fields line ≡ f ∷ gs → line ≡ joined f gs
line-of line f gs e =
    let p : 9 ∷ line ≡ 9 ∷ (f ++ tabbed gs) = parted line ∙ ap tabbed e in
    let q : line ≡ f ++ tabbed gs = cc in
    q ∙ untabbed f gs

pub letter : (f : List ℕ) (x : ℕ) → is_letter x f ≡ true → f ≡ x ∷ []
unfolding is_letter
letter [] x e = absurd (let q : ◌≡◌ {A = ℕ} 0 1 = cc in (omega arith))
letter (y ∷ []) x e = ap (λ (z : ℕ). z ∷ []) (eqb-true y x e)
letter (y ∷ (z ∷ zs)) x e = absurd (let n : (suc (suc (length zs)) ≡ 1 → ⊥) = λ h. omega arith in let q : ◌≡◌ {A = ℕ} 0 1 = cc (ne_eqb _ _ n) in (omega arith))

-- which side of a test a thing came by
pub by_first : {A : Type 0} (b : Bool) (x y z : A) → (y ≡ z → ⊥) → cond b x y ≡ z → (b ≡ true) × (x ≡ z)
by_first true x y z n e = (refl, e)
by_first false x y z n e = absurd (n e)

pub by-second : {A : Type 0} (b : Bool) (x y z : A) → (x ≡ z → ⊥) → cond b x y ≡ z → y ≡ z
by-second true x y z n e = absurd (n e)
by-second false x y z n e = e

-- the first line of some bytes, and what follows it
pub record Leads (line : List ℕ) (lines : List (List ℕ)) (t : List ℕ) : Type 0 where
  pub rest : List ℕ
  pub form : t ≡ line ++ (10 ∷ rest)
  pub then_lines : lines_of rest ≡ lines
  pub no-lf : NoLf line

pub leads : {ls : List (List ℕ)} {t : List ℕ} → Written ls t → (line : List ℕ) (lines : List (List ℕ)) → ls ≡ line ∷ lines → Leads line lines t
leads (last n) line lines e = absurd (let z : ◌≡◌ {A = ℕ} 0 1 = cc in (omega arith))
leads (ended {line = l} {lines = ls} {input} n w) line lines e =
    let p : l ≡ line = cc in
    let q : ls ≡ lines = cc in
    record { rest = input; form = rw p; then_lines = read_back w ∙ q; no-lf = subst NoLf p n }
