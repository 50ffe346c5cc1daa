-- Fields that are parted by tabs are the line that they make, and its fields; and what holds of each byte of the ones holds of each byte of the other.
-- Assumes nothing.
use Prim.Native.Nat.{ℕ, zero, suc, ◌+◌, ◌≤◌}
use mathlib.Core.Path.{◌≡◌, refl, sym, ap}
use mathlib.Core.List.{List, [], ◌∷◌, ◌++◌}
use native.Mathlib.Omega.{arith}
use native.Mathlib.Decide.{ℕ_discrete}
use lib.ListN.{length, length-append}
use Rattle.print.specs.Fields.{tabbed}
use Rattle.lines.specs.Lines.{on_first}
use Rattle.fields.specs.Fields.{fields, field_at}
use Rattle.fields.proofs.FieldLaws.{fields-none, fields-tab, fields-other}
use Rattle.meaning.specs.Endings.{Each, of_none, of_more}
use Rattle.join.proofs.NumberBack.{each_both}
use Rattle.join.proofs.BlockBack.{fields-parted}
use Rattle.mirror.specs.Bytes.{parted}

-- ---- the line of its fields

-- a byte before the fields that follow it
before-first : (x : ℕ) (xs : List ℕ) (fs : List (List ℕ)) → 9 ∷ xs ≡ tabbed fs → x ∷ xs ≡ parted (on_first x fs)
unfolding tabbed
before-first x xs [] e = absurd (omega (arith, ap length e))
before-first x xs (f ∷ fs) e = let r : xs ≡ f ++ tabbed fs = cc in ap (λ (l : List ℕ). x ∷ l) r

tabbed-first : (x : ℕ) (xs : List ℕ) (fs : List (List ℕ)) → 9 ∷ xs ≡ tabbed fs → 9 ∷ (x ∷ xs) ≡ tabbed (on_first x fs)
unfolding tabbed
tabbed-first x xs [] e = absurd (omega (arith, ap length e))
tabbed-first x xs (f ∷ fs) e = ap (λ (l : List ℕ). 9 ∷ l) (before-first x xs (f ∷ fs) e)

tabbed-fields : (line : List ℕ) → 9 ∷ line ≡ tabbed (fields line)
unfolding tabbed
tabbed-fields [] = rw fields-none
tabbed-fields (x ∷ xs) =
    elim (ℕ_discrete x 9) [
      | yes e ↦ rw (fields-tab x xs e, e) (ap (λ (l : List ℕ). 9 ∷ l) (tabbed-fields xs))
      | no e ↦ rw (fields-other x xs e) (tabbed-first x xs (fields xs) (tabbed-fields xs))
    ]

-- THE FIELDS OF A LINE, parted by tabs, are the line
untabbed : (line : List ℕ) (fs : List (List ℕ)) → 9 ∷ line ≡ tabbed fs → parted fs ≡ line
unfolding tabbed
untabbed line [] e = absurd (omega (arith, ap length e))
untabbed line (f ∷ fs) e = let r : line ≡ f ++ tabbed fs = cc in sym r

some-tabbed : (line : List ℕ) (fs : List (List ℕ)) → 9 ∷ line ≡ tabbed fs → 1 ≤ length fs
unfolding tabbed
some-tabbed line [] e = absurd (omega (arith, ap length e))
some-tabbed line (f ∷ fs) e = omega arith

pub parted-fields : (line : List ℕ) → parted (fields line) ≡ line
parted-fields line = untabbed line (fields line) (tabbed-fields line)

-- ---- the fields of a line that was parted

abbrev pub NoTab : ℕ → Type 0
NoTab x = x ≡ 9 → ⊥

-- FIELDS THAT WERE PARTED ARE FOUND AGAIN, one or more of them and no tab in any
pub fields_back : (fs : List (List ℕ)) → 1 ≤ length fs → Each (Each NoTab) fs → fields (parted fs) ≡ fs
fields_back [] some e = absurd (omega arith)
fields_back (f ∷ fs) some (of_more v vs) = fields-parted (λ x n. n) v vs

-- a line has a field
pub fields-some : (line : List ℕ) → 1 ≤ length (fields line)
fields-some line = some-tabbed line (fields line) (tabbed-fields line)

-- ---- its length

pub tabbed-length : (f : List ℕ) (fs : List (List ℕ)) → length (tabbed (f ∷ fs)) ≡ suc (length f + length (tabbed fs))
unfolding tabbed
tabbed-length f fs = ap suc (length-append f (tabbed fs))

pub tabbed-none : length (tabbed []) ≡ 0
unfolding tabbed
tabbed-none = refl

-- ---- what holds of each byte

module _ {P : ℕ → Type 0} where
  pub each-any : ((x : ℕ) → P x) → (xs : List ℕ) → Each P xs
  each-any h [] = of_none
  each-any h (x ∷ xs) = of_more (h x) (each-any h xs)

  -- of a field, by its number
  pub each-field : {fs : List (List ℕ)} (k : ℕ) → Each (Each P) fs → Each P (field_at k fs)
  unfolding field_at
  each-field k of_none = of_none
  each-field zero (of_more p ps) = p
  each-field (suc k) (of_more p ps) = each-field k ps

  -- of fields with tabs before them, where it holds of a tab
  pub each-tabbed : {fs : List (List ℕ)} → P 9 → Each (Each P) fs → Each P (tabbed fs)
  unfolding tabbed
  each-tabbed t of_none = of_none
  each-tabbed t (of_more p ps) = of_more t (each_both p (each-tabbed t ps))

  -- of the fields of a line: a tab is in none of them
  on-first : (x : ℕ) {fs : List (List ℕ)} → P x → Each (Each P) fs → Each (Each P) (on_first x fs)
  on-first x p of_none = of_none
  on-first x p (of_more q qs) = of_more (of_more p q) qs

  pub each-fields : {line : List ℕ} → Each (λ (x : ℕ). NoTab x → P x) line → Each (Each P) (fields line)
  each-fields of_none = rw fields-none (of_more of_none of_none)
  each-fields (of_more {x = x} {xs = xs} p ps) =
      elim (ℕ_discrete x 9) [
        | yes e ↦ rw (fields-tab x xs e) (of_more of_none (each-fields ps))
        | no e ↦ rw (fields-other x xs e) (on-first x (p e) (each-fields ps))
      ]

-- no tab stands in a field
pub fields-no-tab : (line : List ℕ) → Each (Each NoTab) (fields line)
fields-no-tab line = each-fields (each-any (λ x n. n) line)
