-- What is printed for one line, and that no hole that is filled in is longer than 60 samples.
use Rattle.std.proofs.Common.{◌≡◌, ℕ, ◌-◌, ◌*◌, ◌≤◌, Bool, true, false, not, ◌&&◌, eqb, ltb, List, [], ◌∷◌, ◌++◌, ℤ, refl, ap, ◌∙◌, arith, ltb-false}
use Rattle.arithmetic.proofs.Booleans.{true-false}
use Rattle.vocabulary.specs.declared.interval.Interval.{Interval}
use Rattle.vocabulary.specs.declared.interval.Interval.TheVariants.{One, Three, Four}
use Rattle.vocabulary.specs.Interval.{windows_of}
use Rattle.vocabulary.specs.declared.refusal.Refusal.TheVariants.{NoFirstSample, HoleTooLong}
use Rattle.vocabulary.specs.Refusals.{Ruling, accepted}
use Rattle.vocabulary.specs.Grounds.{on, first}
use Rattle.vocabulary.specs.declared.sample.Sample.{Sample}
use Rattle.sheets.specs.Sheet.{refusal_text}
use Rattle.sheets.specs.Putting.{WroteUpTo}
use Rattle.mending.specs.Mending.{Item, stray, repeated, kept, refused, seconds_of, sample_text, mark_text, item_text, items_text}
use Rattle.mending.specs.Mender.{hole_refusal, end_refusal}
use Rattle.mending.specs.declared.mender.Mender.{Mender}
use Rattle.mending.proofs.MissingLaws.{items-append, one-item}

-- room for more is room enough
pub wider : {m : ℕ} (n : ℕ) {d d' : List ℕ} {at r : ℕ} {text : List ℕ} → m ≤ n → WroteUpTo m d at text r d' → WroteUpTo n d at text r d'
wider n h p = record { wrote = p.wrote; short = omega (arith, p.short) }

pub good-text : (xs : List Item) (x : Sample) → items_text (xs ++ (kept x ∷ [])) ≡ items_text xs ++ sample_text x
unfolding item_text
good-text xs x = items-append xs (kept x ∷ []) ∙ ap (λ (l : List ℕ). items_text xs ++ l) (one-item (kept x))

pub stray-text : (second : ℤ) → items_text (stray second ∷ []) ≡ mark_text second 79
unfolding item_text
stray-text second = one-item (stray second)

pub repeated-text : (second : ℤ) → items_text (repeated second ∷ []) ≡ mark_text second 84
unfolding item_text
repeated-text second = one-item (repeated second)

pub refused-text : (n : ℕ) (refusal : Ruling) → items_text (refused n refusal ∷ []) ≡ refusal_text n refusal
unfolding item_text
refused-text n refusal = one-item (refused n refusal)

-- neither 19 nor 20
no-hole-refused : (a b : Bool) → accepted (first (on NoFirstSample a ∷ on HoleTooLong b ∷ [])) ≡ true → b ≡ false
no-hole-refused true b e = true-false e refl
no-hole-refused false true e = true-false e refl
no-hole-refused false false e = refl

few-places : (i : Interval) (n : ℕ) → n * (windows_of i).seconds ≤ 60 → n ≤ 60
few-places One n h = omega arith
few-places Three n h = omega arith
few-places Four n h = omega arith

pub hole-short : (m : Mender) (place : ℕ) → accepted (hole_refusal m place) ≡ true → place - m.next ≤ 60
unfolding hole_refusal
hole-short m place e =
    few-places m.grid.interval (place - m.next)
    (ltb-false _ _ (no-hole-refused (eqb m.next 0 && not (eqb place 0)) (ltb 60 ((place - m.next) * seconds_of m.grid)) e))

pub end_short : (m : Mender) → accepted (end_refusal m) ≡ true → m.grid.places - m.next ≤ 60
unfolding end_refusal
end_short m e =
    few-places m.grid.interval (m.grid.places - m.next)
    (ltb-false _ _ (no-hole-refused (eqb m.next 0) (ltb 60 ((m.grid.places - m.next) * seconds_of m.grid)) e))
