-- Each line that was accepted is accounted for by one item, in order, beside what is filled in.
-- Assumes nothing.
use Prim.Native.Nat.{ℕ, zero, suc, ◌+◌}
use mathlib.Core.Path.{◌≡◌, refl, ap, ◌∙◌}
use mathlib.Core.List.{List, [], ◌∷◌, ◌++◌}
use Rattle.vocabulary.specs.declared.sample.Sample.{Sample}
use Rattle.vocabulary.specs.declared.recorded.Recorded.{Recorded}
use Rattle.mending.specs.declared.grid.Grid.{Grid}
use Rattle.mending.specs.Mending.{Item, stray, repeated, filled, kept, refused, filled_from}
use Rattle.mended.specs.Promises.{AccountedBy, as_kept, OneForEach, no_more, and_one, unfilled}
use Rattle.mended.specs.Promises as P
use Rattle.mended.proofs.Standing.{Dropped, as_stray, as_repeated, Mends, no_line_lem, drops, begins, goes_on_lem}

pub unfilled-both : (a b : List Item) → unfilled (a ++ b) ≡ unfilled a ++ unfilled b
unfolding unfilled
unfilled-both [] b = refl
unfilled-both (stray second ∷ a) b = ap (λ (l : List Item). stray second ∷ l) (unfilled-both a b)
unfilled-both (repeated second ∷ a) b = ap (λ (l : List Item). repeated second ∷ l) (unfilled-both a b)
unfilled-both (filled second x ∷ a) b = unfilled-both a b
unfilled-both (kept x ∷ a) b = ap (λ (l : List Item). kept x ∷ l) (unfilled-both a b)
unfilled-both (refused n refusal ∷ a) b = ap (λ (l : List Item). refused n refusal ∷ l) (unfilled-both a b)

pub none-unfilled : (t : Grid) (x : Sample) (n k : ℕ) → unfilled (filled_from t x n k) ≡ []
unfolding unfilled filled_from
none-unfilled t x n zero = refl
none-unfilled t x n (suc k) = none-unfilled t x (n + 1) k

one_more : {X Y : Type 0} {P : X → Y → Type 0} {xs : List X} {ys : List Y} {x : X} {y : Y} → OneForEach P xs ys → P x y → OneForEach P (xs ++ (x ∷ [])) (ys ++ (y ∷ []))
one_more no_more p = and_one p no_more
one_more (and_one q r) p = and_one q (one_more r p)

dropped-unfilled : {row : Recorded} {item : Item} → Dropped row item → unfilled (item ∷ []) ≡ item ∷ []
unfolding unfilled
dropped-unfilled as_stray = refl
dropped-unfilled as_repeated = refl

dropped-accounts : {row : Recorded} {item : Item} → Dropped row item → AccountedBy row item
dropped-accounts as_stray = P.as_stray
dropped-accounts as_repeated = P.as_repeated

kept-unfilled : (t : Grid) (x y : Sample) (n k : ℕ) → unfilled (filled_from t x n k ++ (kept y ∷ [])) ≡ kept y ∷ []
unfolding unfilled
kept-unfilled t x y n k = unfilled-both (filled_from t x n k) (kept y ∷ []) ∙ ap (λ (l : List Item). l ++ (kept y ∷ [])) (none-unfilled t x n k)

pub mends-account : {t : Grid} {rows good : List Recorded} {items : List Item} {n : ℕ} → Mends t rows good items n → OneForEach AccountedBy rows (unfilled items)
unfolding unfilled
mends-account no_line_lem = no_more
mends-account (drops {items = items} {item = item} d m) = rw (unfilled-both items (item ∷ []), dropped-unfilled d) (one_more (mends-account m) (dropped-accounts d))
mends-account (begins {items = items} row f r z m) = rw (unfilled-both items (kept row.sample ∷ [])) (one_more (mends-account m) as_kept)
mends-account {t} (goes_on_lem {items = items} {n = n} {g = g} row k i f w e s m) =
    rw (unfilled-both items (filled_from t g.sample n k ++ (kept row.sample ∷ [])), kept-unfilled t g.sample row.sample n k) (one_more (mends-account m) as_kept)
