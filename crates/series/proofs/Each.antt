-- A function of each element of a list: of two lists one after the other, of blanks, of one element more.
-- Assumes nothing.
use Rattle.std.proofs.Common.{◌≡◌, ℕ, zero, suc, List, [], ◌∷◌, ◌++◌, drop, replicate, refl, ap}
use Rattle.series.specs.Scan.{each}

pub each-join : {X Y : Type 0} (f : X → Y) (a b : List X) → each f (a ++ b) ≡ each f a ++ each f b
unfolding each
each-join f [] b = refl
each-join {Y = Y} f (x ∷ a) b = ap (λ (l : List Y). f x ∷ l) (each-join f a b)

-- one element more
pub each-end : {X Y : Type 0} (f : X → Y) (xs : List X) (x : X) → each f (xs ++ (x ∷ [])) ≡ each f xs ++ (f x ∷ [])
unfolding each
each-end f xs x = each-join f xs (x ∷ [])

-- what is left of blanks
pub each-blank : {X Y : Type 0} (f : X → Y) (z : X) (n k : ℕ) → each f (drop k (replicate n z)) ≡ drop k (replicate n (f z))
unfolding each
each-blank f z zero zero = refl
each-blank f z zero (suc k) = refl
each-blank {Y = Y} f z (suc n) zero = ap (λ (l : List Y). f z ∷ l) (each-blank f z n zero)
each-blank f z (suc n) (suc k) = each-blank f z n k

-- two functions that agree
pub each_same : {X Y : Type 0} (f g : X → Y) → ((x : X) → f x ≡ g x) → (l : List X) → each f l ≡ each g l
unfolding each
each_same f g e [] = refl
each_same f g e (x ∷ l) = rw (e x, each_same f g e l)

pub drop-each : {X Y : Type 0} (f : X → Y) (n : ℕ) (l : List X) → drop n (each f l) ≡ each f (drop n l)
unfolding each
drop-each f zero l = refl
drop-each f (suc n) [] = refl
drop-each f (suc n) (x ∷ l) = drop-each f n l
