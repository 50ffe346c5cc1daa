-- What stands where in a list of numbers.
-- Assumes nothing.
use Rattle.std.proofs.Common.{◌≡◌, ℕ, zero, suc, ◌-◌, ◌<◌, List, [], ◌∷◌, length, get_or, take, drop, replicate, refl, arith, length-drop, take_all}

-- what stands from a place on
pub from_place : (l : List ℕ) (i : ℕ) → take (length l - i) (drop i l) ≡ drop i l
from_place l i = take_all (length l - i) (drop i l) (omega (arith, length-drop i l))

-- within a list it does not matter what stands past its end
pub get_d-other : (l : List ℕ) (i a b : ℕ) → i < length l → get_or l i a ≡ get_or l i b
get_d-other [] i a b h = absurd (omega arith)
get_d-other (x ∷ l) zero a b h = refl
get_d-other (x ∷ l) (suc i) a b h = get_d-other l i a b (omega arith)

-- a list of zeros
pub zeros : (n k : ℕ) → ◌≡◌ {A = ℕ} (get_or (replicate n 0) k 0) 0
zeros zero k = refl
zeros (suc n) zero = refl
zeros (suc n) (suc k) = zeros n k
