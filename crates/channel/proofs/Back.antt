-- The last setpoints of a past, oldest first.
-- Assumes nothing.
use Prim.Native.Nat.{ℕ, zero, suc, ◌<◌}
use mathlib.Core.Path.{◌≡◌, refl, ap}
use mathlib.Core.Bool.{Bool, true, false}
use mathlib.Core.List.{List, [], ◌∷◌}
use native.Mathlib.Omega.{arith}
use lib.Dec.{ltb, lit<}
use lib.IntN.{ℤ}
use lib.ListN.{length, get_or}
use lib.Seq.{get_or_at}
use borrow.Author.Tests.{ltb-true, ltb-false}
use Rattle.vocabulary.specs.declared.interval.Interval.{Interval}
use Rattle.vocabulary.specs.declared.interval.Interval.TheVariants.{One, Three, Four}
use Rattle.vocabulary.specs.Interval.{windows_of}
use Rattle.channel.specs.Backward.{series_after}
use Rattle.channel.specs.Block.{back_to}
use Rattle.channel.proofs.Series.{series-append, series-length}

-- a block has a setpoint
pub some_back : (i : Interval) → 0 < (windows_of i).to
some_back One = lit< tt
some_back Three = lit< tt
some_back Four = lit< tt

pub back-length : (f : ℕ → ℤ) (n : ℕ) → length (back_to f n) ≡ n
unfolding back_to
back-length f zero = refl
back-length f (suc n) = ap suc (back-length f n)

pub back-same : (f g : ℕ → ℤ) (n : ℕ) → ((k : ℕ) → k < n → f k ≡ g k) → back_to f n ≡ back_to g n
unfolding back_to
back-same f g zero e = refl
back-same f g (suc n) e = rw (e n (omega arith), back-same f g n (λ k h. e k (omega arith)))

-- newest first, what stands at place k lies k samples back
pub back_at_lem : (f : ℕ → ℤ) (n : ℕ) (h : List ℤ) (k : ℕ) (z : ℤ) → k < n → get_or (series_after h (back_to f n)) k z ≡ f k
unfolding back_to series_after
back_at_lem f zero h k z l = absurd (omega arith)
back_at_lem f (suc n) h k z l = go (ltb k n) refl (back_at_lem f n (f n ∷ h) k z)
  where
    go : (t : Bool) → ltb k n ≡ t → (k < n → get_or (series_after (f n ∷ h) (back_to f n)) k z ≡ f k) → get_or (series_after (f n ∷ h) (back_to f n)) k z ≡ f k
    go true e before = before (omega (arith, ltb-true))
    go false e before =
        let here : k ≡ n = omega (arith, ltb-false) in
        rw (here, series-append (f n ∷ h) (back_to f n))
        (get_or_at (series_after [] (back_to f n)) (f n) h z n (omega (arith, series-length [] (back_to f n), back-length f n)))
