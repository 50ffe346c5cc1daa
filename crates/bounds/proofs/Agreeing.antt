-- Two pasts that agree as far back as the windows reach, or as a ring of 302 does, have the same windows and so the same bounds.
-- Assumes nothing.
use mathlib.Core.Path.{◌≡◌, ap₂}
use Prim.Native.Nat.{ℕ, zero, suc, ◌+◌, ◌-◌, ◌≤◌, ◌<◌}
use native.Mathlib.Omega.{arith}
use lib.IntN.{ℤ}
use Rattle.arithmetic.specs.Whole.{max_z, min_z}
use Rattle.vocabulary.specs.declared.interval.Interval.{Interval}
use Rattle.vocabulary.specs.Interval.{windows_of}
use Rattle.bounds.specs.declared.side.Side.{Side}
use Rattle.bounds.specs.declared.side.Side.TheVariants.{Upper, Lower}
use Rattle.bounds.specs.Windows.{over, spread_of, gradient_of, next_oga, next_uga}
use Rattle.bounds.specs.Side.{next_by, seen_by}
use Rattle.bounds.proofs.Scan.{within}

over-cong : (op : ℤ → ℤ → ℤ) (f g : ℕ → ℤ) (from n : ℕ) → ((k : ℕ) → k ≤ from + n → f k ≡ g k) → over op f from n ≡ over op g from n
unfolding over
over-cong op f g from zero h = h from (omega arith)
over-cong op f g from (suc n) h =
    ap₂ op (over-cong op f g from n (λ k l. h k (omega arith))) (h (from + suc n) (omega arith))

-- as far back as the windows reach: what lies farther back doesn't matter
module _ (i : Interval) (f g : ℕ → ℤ) (h : (k : ℕ) → k ≤ (windows_of i).to → f k ≡ g k) where
  near_same : (op : ℤ → ℤ → ℤ) → over op f 0 ((windows_of i).near - 0) ≡ over op g 0 ((windows_of i).near - 0)
  near_same op = over-cong op f g 0 ((windows_of i).near - 0) (λ k l. let w = within i in h k (omega arith))

  spread_same : (op : ℤ → ℤ → ℤ)
      → over op f (windows_of i).from ((windows_of i).to - (windows_of i).from) ≡ over op g (windows_of i).from ((windows_of i).to - (windows_of i).from)
  spread_same op =
      over-cong op f g (windows_of i).from ((windows_of i).to - (windows_of i).from) (λ k l. let w = within i in h k (omega arith))

  gradient-same : (lot : ℕ) → gradient_of i lot f ≡ gradient_of i lot g
  unfolding gradient_of spread_of
  gradient-same lot = rw (spread_same max_z, spread_same min_z)

  pub next-same : (side : Side) (lot : ℕ) (held : ℤ) → next_by side i lot f held ≡ next_by side i lot g held
  unfolding next_oga next_uga
  next-same Upper lot held = rw (near_same max_z, gradient-same lot)
  next-same Lower lot held = rw (near_same min_z, gradient-same lot)

-- and so as far back as the ring reaches
module _ (i : Interval) (f g : ℕ → ℤ) (h : (k : ℕ) → k < 302 → f k ≡ g k) where
  reach : (k : ℕ) → k ≤ (windows_of i).to → f k ≡ g k
  reach k l = let w = within i in h k (omega arith)

  pub next-cong : (side : Side) (lot : ℕ) (held : ℤ) → next_by side i lot f held ≡ next_by side i lot g held
  next-cong = next-same i f g reach

  pub seen-cong : seen_by i f ≡ seen_by i g
  unfolding seen_by
  seen-cong = rw (near_same i f g reach max_z, near_same i f g reach min_z, spread_same i f g reach max_z, spread_same i f g reach min_z)
