-- The grid: places and seconds.
use Rattle.std.proofs.Common.{◌≡◌, ℕ, ◌+◌, ◌-◌, ◌*◌, ◌/◌, ◌%◌, ◌<◌, ◌≤◌, true, false, not, eqb, ltb, leb, ℤ, pos, sym, ◌∙◌, div-add-mod', zero-mul, arith, le-ltb, eq-eqb, ne_eqb}
use native.Mathlib.Decide.{ℕ_discrete}
use lib.Signed.{lt_z}
use Rattle.arithmetic.specs.Whole.{up}
use Rattle.vocabulary.specs.declared.interval.Interval.{Interval}
use Rattle.vocabulary.specs.declared.interval.Interval.TheVariants.{One, Three, Four}
use Rattle.vocabulary.specs.Interval.{windows_of}
use Rattle.mending.specs.Mending.{seconds_of, place_of, outside}
use Rattle.mending.specs.declared.grid.Grid.{Grid}

pub samples-few : (i : Interval) → (windows_of i).samples ≤ 900
samples-few One = omega arith
samples-few Three = omega arith
samples-few Four = omega arith

pub seconds-some : (i : Interval) → 0 < (windows_of i).seconds
seconds-some One = omega arith
seconds-some Three = omega arith
seconds-some Four = omega arith

pub seconds-few : (i : Interval) → (windows_of i).seconds ≤ 4
seconds-few One = omega arith
seconds-few Three = omega arith
seconds-few Four = omega arith

-- a multiple is told by its place
pub multiple : (a i : ℕ) → eqb (a / i * i) a ≡ eqb (a % i) 0
multiple a i =
    let whole : a / i * i + a % i ≡ a = div-add-mod' a i in
    elim (ℕ_discrete (a % i) 0) [
      | yes e ↦ eq-eqb (a / i * i) a (omega (arith, whole, e)) ∙ sym (eq-eqb (a % i) 0 e)
      | no e ↦ ne_eqb (a / i * i) a (λ f. e (omega (arith, whole, f))) ∙ sym (ne_eqb (a % i) 0 e)
    ]

module _ (t : Grid) (second : ℤ) where
  pub below : lt_z second (pos 0) ≡ true → outside t second ≡ true
  unfolding outside
  below e = rw e

  pub past_end : lt_z second (pos 0) ≡ false → leb t.places (place_of t second) ≡ true → outside t second ≡ true
  unfolding outside
  past_end e f = rw (e, f)

  pub by-multiple : lt_z second (pos 0) ≡ false → leb t.places (place_of t second) ≡ false
      → outside t second ≡ not (eqb (place_of t second * seconds_of t) (up second))
  unfolding outside
  by-multiple e f = rw (e, f, multiple (up second) (seconds_of t))

-- nothing is missing before a place that is passed
pub no-hole : (from until i : ℕ) → until ≤ from → ltb 60 ((until - from) * i) ≡ false
no-hole from until i h =
    let none : until - from ≡ 0 = omega arith in
    rw (none, zero-mul i) (le-ltb 60 0 (omega arith))
