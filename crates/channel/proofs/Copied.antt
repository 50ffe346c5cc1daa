-- Stretches copied one after the other: what stands at each place of a line, and of a ring.
-- Assumes nothing.
use Prim.Native.Nat.{ℕ, ◌<◌, ◌≤◌, ◌+◌, ◌-◌, ◌%◌}
use Rattle.std.proofs.Common.{⊎_elim, arith}
use Rattle.std.proofs.lemmas.Bool.{cases_lt}
use Rattle.std.proofs.lemmas.List.{places}
use borrow.Rule.Slice.PartMut.{put_mid}
use mathlib.Core.Path.{◌≡◌, ◌∙◌}
use mathlib.Core.List.{List, ◌++◌}
use lib.IntN.{ℤ, pos}
use lib.ListN.{length, get_or, take, drop}
use lib.Seq.{get_or-take}
use Rattle.series.specs.Places.{Fills}
use Rattle.bounds.specs.Widening.{back_at}
use Rattle.channel.specs.State.{back_in}
use Rattle.channel.specs.Along.{aged_at, fresh_at, ring_at, Lined}

-- two stretches, the second copied to the place after the first
module _ (first second blank : List ℤ) (at room : ℕ) (one : length first ≡ at) (two : length second ≡ room) where
  pub in_first : (k : ℕ) → k < at → get_or (put_mid at room (first ++ drop at blank) second) k (pos 0) ≡ get_or first k (pos 0)
  in_first k h = grind (arith, places)

  pub in_second : (k : ℕ) → at ≤ k → k < at + room → get_or (put_mid at room (first ++ drop at blank) second) k (pos 0) ≡ get_or second (k - at) (pos 0)
  in_second k h b = grind (arith, places)

-- a stretch copied to a place after others
module _ (line more : List ℤ) (at room : ℕ) (long : at ≤ length line) (size : length more ≡ room) where
  pub before-it : (k : ℕ) → k < at → get_or (put_mid at room line more) k (pos 0) ≡ get_or line k (pos 0)
  before-it k h = grind (arith, places)

  pub in_it : (k : ℕ) → at ≤ k → k < at + room → get_or (put_mid at room line more) k (pos 0) ≡ get_or more (k - at) (pos 0)
  in_it k h b = grind (arith, places)

-- the ring from the place after the newest to its end is the older part of a line, and the ring up to the newest is the newer
module _ (ring : List ℤ) (newest : ℕ) (full : length ring ≡ 302) (low : newest < 302) where
  pub older-at : (k : ℕ) → k < 301 - newest → get_or (take (302 - (newest + 1)) (drop (newest + 1) ring)) k (pos 0) ≡ aged_at ring newest k
  unfolding aged_at back_in
  older-at k h = let e : (newest + 302 - (301 - k)) % 302 ≡ newest + 1 + k = omega arith in rw e (grind (arith, places))

  pub newer-at : (k : ℕ) → 301 - newest ≤ k → k < 302 → get_or (take (newest + 1) ring) (k - (301 - newest)) (pos 0) ≡ aged_at ring newest k
  unfolding aged_at back_in
  newer-at k h b = let e : (newest + 302 - (301 - k)) % 302 ≡ k - (301 - newest) = omega arith in rw e (grind (arith, places))

-- the end of a line up to the newest fills a ring up to it, and what is before it in the line stands after it in the ring
module _ (line : List ℤ) (n newest : ℕ) (long : length line ≡ 1202) (few : n ≤ 900) (low : newest < 302) where
  pub end-at : (k : ℕ) → k < newest + 1 → get_or (take (302 + n - (301 + n - newest)) (drop (301 + n - newest) line)) k (pos 0) ≡ ring_at line n newest k
  unfolding ring_at back_at
  end-at k h = let e : 301 + n - (newest + 302 - k) % 302 ≡ 301 + n - newest + k = omega arith in rw e (grind (arith, places))

  pub rest-at : (k : ℕ) → newest + 1 ≤ k → k < 302 → get_or (take (301 + n - newest - n) (drop n line)) (k - (newest + 1)) (pos 0) ≡ ring_at line n newest k
  unfolding ring_at back_at
  rest-at k h b = let e : 301 + n - (newest + 302 - k) % 302 ≡ n + (k - (newest + 1)) = omega arith in rw e (grind (arith, places))

-- three stretches make a line
pub line-of : (ring ss older newer more blank : List ℤ) (newest n : ℕ) → length ring ≡ 302 → newest < 302 → n ≤ length ss → length blank ≡ 1202
    → older ≡ take (302 - (newest + 1)) (drop (newest + 1) ring) → newer ≡ take (newest + 1) ring → more ≡ take n ss
    → Lined ring newest ss (put_mid 302 (302 + n - 302) (put_mid (301 - newest) (302 - (301 - newest)) (older ++ drop (301 - newest) blank) newer) more) n
unfolding fresh_at
line-of ring ss older newer more blank newest n full low some wide one two three =
    let at = 301 - newest in
    let sized_old : length older ≡ at = rw one (grind (arith, places)) in
    let sized_new : length newer ≡ 302 - at = rw two (grind (arith, places)) in
    let sized_more : length more ≡ 302 + n - 302 = rw three (grind (arith, places)) in
    let aged = put_mid at (302 - at) (older ++ drop at blank) newer in
    let long : 302 ≤ length aged = grind (arith, places) in
    record {
      sized = full;
      aged = record {
        at = λ k a b.
            before-it aged more 302 (302 + n - 302) long sized_more k b
            ∙ ⊎_elim
            (λ h. in_first older newer blank at (302 - at) sized_old sized_new k h ∙ rw one (older-at ring newest full low k h))
            (λ h. in_second older newer blank at (302 - at) sized_old sized_new k h (omega arith) ∙ rw two (newer-at ring newest full low k h b))
            (cases_lt k at);
      };
      fresh = record {
        at = λ k a b.
            in_it aged more 302 (302 + n - 302) long sized_more k a (omega arith)
            ∙ rw three (get_or-take n ss (k - 302) (pos 0) (omega arith));
      };
    }

-- and two a ring
pub ring-of : (line newer older blank : List ℤ) (n newest : ℕ) → length line ≡ 1202 → n ≤ 900 → newest < 302 → length blank ≡ 302
    → newer ≡ take (302 + n - (301 + n - newest)) (drop (301 + n - newest) line) → older ≡ take (301 + n - newest - n) (drop n line)
    → (length (put_mid (newest + 1) (302 - (newest + 1)) (newer ++ drop (newest + 1) blank) older) ≡ 302)
    × Fills (ring_at line n newest) 0 302 (put_mid (newest + 1) (302 - (newest + 1)) (newer ++ drop (newest + 1) blank) older)
ring-of line newer older blank n newest long few low wide one two =
    let at = newest + 1 in
    let sized_new : length newer ≡ at = rw one (grind (arith, places)) in
    let sized_old : length older ≡ 302 - at = rw two (grind (arith, places)) in (
      grind (arith, places),
      record {
        at = λ k a b.
            ⊎_elim
            (λ h. in_first newer older blank at (302 - at) sized_new sized_old k h ∙ rw one (end-at line n newest long few low k h))
            (λ h. in_second newer older blank at (302 - at) sized_new sized_old k h (omega arith) ∙ rw two (rest-at line n newest long few low k h b))
            (cases_lt k at);
      },
    )
