use Prim.Native.Nat.{◌-◌, ◌≤◌}
use mathlib.Core.Path.{◌≡◌}
use lib.ListN.{length, drop}
use Rattle.judging.specs.Kept.{kept_in, SameLists}
use Rattle.sharefeed.specs.Reader.{progress, feed_of}
use Rattle.sharefeed.proofs.Reader.feed.Given as goal

abbrev pub invariant-loop-i : goal.invariant-loop-i
invariant-loop-i l =
    (l.i ≤ length l.block) × (feed_of (progress l.initial.self (kept_in l.initial.kept)) l.block ≡ feed_of (progress l.self (kept_in l.kept)) (drop l.i l.block))
    × SameLists l.initial.kept l.kept

abbrev pub decreases-loop-i : goal.decreases-loop-i
decreases-loop-i l = length l.block - l.i
