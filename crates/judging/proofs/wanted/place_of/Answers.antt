-- `judging::wanted::place_of` meets its contract. Assumes nothing.
use Rattle.judging.specs.Wanted.{place_of}
use borrow.Author.Tests.{lt-ltb, le-ltb}
use native.Mathlib.Omega.{arith}
use Rattle.std.proofs.Common.{rules}
use Rattle.judging.proofs.wanted.place_of.Goals as goal

pub returns-then-rest-positives : goal.returns-then-rest-positives
unfolding place_of
returns-then-rest-positives c = rw (lt-ltb _ _ c.if-rest-positives.true)

pub returns : goal.returns
unfolding place_of
returns c = rw (le-ltb _ _ c.if-rest-positives.false)
