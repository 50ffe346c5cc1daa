-- `judging::wanted::is_wanted` meets its contract: where one is wanted, a quarter hour has some. Assumes nothing.
use Rattle.judging.proofs.WantedLaws.{some-wanted}
use Rattle.judging.specs.Wanted.{wanted_in, place_in, is_wanted}
use borrow.Author.Tests.{le-ltb, lt-ltb}
use mathlib.Core.Path.{◌≡◌, ◌∙◌}
use Prim.Native.Nat.{◌+◌, ◌*◌, ◌<◌}
use native.Mathlib.Omega.{arith}
use Rattle.std.proofs.Common.{rules}
use Rattle.judging.proofs.wanted.is_wanted.Goals as goal

pub returns-then-wanted-given : goal.returns-then-wanted-given
unfolding is_wanted
returns-then-wanted-given c = rw (← c.wanted.ensures, le-ltb _ _ c.if-wanted-given.true)

pub place_of-place-requires : goal.place_of-place-requires
unfolding wanted_in
place_of-place-requires c =
    let e : c.wanted.result ≡ c.args.quarters * (c.held-positives.result + c.held-negatives.result) =
    c.wanted.ensures ∙ rw (← c.book.ensures, ← c.book-2.ensures, ← c.held-positives.ensures.is, ← c.held-negatives.ensures.is) in
    let h : c.args.given < c.args.quarters * (c.held-positives.result + c.held-negatives.result) = omega (arith, c.if-wanted-given.false) in
    (some-wanted c.args.quarters (c.held-positives.result + c.held-negatives.result) c.args.given h, omega (arith, c.held-positives.ensures.few, c.held-negatives.ensures.few))

pub returns : goal.returns
unfolding is_wanted
returns c =
    let place : c.place_of-place.result ≡ place_in c.args.books c.args.given =
    c.place_of-place.ensures ∙ rw (c.held-positives.ensures.is, c.held-negatives.ensures.is, c.book.ensures, c.book-2.ensures) in
    rw (← c.wanted.ensures, lt-ltb _ _ c.if-wanted-given.false, ← place) c.says_place.ensures
