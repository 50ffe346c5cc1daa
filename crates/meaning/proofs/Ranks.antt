-- The grounds of every line and of every call stand in the order of the listing.
-- Assumes nothing.
use mathlib.Core.Path.{◌≡◌, refl}
use mathlib.Core.Bool.{true}
use mathlib.Core.List.{List}
use Prim.Native.Nat.{ℕ}
use lib.IntN.{ℤ}
use Rattle.reading.specs.declared.Line.{Line}
use Rattle.reading.specs.declared.Line.TheVariants as L
use Rattle.vocabulary.specs.Grounds.{ranked}
use Rattle.settlement.specs.Calls.{header_grounds}
use Rattle.channel.specs.Start.{Start, fresh, carried}
use Rattle.vocabulary.specs.declared.acceptance.Bounds.{Bounds}
use Rattle.meaning.specs.Given.{Given}
use Rattle.meaning.specs.Meaning.{SoFar, nothing, these, bounds_from, bounds_grounds, setpoint_from, setpoint_grounds, contract_grounds, sample_grounds, end_grounds, grounds}
use Rattle.meaning.specs.Calls.{Held, without_run, held, Call, opens, bounds_given, recalls, contracts, samples, takes, ends, call_grounds}

bounds-ranked : (start : Start) (g : Given) (bounds : Bounds) → ranked (bounds_from start g bounds) ≡ true
bounds-ranked fresh g bounds = refl
bounds-ranked (carried b) g bounds = refl

setpoint-ranked : (start : Start) (g : Given) (s : ℤ) → ranked (setpoint_from start g s) ≡ true
setpoint-ranked fresh g s = refl
setpoint-ranked (carried b) g s = refl

pub line-ranked : (so : SoFar) (identifier : List ℕ) (line : Line) → ranked (grounds so identifier line) ≡ true
unfolding grounds header_grounds bounds_grounds setpoint_grounds contract_grounds sample_grounds end_grounds
line-ranked nothing identifier (L.Header h) = refl
line-ranked nothing identifier (L.Bounds bounds) = refl
line-ranked nothing identifier (L.Setpoint s) = refl
line-ranked nothing identifier (L.Contract c) = refl
line-ranked nothing identifier (L.Sample x) = refl
line-ranked nothing identifier L.End = refl
line-ranked nothing identifier L.Malformed = refl
line-ranked (these g) identifier (L.Header h) = refl
line-ranked (these g) identifier (L.Bounds bounds) = bounds-ranked g.start g bounds
line-ranked (these g) identifier (L.Setpoint s) = setpoint-ranked g.start g s
line-ranked (these g) identifier (L.Contract c) = refl
line-ranked (these g) identifier (L.Sample x) = refl
line-ranked (these g) identifier L.End = refl
line-ranked (these g) identifier L.Malformed = refl

pub call-ranked : (so : Held) (call : Call) → ranked (call_grounds so call) ≡ true
unfolding call_grounds header_grounds bounds_grounds setpoint_grounds contract_grounds sample_grounds
call-ranked so (opens h) = refl
call-ranked without_run (bounds_given bounds) = refl
call-ranked without_run (recalls s) = refl
call-ranked without_run (contracts c identifier) = refl
call-ranked without_run (samples x) = refl
call-ranked without_run takes = refl
call-ranked without_run ends = refl
call-ranked (held g t) (bounds_given bounds) = bounds-ranked g.start g bounds
call-ranked (held g t) (recalls s) = setpoint-ranked g.start g s
call-ranked (held g t) (contracts c identifier) = refl
call-ranked (held g t) (samples x) = refl
call-ranked (held g t) takes = refl
call-ranked (held g t) ends = refl
