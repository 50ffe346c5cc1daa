-- What a header comes to: the lot that is used, and the plan that a run holds.
use Rattle.std.specs.Prelude.{ℤ, pos}
use Rattle.arithmetic.specs.Whole.{up, least_of}
use Rattle.vocabulary.specs.declared.header.Header.{Header}
use Rattle.vocabulary.specs.declared.header.Lot.{Lot}
use Rattle.vocabulary.specs.declared.header.Lot.TheVariants.{Blank, Kw}
use Rattle.settlement.specs.declared.plan.Plan.{Plan}

-- a lot that is left blank is 5,000 kW
abbrev pub lot_meant : Lot → ℤ
lot_meant Blank = pos 5000
lot_meant (Kw kw) = kw

-- the plan of a header
unfoldable pub plan_of : Header → Plan
plan_of h = record { date = h.date; quarters = least_of (up h.quarters) 255 }
