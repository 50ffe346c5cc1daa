-- A run without the powers of its samples, and with them again: how code holds a run while it reads many samples.
use Rattle.std.specs.Prelude.{ℕ, ◌+◌, List, ℤ}
use Rattle.quarter.specs.declared.hour.Settled.{Settled}
use Rattle.records.specs.Account.{with_quarter}
use Rattle.settlement.specs.declared.bare.Bare.{Bare}
use Rattle.settlement.specs.declared.bare.BareTaken.{BareTaken}
use Rattle.settlement.specs.declared.run.Run.{Run}
use Rattle.settlement.specs.declared.run.Taken.{Taken}

abbrev pub bare_of : Run → Bare
bare_of run = record { plan = run.plan; books = run.books; past = run.past; load = run.load; filled = run.tape.filled; account = run.account }

abbrev pub whole_of : Bare → List ℤ → List ℤ → Run
whole_of bare setpoints actuals =
    record {
      plan = bare.plan;
      books = bare.books;
      past = bare.past;
      load = bare.load;
      tape = record { setpoints = setpoints; actuals = actuals; filled = bare.filled };
      account = bare.account;
    }

-- so many samples more count
abbrev pub with_more : Bare → ℕ → Bare
with_more bare n = record { plan = bare.plan; books = bare.books; past = bare.past; load = bare.load; filled = bare.filled + n; account = bare.account }

-- after a quarter hour
abbrev pub bare_after : Bare → Settled → Bare
bare_after bare quarter =
    record { plan = bare.plan; books = bare.books; past = quarter.channel; load = bare.load; filled = 0; account = with_quarter bare.account quarter.sheets }

-- what taking answers
abbrev pub bare_taken_of : Taken → BareTaken
bare_taken_of taken = record { bare = bare_of taken.run; refusal = taken.refusal; quarter = taken.quarter; sheets = taken.sheets }
