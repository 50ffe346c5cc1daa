-- The run in its parts, and what each call makes of it: a call changes the parts it is about. A refusal hands the run back equal to what came in.
use Rattle.std.specs.Prelude.{ℕ, Bool, cond, not, ◌&&◌, List, eqb, ℤ, Err}
use Rattle.arithmetic.specs.Whole.{up}
use Rattle.vocabulary.specs.declared.refusal.Refusal.TheVariants.{WrongMoment}
use Rattle.vocabulary.specs.Refusals.{Ruling, accepted}
use Rattle.vocabulary.specs.declared.interval.Interval.{Interval}
use Rattle.vocabulary.specs.declared.interval.Interval.TheVariants.{One}
use Rattle.vocabulary.specs.declared.contract.Contract.{Contract}
use Rattle.vocabulary.specs.declared.header.Header.{Header}
use Rattle.vocabulary.specs.declared.acceptance.Bounds.{Bounds}
use Rattle.channel.specs.State.{new_of, recalled_of, bounded_of}
use Rattle.contracts.specs.Books.{no_books, books_refusal, with_contract_in}
use Rattle.quarter.specs.Blank.{no_sheets}
use Rattle.claims.specs.Claims.{samples_of}
use Rattle.quarter.specs.Quarter.{quarter_held}
use Rattle.quarter.specs.declared.hour.Settled.{Settled}
use Rattle.records.specs.Tape.{no_tape, longer, rewound, sample_refusal}
use Rattle.records.specs.Account.{no_account, with_quarter}
use Rattle.settlement.specs.declared.plan.Plan.{Plan}
use Rattle.settlement.specs.declared.run.Run.{Run}
use Rattle.settlement.specs.declared.run.Answer.{Answer}
use Rattle.settlement.specs.declared.run.Taken.{Taken}
use Rattle.settlement.specs.declared.run.Ended.{Ended}
use Rattle.settlement.specs.declared.run.Heading.{Heading}
use Rattle.settlement.specs.Answers.{Opened}
use Rattle.settlement.specs.Calls.{interval_of, open_refusal, end_refusal, unbegun, take_refusal}
use Rattle.settlement.specs.Plan.{lot_meant, plan_of}
use Rattle.settlement.specs.Load.{no_load, begun_with, one_fewer, bounds_refusal, setpoint_refusal, or_lacking}

-- ---- opening

-- a run with nothing in it yet
unfoldable pub fresh_run : Plan → Interval → ℕ → Run
fresh_run plan interval lot = record { plan = plan; books = no_books; past = new_of interval lot; load = no_load; tape = no_tape; account = no_account }

-- what stands where an opening gives no run: a run of no quarter hour
unfoldable pub no_run : Run
no_run = fresh_run (record { date = record { year = 2000; month = 1; day = 1 }; quarters = 0 }) One 1

-- the run of a header
unfoldable pub run_of : Header → Run
run_of h = fresh_run (plan_of h) (interval_of (up h.interval)) (up (lot_meant h.lot))

unfoldable pub opened_of : Header → Opened
opened_of h = record { run = cond (accepted (open_refusal h)) (run_of h) no_run; refusal = open_refusal h }

-- what a call answers: the next run, or the one that came in with the refusal
abbrev pub answer_of : Ruling → Run → Run → Answer
answer_of refusal next run = record { run = cond (accepted refusal) next run; refusal = refusal }

-- ---- a block: the past and the load

-- neither a contract nor a sample came yet, in a run that takes some
unfoldable pub untouched : Run → Bool
untouched run =
    unbegun run.tape.filled run.account.taken run.plan.quarters && eqb run.books.positive.count 0 && eqb run.books.negative.count 0

-- its bounds, directly after the opening
unfoldable pub bounds_ground : Run → Bounds → Ruling
bounds_ground run bounds = bounds_refusal (untouched run) run.load bounds

unfoldable pub with_bounds : Run → Bounds → Run
with_bounds run bounds =
    record { plan = run.plan; books = run.books; past = run.past; load = begun_with run.past.interval bounds; tape = run.tape; account = run.account }

unfoldable pub with_bounds_of : Run → Bounds → Answer
with_bounds_of run bounds = answer_of (bounds_ground run bounds) (with_bounds run bounds) run

-- it was begun, and setpoints of it are still to come
unfoldable pub lacks_setpoints : Run → Bool
lacks_setpoints run = not (eqb run.load.left 0)

-- then its past setpoints, oldest first: the channel recalls each, and holds the block's bounds
unfoldable pub setpoint_ground : Run → ℤ → Ruling
setpoint_ground run s = setpoint_refusal (untouched run) run.load s

unfoldable pub with_setpoint : Run → ℤ → Run
with_setpoint run s =
    record {
      plan = run.plan;
      books = run.books;
      past = bounded_of (recalled_of run.past s) run.load.bounds.oga.0 run.load.bounds.uga.0;
      load = one_fewer run.load;
      tape = run.tape;
      account = run.account;
    }

unfoldable pub with_setpoint_of : Run → ℤ → Answer
with_setpoint_of run s = answer_of (setpoint_ground run s) (with_setpoint run s) run

-- ---- a contract: the books

-- why a run refuses it: 1 first, then 6 to 12
unfoldable pub contract_wrong : Run → Contract → List ℕ → Ruling
contract_wrong run c identifier =
    cond (not (unbegun run.tape.filled run.account.taken run.plan.quarters)) (Err WrongMoment) (books_refusal run.books c identifier)

-- and then 17 in a block that lacks setpoints
unfoldable pub contract_ground : Run → Contract → List ℕ → Ruling
contract_ground run c identifier = or_lacking run.load (contract_wrong run c identifier)

unfoldable pub contracted : Run → Contract → List ℕ → Run
contracted run c identifier =
    record { plan = run.plan; books = with_contract_in run.books c identifier; past = run.past; load = run.load; tape = run.tape; account = run.account }

unfoldable pub contracted_of : Run → Contract → List ℕ → Answer
contracted_of run c identifier = answer_of (contract_ground run c identifier) (contracted run c identifier) run

-- ---- a sample: the tape

unfoldable pub sample_ground : Run → ℤ → ℤ → Ruling
sample_ground run setpoint actual =
    or_lacking run.load (sample_refusal (samples_of run.past) run.tape.filled run.account.taken run.plan.quarters setpoint actual)

unfoldable pub sampled : Run → ℤ → ℤ → Run
sampled run setpoint actual =
    record { plan = run.plan; books = run.books; past = run.past; load = run.load; tape = longer run.tape setpoint actual; account = run.account }

unfoldable pub sampled_of : Run → ℤ → ℤ → Answer
sampled_of run setpoint actual = answer_of (sample_ground run setpoint actual) (sampled run setpoint actual) run

-- ---- taking: the past, the tape and the account

-- the quarter hour at hand, from the channel where it began
unfoldable pub quarter_in : Run → Settled
quarter_in run = quarter_held run.past run.tape.setpoints run.tape.actuals run.books

-- the run after a quarter hour
unfoldable pub settled_of : Run → Settled → Run
settled_of run quarter =
    record {
      plan = run.plan;
      books = run.books;
      past = quarter.channel;
      load = run.load;
      tape = rewound run.tape;
      account = with_quarter run.account quarter.sheets;
    }

unfoldable pub take_ground : Run → Ruling
take_ground run = take_refusal (samples_of run.past) run.tape.filled run.account.taken run.plan.quarters

unfoldable pub taken_of : Run → Taken
taken_of run =
    record {
      run = cond (accepted (take_ground run)) (settled_of run (quarter_in run)) run;
      refusal = take_ground run;
      quarter = run.account.taken;
      sheets = cond (accepted (take_ground run)) (quarter_in run).sheets no_sheets;
    }

-- ---- ending, and what V says

-- the end's figures stand in the run at any time; they count where nothing is refused
unfoldable pub ended_of : Run → Ended
ended_of run =
    record {
      run = run;
      refusal = end_refusal run.account.taken run.plan.quarters;
      quarters = run.account.taken;
      fees = run.account.fees;
      penalties = run.account.penalties;
      past = run.past;
    }

-- date, interval and lot used
unfoldable pub heading_of : Run → Heading
heading_of run = record { date = run.plan.date; interval = run.past.interval; lot = run.past.lot }
