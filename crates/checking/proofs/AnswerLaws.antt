-- A line that is taken in parts, as the code takes it, makes of the checker what the line makes of it.
-- Assumes nothing.
use Rattle.std.proofs.Common.{◌≡◌, ℕ, ◌+◌, Bool, true, false, cond, List, ℤ, Result, Ok, Err, refl, sym, ap, ◌∙◌, arith}
use Rattle.vocabulary.specs.declared.refusal.Refusal.{Refusal}
use Rattle.vocabulary.specs.declared.header.Header.{Header}
use Rattle.vocabulary.specs.Refusals.{Ruling, accepted, allowed}
use Rattle.quarter.specs.declared.sheet.Sheets.{Sheets}
use Rattle.quarter.specs.Blank.{no_sheets}
use Rattle.settlement.specs.declared.run.Run.{Run}
use Rattle.settlement.specs.Run.{opened_of, with_bounds_of, with_setpoint_of, contracted_of, quarter_in, settled_of, take_ground, taken_of, ended_of}
use Rattle.reading.specs.Line.{identifier_of}
use Rattle.reading.specs.Share.{whose_of}
use Rattle.reading.specs.declared.Line.{Line}
use Rattle.reading.specs.declared.Line.TheVariants as L
use Rattle.reading.specs.declared.share.Asked.{Asked}
use Rattle.reading.specs.declared.share.Asked.TheVariants as A
use Rattle.judging.specs.Kept.{Kept, kept_of, with_sheets, with_share}
use Rattle.judging.specs.Wanted.{early_ground}
use Rattle.checking.specs.Checker.{checker_at, Standing, standing, stopped_by, unless, turn_unless, opened_by, answered_by, ended_by, quarter_turn, sample_turn, ground_of, share_turn}
use Rattle.checking.specs.Checker.{first_by, next_turn, later_turn, finish_at}
use Rattle.checking.specs.Answers.{opening_of, opening_by, answer_to, answered_turn, late_share, shared, ending_of, ending_text}
use Rattle.checking.specs.declared.checker.Checker.{Checker}
use Rattle.checking.specs.declared.checker.Stage.{Stage}
use Rattle.checking.specs.declared.checker.Stage.TheVariants.{Empty, Open, Ended, Stopped}

-- ---- before the header

pub first-parts : (run : Run) (number : ℕ) (asked : Asked) → first_by run number asked ≡ opening_by run number (opening_of asked)
first-parts run number (A.Settling (L.Header header)) = refl
first-parts run number (A.Settling (L.Bounds bounds)) = refl
first-parts run number (A.Settling (L.Setpoint setpoint)) = refl
first-parts run number (A.Settling (L.Contract contract)) = refl
first-parts run number (A.Settling (L.Sample sample)) = refl
first-parts run number (A.Settling L.End) = refl
first-parts run number (A.Settling L.Malformed) = refl
first-parts run number (A.Share share) = refl

-- what an opening answers is what it makes of the checker
allowed-run : (r : Ruling) (opened next run : Run) (number : ℕ) → allowed r opened ≡ Ok next → unless run number r (checker_at Open opened) ≡ checker_at Open next
allowed-run (Ok done) opened next run number e = let same : opened ≡ next = cc in rw same
allowed-run (Err refusal) opened next run number e = let z : ◌≡◌ {A = ℕ} 0 1 = cc in absurd (omega arith)

allowed-refused : (r : Ruling) (opened run : Run) (number : ℕ) (refusal : Refusal) → allowed r opened ≡ Err refusal → unless run number r (checker_at Open opened) ≡ stopped_by run number refusal
allowed-refused (Ok done) opened run number refusal e = let z : ◌≡◌ {A = ℕ} 0 1 = cc in absurd (omega arith)
allowed-refused (Err other) opened run number refusal e = let same : other ≡ refusal = cc in rw same

module _ (run : Run) (number : ℕ) (header : Header) (answer : Result Run Refusal) (e : answer ≡ allowed (opened_of header).refusal (opened_of header).run) where
  pub opened-run : (next : Run) → answer ≡ Ok next → opened_by run number header ≡ checker_at Open next
  unfolding opened_by
  opened-run next f = allowed-run (opened_of header).refusal (opened_of header).run next run number (sym e ∙ f)

  pub opened-refused : (refusal : Refusal) → answer ≡ Err refusal → opened_by run number header ≡ stopped_by run number refusal
  unfolding opened_by
  opened-refused refusal f = allowed-refused (opened_of header).refusal (opened_of header).run run number refusal (sym e ∙ f)

-- ---- while the run is open

module _ (kept : Kept) (run : Run) (number : ℕ) where
  called : (r : Ruling) (next : Checker) → standing (unless run number r next) kept ≡ turn_unless kept run number r (standing next kept)
  called (Ok done) next = refl
  called (Err refusal) next = refl

  pub next-parts : (line : List ℕ) (asked : Asked) → next_turn kept run number line asked ≡ answered_turn kept run number (answer_to run line asked) asked
  unfolding answered_by ended_by sample_turn ended_of
  next-parts line (A.Settling (L.Header header)) = refl
  next-parts line (A.Settling (L.Bounds bounds)) = called (with_bounds_of run bounds).refusal (checker_at Open (with_bounds_of run bounds).run)
  next-parts line (A.Settling (L.Setpoint s)) = called (with_setpoint_of run s).refusal (checker_at Open (with_setpoint_of run s).run)
  next-parts line (A.Settling (L.Contract c)) =
      called (contracted_of run c (identifier_of line)).refusal (checker_at Open (contracted_of run c (identifier_of line)).run)
  next-parts line (A.Settling (L.Sample s)) = refl
  next-parts line (A.Settling L.End) = called (ended_of run).refusal (checker_at (Ended 0) run)
  next-parts line (A.Settling L.Malformed) = refl
  next-parts line (A.Share share) = called (early_ground run (whose_of line)) (checker_at Open run)

-- where taking is refused, its run is the one that came in, and nothing is kept
taken_as : (kept : Kept) (run next : Run) (q : ℕ) (sheets none : Sheets) (b : Bool)
    → cond b (standing (checker_at Open (cond b next run)) (with_sheets kept q (cond b sheets none))) (standing (checker_at Open run) kept)
    ≡ standing (checker_at Open (cond b next run)) (cond b (with_sheets kept q (cond b sheets none)) kept)
taken_as kept run next q sheets none true = refl
taken_as kept run next q sheets none false = refl

pub quarter-parts : (kept : Kept) (run : Run) → quarter_turn kept run
    ≡ standing (checker_at Open (taken_of run).run) (kept_of (taken_of run).refusal kept (taken_of run).quarter (taken_of run).sheets)
unfolding quarter_turn taken_of
quarter-parts kept run =
    taken_as kept run (settled_of run (quarter_in run)) run.account.taken (quarter_in run).sheets no_sheets (accepted (take_ground run))

-- ---- after E

module _ (kept : Kept) (run : Run) (number n : ℕ) where
  share-as : (r : Ruling) (kwh : ℤ) → turn_unless kept run number r (standing (checker_at (Ended (n + 1)) run) (with_share kept n kwh)) ≡ shared kept run number n (allowed r kwh)
  share-as (Ok done) kwh = refl
  share-as (Err refusal) kwh = refl

  pub later-parts : (line : List ℕ) (asked : Asked) → later_turn kept run number line n asked ≡ shared kept run number n (late_share run n line asked)
  unfolding share_turn
  later-parts line (A.Settling said) = refl
  later-parts line (A.Share share) = share-as (ground_of run n share (whose_of line)) share.kwh

-- ---- at the input's end

pub finish-parts : (stage : Stage) (s : Standing) (number : ℕ) → finish_at stage s number ≡ ending_text s.checker.run s.kept number (ending_of stage number)
finish-parts Empty s number = refl
finish-parts Open s number = refl
finish-parts (Ended n) s number = refl
finish-parts (Stopped fault) s number = refl
