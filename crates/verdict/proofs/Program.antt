-- THE THEOREM OF THE CHECKER: what it prints for an input is what the input means.
-- Assumes nothing.
use Prim.Native.Nat.{ℕ, suc, ◌+◌, ◌*◌, ◌%◌, ◌^◌, ◌≤◌, ◌<◌}
use mathlib.Core.Path.{◌≡◌, refl, sym, ap, subst, ◌∙◌}
use mathlib.Core.Bool.{Bool, true, false, cond, not}
use mathlib.Core.List.{List, [], ◌∷◌, ◌++◌}
use native.Mathlib.Omega.{arith}
use native.Mathlib.Numerals.{add-one}
use native.Mathlib.Nat.{mul-le-mul}
use native.Mathlib.Decide.{dec_lt}
use lib.Dec.{leb, eqb}
use lib.IntN.{ℤ}
use lib.ListN.{length, take, drop, length-set, length-append, drop_of_length-le}
use lib.Seq.{take-suc-set, drop-drop, drop-cons}
use borrow.Author.Tests.{leb-false, ne_eqb, eq-eqb}
use Rattle.std.specs.Prelude.{Ok, Err}
use Rattle.arithmetic.proofs.Booleans.{true-false}
use Rattle.vocabulary.specs.declared.refusal.Refusal.{Refusal}
use Rattle.vocabulary.specs.declared.refusal.Refusal.TheVariants.{WrongMoment, BadIdentifier, BadLine, NoEnd, MisplacedShare}
use Rattle.vocabulary.specs.Refusals.{Ruling, accepted}
use Rattle.vocabulary.specs.Grounds.{on, first}
use Rattle.vocabulary.specs.declared.direction.Direction.{Direction}
use Rattle.vocabulary.specs.declared.direction.Direction.TheVariants.{Positive, Negative}
use Rattle.vocabulary.specs.declared.header.Header.{Header}
use Rattle.vocabulary.specs.declared.contract.Contract.{Contract}
use Rattle.vocabulary.specs.declared.sample.Sample.{Sample}
use Rattle.vocabulary.specs.declared.acceptance.Bounds.{Bounds}
use Rattle.vocabulary.proofs.Answers.{err-refused}
use Rattle.contracts.specs.Identifier.{well_formed}
use Rattle.contracts.proofs.Accepted.{passed}
use Rattle.claims.specs.Claims.{samples_of}
use Rattle.claims.proofs.Quarters.{samples-some}
use Rattle.records.specs.Account.{no_account, with_quarter}
use Rattle.records.specs.Tape.{no_tape, longer, rewound, sample_refusal}
use Rattle.settlement.specs.declared.run.Run.{Run}
use Rattle.settlement.specs.Calls.{open_refusal, end_refusal}
use Rattle.settlement.specs.Run.{fresh_run, run_of, opened_of, with_bounds, with_bounds_of, with_setpoint, with_setpoint_of, contracted}
use Rattle.settlement.specs.Run.{contracted_of, sampled_of, take_ground, taken_of, quarter_in, settled_of, ended_of, lacks_setpoints}
use Rattle.sheets.specs.Sheet.{refusal_text}
use Rattle.sheets.specs.Verdict.{verdict_text}
use Rattle.lines.specs.Lines.{lines_of, each_line}
use Rattle.lines.proofs.LineLaws.{lines_fit}
use Rattle.reading.specs.Line.{identifier_of}
use Rattle.reading.specs.Share.{asked_of, whose_of}
use Rattle.reading.specs.declared.Line.{Line}
use Rattle.reading.specs.declared.share.Share.{Share}
use Rattle.reading.specs.declared.share.Asked.{Asked}
use Rattle.channel.specs.Start.{carried}
use Rattle.meaning.specs.Given.{Deal, Given, headed, with_start, block_by, with_newest, with_deal, with_sample, interval_in, quarters_in, per_quarter}
use Rattle.meaning.specs.Meaning.{SoFar, nothing, these, deal_of, lacks, grounds, after}
use Rattle.meaning.specs.Endings.{Proper}
use Rattle.meaning.proofs.Proper.{proper-headed, proper-bounds, proper-setpoint, proper-contract, proper-sample, bounds-early, setpoint-early, agreed}
use Rattle.settlement.proofs.HeaderLaws.{opened-quarters}
use Rattle.meaning.proofs.Moments.{none-taken}
use Rattle.meaning.proofs.Figures.{few-deals}
use Rattle.meaning.proofs.Standing.{Meets, counted, header-ground, meets-opened, contract-ground, meets-contracted}
use Rattle.meaning.proofs.Standing.{sample-ground, sample-whole, meets-sampled, waits, waits-not, sheet-is, meets-taken}
use Rattle.meaning.proofs.Starting.{bounds-ground, setpoint-ground, meets-bounds, meets-setpoint}
use Rattle.meaning.proofs.Blocks.{none_left, left_is}
use Rattle.meaning.proofs.Texts.{end-ground, all-taken}
use Rattle.checking.specs.declared.checker.Stage.TheVariants.{Empty, Open, Ended}
use Rattle.checking.specs.declared.checker.Checker.{Checker}
use Rattle.judging.specs.Kept.{Kept, with_sheets}
use Rattle.judging.specs.Wanted.{early_ground, is_wanted}
use Rattle.judging.specs.Judged.{judged_of}
use Rattle.checking.specs.Checker.{checker_at, Standing, standing, empty_checker, stopped_by, unless, turn_unless, opened_by, answered_by, ended_by, quarter_turn}
use Rattle.checking.specs.Checker.{sample_turn, ground_of, share_turn, first_by, next_turn, late_ground, later_turn, line_turn, ruled_text, finish_text}
use Rattle.verdict.specs.Wanted.{Wanted, wanted_in, per_quarter_hour}
use Rattle.verdict.specs.Checked.{asked_grounds, asked_ground, after_asked, is_next, too_late, share_grounds, share_ground, with_share, Outcome}
use Rattle.verdict.specs.Checked.{judged, unless_missing, share_lines, after_end, unless_end, outcome, outcome_of, told, checked}
use Rattle.verdict.proofs.Outcomes.{early-refused, surplus-refused}
use Rattle.verdict.proofs.Gaps.{Room, KeptMeets, kept-none, kept-sample, kept-taken}
use Rattle.verdict.proofs.Places.{wanted-length, wanted-count, next-same}
use Rattle.verdict.proofs.Judging.{judged-same}
use Rattle.settlement.specs.Run as R
use Rattle.reading.specs.declared.Line.TheVariants as L
use Rattle.reading.specs.declared.share.Asked.TheVariants as A
use Rattle.judging.specs.Kept as K
use Rattle.judging.specs.Wanted as C

-- ---- nothing is refused, or why it is

data Ruled (r : Ruling) : Type 0 where
  allows : r ≡ Ok tt → Ruled r
  refuses : (refusal : Refusal) → r ≡ Err refusal → Ruled r

ruled : (r : Ruling) → Ruled r
ruled (Ok done) = allows refl
ruled (Err refusal) = refuses refusal refl

-- ---- how the checker stands to what was given

data Stands : SoFar → Standing → Type 0 where
  before : {run : Run} {kept : Kept} → Room kept → Stands nothing (standing (checker_at Empty run) kept)
  within : {g : Given} {run : Run} {kept : Kept} → Meets g run → Proper g → run.tape.filled < per_quarter g → KeptMeets g run.account.taken kept
      → Stands (these g) (standing (checker_at Open run) kept)

-- after E, with n shares
record Said (g : Given) (n : ℕ) (said : List ℤ) (run : Run) (kept : Kept) : Type 0 where
  meets : Meets g run
  proper : Proper g
  taken : run.account.taken ≡ quarters_in g
  rows : KeptMeets g (quarters_in g) kept
  count : length said ≡ n
  there : take n kept.shares ≡ said
  few : n ≤ quarters_in g * per_quarter_hour g

-- ---- a line up to E is refused, or it is E, or the next one follows

data Step (so : SoFar) (number : ℕ) (line : List ℕ) (a : Asked) (s : Standing) : Type 0 where
  stops : (refusal : Refusal) → asked_ground so line a ≡ Err refusal → (run : Run) (kept : Kept) → s ≡ standing (stopped_by run number refusal) kept → Step so number line a s
  goes_on_lem : accepted (asked_ground so line a) ≡ true → ((ended rest : Outcome) → unless_end a ended rest ≡ rest) → Stands (after_asked so line a) s → Step so number line a s
  ends : accepted (asked_ground so line a) ≡ true → a ≡ A.Settling L.End → (g : Given) (run : Run) (kept : Kept) → so ≡ these g → s ≡ standing (checker_at (Ended 0) run) kept
      → Said g 0 [] run kept → Step so number line a s

as_step : {so : SoFar} {number : ℕ} {line : List ℕ} {a : Asked} {s t : Standing} → s ≡ t → Step so number line a t → Step so number line a s
as_step {so} {number} {line} {a} e x = subst (λ (u : Standing). Step so number line a u) (sym e) x

-- ---- the first line

none_filled : (h : Header) → (run_of h).tape.filled < per_quarter (headed h)
unfolding run_of fresh_run no_tape
none_filled h = samples-some (interval_in (headed h))

none-taken-yet : (h : Header) → (run_of h).account.taken ≡ 0
unfolding run_of fresh_run no_account
none-taken-yet h = refl

opened-so : (run : Run) (number : ℕ) (h : Header) → open_refusal h ≡ Ok tt → opened_by run number h ≡ checker_at Open (run_of h)
unfolding opened_by opened_of
opened-so run number h e = rw e

opening-refused : (run : Run) (number : ℕ) (h : Header) (refusal : Refusal) → open_refusal h ≡ Err refusal → opened_by run number h ≡ stopped_by run number refusal
unfolding opened_by opened_of
opening-refused run number h refusal e = rw e

header-step : (run : Run) (kept : Kept) → Room kept → (number : ℕ) (line : List ℕ) (h : Header)
    → Step nothing number line (A.Settling (L.Header h)) (standing (opened_by run number h) kept)
unfolding asked_grounds grounds after
header-step run kept room number line h = go (ruled (open_refusal h))
  where
    go : Ruled (open_refusal h) → Step nothing number line (A.Settling (L.Header h)) (standing (opened_by run number h) kept)
    go (allows e) =
        as_step (ap (λ (c : Checker). standing c kept) (opened-so run number h e))
        (goes_on_lem (rw (← header-ground h, e)) (λ ended rest. refl)
        (within (meets-opened h e) (proper-headed h (sym (header-ground h) ∙ e)) (none_filled h) (kept-none (headed h) (run_of h).account.taken kept room (none-taken-yet h))))
    go (refuses refusal e) =
        as_step (ap (λ (c : Checker). standing c kept) (opening-refused run number h refusal e))
        (stops refusal (sym (header-ground h) ∙ e) run kept refl)

first_step : (run : Run) (kept : Kept) → Room kept → (number : ℕ) (line : List ℕ) (a : Asked) → Step nothing number line a (standing (first_by run number a) kept)
unfolding asked_grounds grounds
first_step run kept room number line (A.Settling (L.Header h)) = header-step run kept room number line h
first_step run kept room number line (A.Settling (L.Bounds bounds)) = stops WrongMoment refl run kept refl
first_step run kept room number line (A.Settling (L.Setpoint s)) = stops WrongMoment refl run kept refl
first_step run kept room number line (A.Settling (L.Contract c)) = stops WrongMoment refl run kept refl
first_step run kept room number line (A.Settling (L.Sample x)) = stops WrongMoment refl run kept refl
first_step run kept room number line (A.Settling L.End) = stops WrongMoment refl run kept refl
first_step run kept room number line (A.Settling L.Malformed) = stops BadLine refl run kept refl
first_step run kept room number line (A.Share s) = stops WrongMoment refl run kept refl

-- ---- a line of a block, or a contract: nothing was taken yet

none_yet : (g : Given) (run : Run) → Meets g run → length g.samples ≡ 0 → run.account.taken ≡ 0
none_yet g run m e = none-taken (interval_in g) run.tape.filled run.account.taken (omega (arith, counted g run m))

module _ (g : Given) (run : Run) (kept : Kept) (number : ℕ) (line : List ℕ) (said : Line) (next : Run) (r : Ruling) (same : r ≡ asked_ground (these g) line (A.Settling said))
    (on : (ended rest : Outcome) → unless_end (A.Settling said) ended rest ≡ rest) where
  answered-so : r ≡ Ok tt → answered_by run number (R.answer_of r next run) ≡ checker_at Open next
  unfolding answered_by
  answered-so e = rw e

  answer-refused : (refusal : Refusal) → r ≡ Err refusal → answered_by run number (R.answer_of r next run) ≡ stopped_by run number refusal
  unfolding answered_by
  answer-refused refusal e = rw e

  answered-step : (r ≡ Ok tt → Stands (after_asked (these g) line (A.Settling said)) (standing (checker_at Open next) kept))
      → Step (these g) number line (A.Settling said) (standing (answered_by run number (R.answer_of r next run)) kept)
  answered-step stands = go (ruled r)
    where
      go : Ruled r → Step (these g) number line (A.Settling said) (standing (answered_by run number (R.answer_of r next run)) kept)
      go (allows e) = as_step (ap (λ (c : Checker). standing c kept) (answered-so e)) (goes_on_lem (rw (← same, e)) on (stands e))
      go (refuses refusal e) =
          as_step (ap (λ (c : Checker). standing c kept) (answer-refused refusal e)) (stops refusal (sym same ∙ e) run kept refl)

same-room : (g : Given) (d : Direction) (x : Deal) (n : ℕ) → n < per_quarter g → n < per_quarter (with_deal d x g)
same-room g Positive x n r = r
same-room g Negative x n r = r

module _ (g : Given) (run : Run) (m : Meets g run) (p : Proper g) (r : run.tape.filled < per_quarter g) (kept : Kept) (k : KeptMeets g run.account.taken kept) (number : ℕ) (line : List ℕ) where
  bounds-step : (bounds : Bounds) → Step (these g) number line (A.Settling (L.Bounds bounds)) (standing (answered_by run number (with_bounds_of run bounds)) kept)
  unfolding asked_grounds grounds after with_bounds_of with_bounds
  bounds-step bounds =
      answered-step g run kept number line (L.Bounds bounds) (with_bounds run bounds) (R.bounds_ground run bounds) (bounds-ground g run m bounds) (λ ended rest. refl)
      (λ e. let clear = sym (bounds-ground g run m bounds) ∙ e in
      within (meets-bounds g run m bounds e) (proper-bounds g bounds p clear) r
      (kept-none (with_start (carried (block_by bounds)) g) run.account.taken kept k.room (none_yet g run m (bounds-early g bounds clear))))

  setpoint-step : (s : ℤ) → Step (these g) number line (A.Settling (L.Setpoint s)) (standing (answered_by run number (with_setpoint_of run s)) kept)
  unfolding asked_grounds grounds after with_setpoint_of with_setpoint
  setpoint-step s =
      answered-step g run kept number line (L.Setpoint s) (with_setpoint run s) (R.setpoint_ground run s) (setpoint-ground g run m s) (λ ended rest. refl)
      (λ e. let clear = sym (setpoint-ground g run m s) ∙ e in
      within (meets-setpoint g run m s e) (proper-setpoint g s p clear) r
      (kept-none (with_start (with_newest g.start s) g) run.account.taken kept k.room (none_yet g run m (setpoint-early g s clear))))

  contract-step : (c : Contract) → Step (these g) number line (A.Settling (L.Contract c)) (standing (answered_by run number (contracted_of run c (identifier_of line))) kept)
  unfolding asked_grounds grounds after contracted_of contracted
  contract-step c =
      answered-step g run kept number line (L.Contract c) (contracted run c (identifier_of line)) (R.contract_ground run c (identifier_of line))
      (contract-ground g run m c (identifier_of line)) (λ ended rest. refl)
      (λ e. let clear = sym (contract-ground g run m c (identifier_of line)) ∙ e in
      within (meets-contracted g run m c (identifier_of line) e) (proper-contract g c (identifier_of line) p clear)
      (same-room g c.direction (deal_of c (identifier_of line)) run.tape.filled r)
      (kept-none (with_deal c.direction (deal_of c (identifier_of line)) g) run.account.taken kept k.room (none_yet g run m (agreed g c (identifier_of line) clear).first)))

  -- ---- a share that comes too early

  lacks-same : lacks_setpoints run ≡ lacks g
  unfolding lacks_setpoints lacks
  lacks-same = sym (left_is m.load)

  early-same : (s : Share) → early_ground run (whose_of line) ≡ asked_ground (these g) line (A.Share s)
  unfolding early_ground asked_grounds
  early-same s = rw lacks-same

  early-step : (s : Share) → Step (these g) number line (A.Share s) (standing (unless run number (early_ground run (whose_of line)) (checker_at Open run)) kept)
  early-step s = rw (early-same s) (go (ruled (asked_ground (these g) line (A.Share s))))
    where
      go : Ruled (asked_ground (these g) line (A.Share s))
          → Step (these g) number line (A.Share s) (standing (unless run number (asked_ground (these g) line (A.Share s)) (checker_at Open run)) kept)
      go (allows e) = true-false (ap accepted e) (early-refused (these g) line s)
      go (refuses refusal e) =
          as_step (ap (λ (r : Ruling). standing (unless run number r (checker_at Open run)) kept) e) (stops refusal e run kept refl)

-- ---- a sample

abbrev sampled : Run → Sample → Run
sampled run x = R.sampled run x.setpoint x.actual

one_more : (run : Run) (x : Sample) → (sampled run x).tape.filled ≡ run.tape.filled + 1
unfolding R.sampled longer
one_more run x = refl

same_taken : (run : Run) (x : Sample) → (sampled run x).account.taken ≡ run.account.taken
unfolding R.sampled
same_taken run x = refl

same-quarters : (run : Run) (x : Sample) → (sampled run x).plan.quarters ≡ run.plan.quarters
unfolding R.sampled
same-quarters run x = refl

some_left : (run : Run) (x : Sample) → R.sample_ground run x.setpoint x.actual ≡ Ok tt → run.account.taken < run.plan.quarters
unfolding R.sample_ground sample_refusal
some_left run x e =
    let p = passed (leb (samples_of run.past) run.tape.filled) WrongMoment _ (none_left run.load.left _ e).1 in
    leb-false run.plan.quarters run.account.taken (passed (leb run.plan.quarters run.account.taken) WrongMoment _ p.1).0

waiting-not : (kept : Kept) (run : Run) → take_ground run ≡ Err WrongMoment → quarter_turn kept run ≡ standing (checker_at Open run) kept
unfolding quarter_turn taken_of
waiting-not kept run e = rw e

taken-so : (kept : Kept) (run : Run) → take_ground run ≡ Ok tt
    → quarter_turn kept run ≡ standing (checker_at Open (settled_of run (quarter_in run))) (with_sheets kept run.account.taken (quarter_in run).sheets)
unfolding quarter_turn taken_of
taken-so kept run e = rw e

none_after : (run : Run) → (settled_of run (quarter_in run)).tape.filled ≡ 0
unfolding settled_of rewound
none_after run = refl

one-taken : (run : Run) → (settled_of run (quarter_in run)).account.taken ≡ run.account.taken + 1
unfolding settled_of with_quarter
one-taken run = refl

stands-as : {so : SoFar} {s t : Standing} → s ≡ t → Stands so t → Stands so s
stands-as {so} e x = subst (λ (u : Standing). Stands so u) (sym e) x

quarter-stands : (g : Given) (run : Run) → Meets g run → Proper g → run.account.taken < run.plan.quarters → (kept : Kept) → KeptMeets g run.account.taken kept
    → Stands (these g) (quarter_turn kept run)
quarter-stands g run m p l kept k =
    elim (dec_lt run.tape.filled (per_quarter g)) [
      | yes r ↦ stands-as (waiting-not kept run (waits-not g run m r)) (within m p r k)
      | no r ↦
          let f : run.tape.filled ≡ per_quarter g = omega (arith, m.timed.tape.room) in
          let e = waits g run m f l in
          let few : run.account.taken < 100 = omega (arith, m.timed.plan.few, m.timed.plan.quarters) in
          stands-as (taken-so kept run e)
          (within (meets-taken g run m p f e) p (rw (none_after run) (samples-some (interval_in g)))
          (rw (one-taken run) (kept-taken g p run.account.taken kept (quarter_in run).sheets few (sheet-is g run m f) k)))
    ]

taken_in : (g : Given) (run : Run) → Meets g run → run.account.taken * per_quarter g ≤ length g.samples
taken_in g run m = omega (arith, counted g run m)

module _ (g : Given) (run : Run) (m : Meets g run) (p : Proper g) (r : run.tape.filled < per_quarter g) (kept : Kept) (k : KeptMeets g run.account.taken kept) (number : ℕ) (line : List ℕ) where
  module _ (x : Sample) where
    sampled-so : R.sample_ground run x.setpoint x.actual ≡ Ok tt → sample_turn kept run number x ≡ quarter_turn kept (sampled run x)
    unfolding sample_turn sampled_of
    sampled-so e = rw e

    sample-refused : (refusal : Refusal) → R.sample_ground run x.setpoint x.actual ≡ Err refusal → sample_turn kept run number x ≡ standing (stopped_by run number refusal) kept
    unfolding sample_turn sampled_of
    sample-refused refusal e = rw e

    sampled-stands : R.sample_ground run x.setpoint x.actual ≡ Ok tt → Stands (these (with_sample x g)) (quarter_turn kept (sampled run x))
    sampled-stands e =
        quarter-stands (with_sample x g) (sampled run x) (meets-sampled g run m x r (sample-whole run x e)) (proper-sample g x p (sym (sample-ground g run m r x) ∙ e))
        (rw (same_taken run x, same-quarters run x) (some_left run x e)) kept
        (rw (same_taken run x) (kept-sample g run.account.taken kept x (taken_in g run m) k))

    sample-step : Step (these g) number line (A.Settling (L.Sample x)) (sample_turn kept run number x)
    unfolding asked_grounds grounds after
    sample-step = go (ruled (R.sample_ground run x.setpoint x.actual))
      where
        go : Ruled (R.sample_ground run x.setpoint x.actual) → Step (these g) number line (A.Settling (L.Sample x)) (sample_turn kept run number x)
        go (allows e) = as_step (sampled-so e) (goes_on_lem (rw (← sample-ground g run m r x, e)) (λ ended rest. refl) (sampled-stands e))
        go (refuses refusal e) =
            as_step (sample-refused refusal e) (stops refusal (sym (sample-ground g run m r x) ∙ e) run kept refl)

  -- ---- E

  ended_so : end_refusal run.account.taken run.plan.quarters ≡ Ok tt → ended_by run number ≡ checker_at (Ended 0) run
  unfolding ended_by ended_of
  ended_so e = rw e

  end_refused : (refusal : Refusal) → end_refusal run.account.taken run.plan.quarters ≡ Err refusal → ended_by run number ≡ stopped_by run number refusal
  unfolding ended_by ended_of
  end_refused refusal e = rw e

  none_said : end_refusal run.account.taken run.plan.quarters ≡ Ok tt → Said g 0 [] run kept
  none_said e =
      let all = all-taken g run m p e in
      record { meets = m; proper = p; taken = all; rows = rw all at k; count = refl; there = refl; few = omega arith }

  end_step : Step (these g) number line (A.Settling L.End) (standing (ended_by run number) kept)
  unfolding asked_grounds grounds
  end_step = go (ruled (end_refusal run.account.taken run.plan.quarters))
    where
      go : Ruled (end_refusal run.account.taken run.plan.quarters) → Step (these g) number line (A.Settling L.End) (standing (ended_by run number) kept)
      go (allows e) =
          as_step (ap (λ (c : Checker). standing c kept) (ended_so e)) (ends (rw (← end-ground g run m p r, e)) refl g run kept refl refl (none_said e))
      go (refuses refusal e) =
          as_step (ap (λ (c : Checker). standing c kept) (end_refused refusal e))
          (stops refusal (sym (end-ground g run m p r) ∙ e) run kept refl)

  next-step : (a : Asked) → Step (these g) number line a (next_turn kept run number line a)
  unfolding asked_grounds grounds
  next-step (A.Settling (L.Header h)) = stops WrongMoment refl run kept refl
  next-step (A.Settling (L.Bounds bounds)) = bounds-step g run m p r kept k number line bounds
  next-step (A.Settling (L.Setpoint s)) = setpoint-step g run m p r kept k number line s
  next-step (A.Settling (L.Contract c)) = contract-step g run m p r kept k number line c
  next-step (A.Settling (L.Sample x)) = sample-step x
  next-step (A.Settling L.End) = end_step
  next-step (A.Settling L.Malformed) = stops BadLine refl run kept refl
  next-step (A.Share s) = early-step g run m p r kept k number line s

line_step : {so : SoFar} {s : Standing} → Stands so s → (number : ℕ) (line : List ℕ) → Step so number line (asked_of line) (line_turn s number line)
unfolding line_turn
line_step (before {run} {kept} room) number line = first_step run kept room number line (asked_of line)
line_step (within {g} {run} {kept} m p r k) number line = next-step g run m p r kept k number line (asked_of line)

-- ---- a line after E

data Later (g : Given) (n : ℕ) (said : List ℤ) (number : ℕ) (line : List ℕ) (a : Asked) (s : Standing) : Type 0 where
  stops-there : (refusal : Refusal) → share_ground (drop n (wanted_in g)) line a ≡ Err refusal → (run : Run) (kept : Kept) → s ≡ standing (stopped_by run number refusal) kept
      → Later g n said number line a s
  one-said : accepted (share_ground (drop n (wanted_in g)) line a) ≡ true → (run : Run) (kept : Kept) → s ≡ standing (checker_at (Ended (n + 1)) run) kept
      → Said g (n + 1) (with_share said a) run kept → Later g n said number line a s

late-same : (said : Line) → late_ground said ≡ too_late said
late-same (L.Header h) = refl
late-same (L.Bounds bounds) = refl
late-same (L.Setpoint s) = refl
late-same (L.Contract c) = refl
late-same (L.Sample x) = refl
late-same L.End = refl
late-same L.Malformed = refl

-- the U lines of a run fit the list that is lent for them
lines-few : (g : Given) → Proper g → quarters_in g * per_quarter_hour g ≤ 6400
lines-few g p =
    let q : quarters_in g ≤ 100 = (opened-quarters g.header p.header).1 in
    let n : per_quarter_hour g ≤ 64 = omega (arith, few-deals g p Positive, few-deals g p Negative) in
    mul-le-mul q n

module _ (g : Given) (n : ℕ) (said : List ℤ) (run : Run) (kept : Kept) (x : Said g n said run kept) (number : ℕ) (line : List ℕ) (s : Share) where
  quarters-are : (ended_of run).quarters ≡ quarters_in g
  unfolding ended_of
  quarters-are = x.taken

  where-named : (t : Bool) (a b : Bool) → (t ≡ true → a ≡ b)
      → first (on BadIdentifier (not t) ∷ on MisplacedShare (not a) ∷ []) ≡ first (on BadIdentifier (not t) ∷ on MisplacedShare (not b) ∷ [])
  where-named true a b h = rw (h refl)
  where-named false a b h = refl

  ground-same : ground_of run n s (whose_of line) ≡ share_ground (drop n (wanted_in g)) line (A.Share s)
  unfolding C.share_ground share_grounds
  ground-same =
      rw quarters-are
      (where-named (well_formed (whose_of line)) (is_wanted run.books (quarters_in g) n s (whose_of line)) (is_next (drop n (wanted_in g)) s (whose_of line))
      (next-same g x.proper run.books x.meets.books n s (whose_of line)))

  -- where one passes, one was wanted
  one_wanted : accepted (share_ground (drop n (wanted_in g)) line (A.Share s)) ≡ true → n < quarters_in g * per_quarter_hour g
  one_wanted e = go (dec_lt n (quarters_in g * per_quarter_hour g))
    where
      go : Dec (n < quarters_in g * per_quarter_hour g) → n < quarters_in g * per_quarter_hour g
      go (yes h) = h
      go (no h) =
          let l : length (wanted_in g) ≤ n = omega (arith, wanted-length g (quarters_in g)) in
          let d : drop n (wanted_in g) ≡ [] = drop_of_length-le (wanted_in g) l in
          true-false (rw d at e) (surplus-refused line s)

  more-said : n < quarters_in g * per_quarter_hour g → Said g (n + 1) (said ++ (s.kwh ∷ [])) run (K.with_share kept n s.kwh)
  unfolding K.with_share
  more-said h =
      let room : n < length kept.shares = omega (arith, lines-few g x.proper, x.rows.room.shares) in
      record {
        meets = x.meets;
        proper = x.proper;
        taken = x.taken;
        rows = record {
          room = record { gaps = x.rows.room.gaps; surpluses = x.rows.room.surpluses; shares = omega (arith, x.rows.room.shares, length-set kept.shares n s.kwh) };
          gaps-at = x.rows.gaps-at;
          surplus-at = x.rows.surplus-at;
        };
        count = omega (arith, length-append said (s.kwh ∷ []), x.count);
        there = rw (add-one n) (take-suc-set kept.shares n s.kwh room ∙ ap (λ (l : List ℤ). l ++ (s.kwh ∷ [])) x.there);
        few = omega arith;
      }

  share-step : Later g n said number line (A.Share s) (share_turn kept run number n s (whose_of line))
  unfolding share_turn
  share-step = rw ground-same (go (share_ground (drop n (wanted_in g)) line (A.Share s)) refl)
    where
      go : (r : Ruling) → share_ground (drop n (wanted_in g)) line (A.Share s) ≡ r
          → Later g n said number line (A.Share s) (turn_unless kept run number r (standing (checker_at (Ended (n + 1)) run) (K.with_share kept n s.kwh)))
      go (Ok done) e = one-said (ap accepted e) run (K.with_share kept n s.kwh) refl (more-said (one_wanted (ap accepted e)))
      go (Err refusal) e = stops-there refusal e run kept refl

later-step : (g : Given) (n : ℕ) (said : List ℤ) (run : Run) (kept : Kept) → Said g n said run kept → (number : ℕ) (line : List ℕ) (a : Asked)
    → Later g n said number line a (later_turn kept run number line n a)
unfolding share_grounds
later-step g n said run kept x number line (A.Settling l) =
    stops-there (too_late l) refl run kept (ap (λ (r : Refusal). standing (stopped_by run number r) kept) (late-same l))
later-step g n said run kept x number line (A.Share s) = share-step g n said run kept x number line s

-- ---- line after line

-- after a refusal nothing is read
stopped-stays : (run : Run) (kept : Kept) (number : ℕ) (r : Refusal) (n : ℕ) (lines : List (List ℕ))
    → each_line line_turn (standing (stopped_by run number r) kept) n lines ≡ standing (stopped_by run number r) kept
unfolding each_line line_turn stopped_by
stopped-stays run kept number r n [] = refl
stopped-stays run kept number r n (line ∷ lines) = stopped-stays run kept number r (n + 1) lines

stopped-said : (run : Run) (kept : Kept) (number : ℕ) (r : Refusal) (n count : ℕ) (lines : List (List ℕ))
    → finish_text (each_line line_turn (standing (stopped_by run number r) kept) n lines) count ≡ refusal_text number (Err r)
unfolding finish_text stopped_by
stopped-said run kept number r n count lines = ap (λ (s : Standing). finish_text s count) (stopped-stays run kept number r n lines)

abbrev some_wanted : Wanted
some_wanted = record { quarter = 0; direction = Positive; identifier = [] }

ended-quarters : (run : Run) → (ended_of run).quarters ≡ run.account.taken
unfolding ended_of
ended-quarters run = refl

-- the input ends after E
module _ (g : Given) (n : ℕ) (said : List ℤ) (run : Run) (kept : Kept) (x : Said g n said run kept) (count : ℕ) (fits : count + 1 < 2 ^ 64) where
  number_is : (count + 1) % 2 ^ 64 ≡ count + 1
  number_is = omega arith

  ruled-so : ruled_text run kept (count + 1) n ≡ told (unless_missing (drop n (wanted_in g)) (count + 1) (judged g said))
  unfolding ruled_text
  ruled-so = rw (quarters-at, wanted-count g x.proper run.books x.meets.books (quarters_in g)) (go (dec_lt n (quarters_in g * per_quarter_hour g)))
    where
      quarters-at : (ended_of run).quarters ≡ quarters_in g
      quarters-at = ended-quarters run ∙ x.taken

      go : Dec (n < quarters_in g * per_quarter_hour g)
          → cond (eqb (quarters_in g * per_quarter_hour g) n) (verdict_text (judged_of run.books kept (quarters_in g))) (refusal_text (count + 1) (Err MisplacedShare))
          ≡ told (unless_missing (drop n (wanted_in g)) (count + 1) (judged g said))
      go (yes h) =
          let l : n < length (wanted_in g) = omega (arith, wanted-length g (quarters_in g)) in
          rw (ne_eqb (quarters_in g * per_quarter_hour g) n (λ e. omega arith), drop-cons (wanted_in g) n some_wanted l)
      go (no h) =
          let e : n ≡ quarters_in g * per_quarter_hour g = omega (arith, x.few) in
          let l : length (wanted_in g) ≤ n = omega (arith, wanted-length g (quarters_in g)) in
          rw (eq-eqb (quarters_in g * per_quarter_hour g) n (sym e), drop_of_length-le (wanted_in g) l)
          (ap verdict_text (judged-same g x.proper run.books x.meets.books kept x.rows said (x.count ∙ e) (rw e at x.there)))

-- the lines after E, and the input's end
module _ (m count : ℕ) (line : List ℕ) (us : List (List ℕ)) (g : Given) (n : ℕ) (said : List ℤ)
    (follows : (said' : List ℤ) (run : Run) (kept : Kept) → Said g (n + 1) said' run kept
    → finish_text (each_line line_turn (standing (checker_at (Ended (n + 1)) run) kept) (m + 1) us) count ≡ told (share_lines g (drop (n + 1) (wanted_in g)) said' (m + 1 + 1) us)) where
  share-told : (s : Standing) → Later g n said (m + 1) line (asked_of line) s
      → finish_text (each_line line_turn s (m + 1) us) count ≡ told (share_lines g (drop n (wanted_in g)) said (m + 1) (line ∷ us))
  unfolding share_lines
  share-told s (stops-there refusal f run kept e) = rw (e, f, err-refused refusal) (stopped-said run kept (m + 1) refusal (m + 1) count us)
  share-told s (one-said t run kept e x) = rw (e, t, drop-drop 1 n (wanted_in g)) (follows (with_share said (asked_of line)) run kept x)

shares-told : (us : List (List ℕ)) (g : Given) (n : ℕ) (said : List ℤ) (run : Run) (kept : Kept) → Said g n said run kept → (m count : ℕ) → count ≡ m + length us → count + 1 < 2 ^ 64
    → finish_text (each_line line_turn (standing (checker_at (Ended n) run) kept) m us) count ≡ told (share_lines g (drop n (wanted_in g)) said (m + 1) us)
unfolding each_line finish_text share_lines line_turn
shares-told [] g n said run kept x m count e h =
    let z : m ≡ count = omega arith in
    rw (z, number_is g n said run kept x count h) (ruled-so g n said run kept x count h)
shares-told (line ∷ us) g n said run kept x m count e h =
    share-told m count line us g n said (λ said' run' kept' x'. shares-told us g (n + 1) said' run' kept' x' (m + 1) count (omega arith) h)
    (later_turn kept run (m + 1) line n (asked_of line)) (later-step g n said run kept x (m + 1) line (asked_of line))

-- the lines up to E
open-end : {so : SoFar} {s : Standing} → Stands so s → (count : ℕ) → count + 1 < 2 ^ 64 → finish_text s count ≡ refusal_text (count + 1) (Err NoEnd)
unfolding finish_text
open-end (before room) count h = let e : (count + 1) % 2 ^ 64 ≡ count + 1 = omega arith in rw e
open-end (within m p r k) count h = let e : (count + 1) % 2 ^ 64 ≡ count + 1 = omega arith in rw e

module _ (n count : ℕ) (line : List ℕ) (lines : List (List ℕ)) (counts : count ≡ n + suc (length lines)) (fits : count + 1 < 2 ^ 64)
    (follows : (so : SoFar) (s : Standing) → Stands so s → finish_text (each_line line_turn s (n + 1) lines) count ≡ told (outcome so (n + 1 + 1) lines)) where
  line-told : (so : SoFar) (s : Standing) → Step so (n + 1) line (asked_of line) s → finish_text (each_line line_turn s (n + 1) lines) count ≡ told (outcome so (n + 1) (line ∷ lines))
  unfolding outcome
  line-told so s (stops refusal f run kept e) = rw (e, f, err-refused refusal) (stopped-said run kept (n + 1) refusal (n + 1) count lines)
  line-told so s (goes_on_lem t on x) =
      rw (t, on (after_end so (n + 1 + 1) lines) (outcome (after_asked so line (asked_of line)) (n + 1 + 1) lines)) (follows (after_asked so line (asked_of line)) s x)
  line-told so s (ends t a g run kept o e x) =
      rw (e, t, ap (λ (y : Asked). unless_end y (after_end so (n + 1 + 1) lines) (outcome (after_asked so line (asked_of line)) (n + 1 + 1) lines)) a, o)
      (shares-told lines g 0 [] run kept x (n + 1) count (omega arith) fits)

lines-told : (lines : List (List ℕ)) (so : SoFar) (s : Standing) → Stands so s → (n count : ℕ) → count ≡ n + length lines → count + 1 < 2 ^ 64
    → finish_text (each_line line_turn s n lines) count ≡ told (outcome so (n + 1) lines)
unfolding each_line outcome
lines-told [] so s x n count e h = let z : count ≡ n = omega arith in rw (← z) (open-end x count h)
lines-told (line ∷ lines) so s x n count e h =
    line-told n count line lines e h (λ so' s' x'. lines-told lines so' s' x' (n + 1) count (omega arith) h) so (line_turn s (n + 1) line) (line_step x (n + 1) line)

-- what is printed: each complete line takes its turn, then the input ends
abbrev pub check : Kept → List ℕ → List ℕ
check kept input = finish_text (each_line line_turn (standing empty_checker kept) 0 (lines_of input)) (length (lines_of input))

-- WHAT IS PRINTED FOR AN INPUT IS WHAT IT MEANS: whatever the lent lists had in them
pub checked-is : (kept : Kept) (input : List ℕ) → Room kept → length (lines_of input) + 1 < 2 ^ 64 → check kept input ≡ checked input
unfolding checked outcome_of empty_checker
checked-is kept input room h = lines-told (lines_of input) nothing _ (before room) 0 (length (lines_of input)) (omega arith) h

pub checked-means : (kept : Kept) (input : List ℕ) → Room kept → length input + 1 < 2 ^ 64 → check kept input ≡ checked input
checked-means kept input room h = checked-is kept input room (omega (arith, lines_fit input))
