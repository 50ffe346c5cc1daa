-- A stretch of samples at the desk comes to the same as one sample line after the other.
use Prim.Native.Nat.{ℕ, suc, ◌+◌, ◌-◌, ◌%◌, ◌^◌, ◌≤◌}
use mathlib.Core.Path.{◌≡◌, refl, sym, ap, subst, ◌∙◌}
use mathlib.Core.Bool.{Bool, true, false, cond}
use mathlib.Core.List.{List, [], ◌∷◌}
use native.Mathlib.Omega.{arith}
use lib.ListN.{length}
use lib.IntN.{ℤ}
use Rattle.std.specs.Prelude.{Err}
use Rattle.vocabulary.specs.declared.refusal.Refusal.TheVariants.{WrongMoment}
use Rattle.vocabulary.specs.Refusals.{Ruling, accepted}
use Rattle.vocabulary.specs.declared.stage.Stage.{Stage}
use Rattle.vocabulary.specs.declared.stage.Stage.TheVariants.{Empty, Open, Closed}
use Rattle.vocabulary.specs.Sample.{power_in_range}
use Rattle.vocabulary.specs.declared.sample.Sample.{Sample}
use Rattle.lines.specs.Turns.{quiet}
use Rattle.reading.specs.Line.{line_of}
use Rattle.reading.specs.declared.Line.TheVariants as L
use Rattle.samples.specs.Stretch.{front_samples, setpoints_of, actuals_of, Reads}
use Rattle.samples.specs.declared.Stretch.{Stretch}
use Rattle.samples.proofs.Meaning.{begins}
use Rattle.samples.proofs.StretchFed.{Quietly, one, more}
use Rattle.settlement.specs.declared.run.Run.{Run}
use Rattle.settlement.specs.Run.{sampled, sampled_of, taken_of}
use Rattle.records.specs.Tape.{samples_in}
use Rattle.settlement.specs.Many.{room_of, many_of}
use Rattle.settlement.specs.Bare.{bare_of, whole_of, with_more}
use Rattle.settlement.specs.declared.bare.Bare.{Bare}
use Rattle.settlement.proofs.BareLaws.{room-few, taken-whole, put-taken}
use Rattle.settlement.proofs.Many as many
use Rattle.settlement.proofs.Many.{Ranged, with_all, room-left, none-refused, all-taken}
use Rattle.text.specs.Desk.{Turn, desk_at, refused_turn, taken_text, quarter_turn, sample_turn, samples_turn, room_at, first_turn, next_turn, turn_at, line_turn}
use Rattle.text.proofs.Telling.{waits}
use Rattle.text.specs.declared.desk.Desk.{Desk}
use Rattle.feed.specs.Reader.{closed_of}

-- ---- a line that says a sample

abbrev sample_at : Stage → Desk → ℕ → Sample → Turn
sample_at Empty desk number s = refused_turn desk number (Err WrongMoment)
sample_at Open desk number s = sample_turn desk number s
sample_at Closed desk number s = quiet desk

abbrev pub sample_line : Desk → ℕ → Sample → Turn
sample_line desk number s = sample_at desk.stage desk number s

pub says : (d : Desk) (number : ℕ) (line : List ℕ) (s : Sample) → closed_of d ≡ false → line_of line ≡ L.Sample s → line_turn d number line ≡ sample_line d number s
unfolding line_turn first_turn next_turn
says d number line s o e = by-stage d.stage
  where
    by-stage : (stage : Stage) → turn_at stage d number line ≡ sample_at stage d number s
    by-stage Empty = ap (first_turn d number) e
    by-stage Open = ap (next_turn d number line) e
    by-stage Closed = refl

-- ---- at an open desk with room

module _ (run : Run) (s : Sample) (m : ℕ) (room : suc m ≤ room_of run) (p : power_in_range s.setpoint ≡ true) (q : power_in_range s.actual ≡ true) where
  abbrev next : Run
  next = sampled run s.setpoint s.actual

  stored : (number : ℕ) → sample_turn (desk_at Open run) number s ≡ quarter_turn next
  unfolding sample_turn sampled_of
  stored number =
      ap (λ (x : Ruling). cond (accepted x) (quarter_turn (cond (accepted x) next run)) (refused_turn (desk_at Open run) number x))
      (none-refused run s.setpoint s.actual m room p q)

-- what the desk is after all of them
after-all : {ss : List Sample} (run : Run) → Ranged ss → length ss ≤ room_of run → samples_turn (desk_at Open run) ss ≡ quarter_turn (with_all run ss)
unfolding samples_turn
after-all run r h = ap (λ (a : _). quarter_turn a.run) (all-taken run r h)

-- ONE AFTER THE OTHER: nothing is printed but after the last
pub quietly : (run : Run) (c : ℕ) (s : Sample) (ss : List Sample) → Ranged (s ∷ ss) → suc (length ss) ≤ room_of run
    → Quietly line_turn closed_of sample_line says (desk_at Open run) c (s ∷ ss) (samples_turn (desk_at Open run) (s ∷ ss))
quietly run c s [] (many.more p q r) h =
    one refl (stored run s 0 h p q ((c + 1) % 2 ^ 64) ∙ sym (after-all run (many.more p q r) h))
quietly run c s (s' ∷ ss) (many.more p q r) h =
    let next = sampled run s.setpoint s.actual in
    let left : suc (length ss) ≤ room_of next = room-left run s.setpoint s.actual (suc (length ss)) h in
    let first = stored run s (suc (length ss)) h p q ((c + 1) % 2 ^ 64) ∙ waits next (omega arith) in
    subst (Quietly line_turn closed_of sample_line says (desk_at Open run) c (s ∷ (s' ∷ ss)))
    (after-all next r left ∙ sym (after-all run (many.more p q r) h))
    (more refl first (quietly next ((c + 1) % 2 ^ 64) s' ss r left))

-- there is room only where a run is open
pub open-there : (stage : Stage) (run : Run) (m : ℕ) → suc m ≤ room_at stage run → (stage ≡ Open) × (suc m ≤ room_of run)
open-there Empty run m h = absurd (omega arith)
open-there Open run m h = (refl, h)
open-there Closed run m h = absurd (omega arith)

-- and no more than the run has, nor than there are places
pub room_most : (stage : Stage) (run : Run) → room_at stage run ≤ room_of run
room_most Empty run = omega arith
room_most Open run = omega arith
room_most Closed run = omega arith

pub room_within : (stage : Stage) (run : Run) → room_at stage run ≤ 900 - run.tape.filled
room_within stage run = omega (arith, room_most stage run, room-few run)

-- ---- the samples of a stretch

pub ranged : (n : ℕ) (ls : List (List ℕ)) (ss : List Sample) → front_samples n ls ≡ ss → Ranged ss
ranged n ls [] e = many.none
ranged n ls (s ∷ ss) e =
    let b = begins n ls s ss e in
    many.more b.given.setpoint b.given.actual (ranged b.left b.lines ss b.more)

length-setpoints : (ss : List Sample) → length (setpoints_of ss) ≡ length ss
unfolding setpoints_of
length-setpoints [] = refl
length-setpoints (s ∷ ss) = ap suc (length-setpoints ss)

length-actuals : (ss : List Sample) → length (actuals_of ss) ≡ length ss
unfolding actuals_of
length-actuals [] = refl
length-actuals (s ∷ ss) = ap suc (length-actuals ss)

in_both : (ss : List Sample) → samples_in (setpoints_of ss) (actuals_of ss) ≡ ss
unfolding samples_in setpoints_of actuals_of
in_both [] = refl
in_both (s ∷ ss) = ap (λ (l : List Sample). s ∷ l) (in_both ss)

-- put in their places they are those that are taken one by one
pub put-there : (bare : Bare) {lines : List (List ℕ)} {most : ℕ} {sp ac sp' ac' : List ℤ} {read : Stretch} → Reads lines bare.filled most sp ac sp' ac' read
    → read.samples ≤ room_of (whole_of bare sp ac) → (many_of (whole_of bare sp ac) (front_samples most lines)).run ≡ whole_of (with_more bare read.samples) sp' ac'
put-there bare {lines} {most} {sp} {ac} reads few =
    let ss = front_samples most lines in
    let same : length (setpoints_of ss) ≡ length (actuals_of ss) = length-setpoints ss ∙ sym (length-actuals ss) in
    let all = subst Ranged (sym (in_both ss)) (ranged most lines ss refl) in
    let room : length (samples_in (setpoints_of ss) (actuals_of ss)) ≤ room_of (whole_of bare sp ac) = omega (arith, few, reads.samples, ap length (in_both ss)) in
    let counted : length (setpoints_of ss) ≡ _ = length-setpoints ss ∙ sym reads.samples in
    ap (λ (l : List Sample). (many_of (whole_of bare sp ac) l).run) (sym (in_both ss))
    ∙ put-taken bare sp ac (setpoints_of ss) (actuals_of ss) same all room
    ∙ (λ i. whole_of (with_more bare (counted i)) (sym reads.setpoints i) (sym reads.actuals i))

-- a quarter hour that is taken leaves them where they are
pub quarter-whole : (bare : Bare) (sp ac : List ℤ) → desk_at Open (whole_of (bare_of (quarter_turn (whole_of bare sp ac)).desk.run) sp ac) ≡ (quarter_turn (whole_of bare sp ac)).desk
unfolding quarter_turn
quarter-whole bare sp ac = go (accepted (taken_of run).refusal)
  where
    run : Run
    run = whole_of bare sp ac

    turn : Bool → Turn
    turn b = cond b (record { desk = desk_at Open (taken_of run).run; text = taken_text (taken_of run) }) (quiet (desk_at Open run))

    go : (b : Bool) → desk_at Open (whole_of (bare_of (turn b).desk.run) sp ac) ≡ (turn b).desk
    go true = ap (desk_at Open) (taken-whole run)
    go false = refl
