-- How a call's answer and bytes tell a turn.
use Rattle.std.proofs.Common.{◌≡◌, ℕ, ◌+◌, ◌%◌, ◌^◌, ◌<◌, ◌≤◌, Bool, true, false, cond, List, length, ℤ, Ok, Err, is_err, sym, refl, ap, ◌∙◌, subst, arith, le-leb}
use lib.Dec.{leb-zero}
use Rattle.vocabulary.specs.declared.refusal.Refusal.{Refusal}
use Rattle.vocabulary.specs.declared.refusal.Refusal.TheVariants.{NoEnd}
use Rattle.vocabulary.specs.Refusals.{Ruling, accepted, allowed}
use Rattle.vocabulary.specs.Stage.{closed_at}
use Rattle.vocabulary.specs.declared.stage.Stage.{Stage}
use Rattle.vocabulary.specs.declared.stage.Stage.TheVariants.{Empty, Open, Closed}
use Rattle.vocabulary.proofs.Answers.{err-refused}
use Rattle.sheets.specs.Buffer.{Printed, buffer_length, print_answer, print_into, over}
use Rattle.sheets.specs.Sheet.{quarter_text}
use Rattle.sheets.proofs.Yielding as yields
use Rattle.sheets.proofs.Printing.{room-enough}
use Rattle.lines.specs.Turns.{quiet}
use Rattle.reading.specs.Line.{line_of}
use Rattle.reading.specs.declared.Line.{Line}
use Rattle.reading.specs.declared.Line.TheVariants as L
use Rattle.text.specs.Desk.{Turn, Tells, desk_at, refused_turn, open_turn, answered_turn, sample_turn, end_turn, unless}
use Rattle.text.specs.Desk.{taken_text, quarter_turn, first_turn, next_turn, turn_at, line_turn, finish_at, finish_turn, answer_of}
use Rattle.text.specs.Serving.{Turned, told_by, early, late, misplaced_at, served_turn, asked_of, followed_turn, placed_turn}
use Rattle.text.specs.Serving.{told_with, bare_turned, Settles}
use Rattle.settlement.specs.declared.bare.Bare.{Bare}
use Rattle.settlement.specs.declared.bare.BareTaken.{BareTaken}
use Rattle.settlement.specs.declared.run.Run.{Run}
use Rattle.settlement.specs.Bare.{bare_of, whole_of, bare_taken_of}
use Rattle.settlement.proofs.BareLaws.{taken-whole}
use Rattle.settlement.specs.Run.{taken_of}
use Rattle.settlement.specs.Many.{room_of}
use Rattle.settlement.proofs.Many.{not_full}
use Rattle.text.specs.declared.desk.Desk.{Desk}
use Rattle.text.specs.declared.desk.Told.{Told}
use Rattle.text.specs.declared.desk.BareTold.{BareTold}

-- the text was printed, if there was room for it
pub turned : {out out' : List ℕ} {turn : Turn} {p : Printed} {r : Told} → r ≡ told_by turn.desk p → p ≡ print_answer out turn.text
    → out' ≡ print_into out turn.text → length turn.text ≤ buffer_length → Turned out turn r out'
turned {turn = turn} a e b h = record { told = a ∙ ap (told_by turn.desk) e; bytes = b; room = h }

-- nothing was printed
pub silent : (out : List ℕ) (after : Desk) → Turned out (quiet after) (told_by after (Ok 0)) out
silent out after = record { told = rw (leb-zero (length out)); bytes = rw (leb-zero (length out)); room = omega arith }

-- the desk that came in was put back where there was no room
pub tells : {out out' : List ℕ} {before : Desk} {turn : Turn} {t r : Told} → Turned out turn t out' → r ≡ answer_of before t.desk t.printed → Tells out before turn r out'
tells {before = before} u a =
    record { prints = record { answer = a ∙ ap (λ (t : Told). answer_of before t.desk t.printed) u.told; bytes = u.bytes }; room = u.room }

-- nothing has to be put back where the buffer is long enough for every text
pub long-enough : {out out' : List ℕ} (before : Desk) {turn : Turn} {r : Told} → Turned out turn r out' → buffer_length ≤ length out → Tells out before turn r out'
long-enough {out} before {turn} u k =
    let e : print_answer out turn.text ≡ Ok (length turn.text) = room-enough out turn.text buffer_length u.room k in
    record { prints = record { answer = u.told ∙ ap (told_by turn.desk) e ∙ sym (ap (answer_of before turn.desk) e); bytes = u.bytes }; room = u.room }

-- another name of the turn
pub as-turned : {out out' : List ℕ} {turn turn' : Turn} {r : Told} → turn ≡ turn' → Turned out turn r out' → Turned out turn' r out'
as-turned {out} {out'} {r = r} e t = subst (λ (x : Turn). Turned out x r out') e t

pub as-turn : {out out' : List ℕ} {before : Desk} {turn turn' : Turn} {r : Told} → turn ≡ turn' → Tells out before turn r out' → Tells out before turn' r out'
as-turn {out} {out'} {before} {r = r} e t = subst (λ (x : Turn). Tells out before x r out') e t

-- a call's refusal is the line's, or there is none
module _ (desk : Desk) (number : ℕ) (turn : Turn) {ruling : Ruling} where
  pub refuses : (refusal : Refusal) → ruling ≡ Err refusal → refused_turn desk number (Err refusal) ≡ unless desk number ruling turn
  refuses refusal e = rw (e, err-refused refusal)

  pub goes_on_lem : ruling ≡ Ok tt → turn ≡ unless desk number ruling turn
  goes_on_lem e = rw e

-- a value that is allowed is that of a call that refuses nothing
pub allowed-value : {A : Type 0} {x y : A} (ruling : Ruling) → allowed ruling x ≡ Ok y → (ruling ≡ Ok tt) × (x ≡ y)
allowed-value (Ok done) e = (refl, cc)
allowed-value (Err refusal) e = cc

pub allowed-not : {A : Type 0} (x : A) {refusal : Refusal} (ruling : Ruling) → allowed ruling x ≡ Err refusal → ruling ≡ Err refusal
allowed-not x (Ok done) e = cc
allowed-not x (Err other) e = cc

pub refused-err : (ruling : Ruling) → is_err ruling ≡ true → accepted ruling ≡ false
refused-err (Ok done) e = cc
refused-err (Err refusal) e = err-refused refusal

pub accepted-ok : (ruling : Ruling) → is_err ruling ≡ false → accepted ruling ≡ true
accepted-ok (Ok done) e = refl
accepted-ok (Err refusal) e = cc

-- ---- the turn at the desk's stage

module _ (desk : Desk) (number : ℕ) (line : List ℕ) where
  first-placed : (said : Line) → unless desk number (early said) (served_turn desk number line said) ≡ first_turn desk number said
  unfolding first_turn served_turn
  first-placed (L.Header header) = refl
  first-placed (L.Bounds bounds) = refl
  first-placed (L.Setpoint setpoint) = refl
  first-placed (L.Contract contract) = refl
  first-placed (L.Sample sample) = refl
  first-placed L.End = refl
  first-placed L.Malformed = refl

  next-placed : (said : Line) → unless desk number (late said) (served_turn desk number line said) ≡ next_turn desk number line said
  unfolding next_turn served_turn
  next-placed (L.Header header) = refl
  next-placed (L.Bounds bounds) = refl
  next-placed (L.Setpoint setpoint) = refl
  next-placed (L.Contract contract) = refl
  next-placed (L.Sample sample) = refl
  next-placed L.End = refl
  next-placed L.Malformed = refl

  -- it is served by what the run answers, and by what follows
  pub served-asked : (said : Line)
      → unless desk number (asked_of desk.run line said).refusal (followed_turn (desk_at Open (asked_of desk.run line said).run) number said)
      ≡ served_turn desk number line said
  unfolding served_turn asked_of followed_turn answered_turn sample_turn open_turn end_turn refused_turn
  served-asked (L.Header header) = refl
  served-asked (L.Bounds bounds) = refl
  served-asked (L.Setpoint setpoint) = refl
  served-asked (L.Contract contract) = refl
  served-asked (L.Sample sample) = refl
  served-asked L.End = refl
  served-asked L.Malformed = refl

  at_stage_lem : (stage : Stage) → closed_at stage ≡ false
      → unless desk number (misplaced_at stage (line_of line)) (served_turn desk number line (line_of line)) ≡ turn_at stage desk number line
  at_stage_lem Empty e = first-placed (line_of line)
  at_stage_lem Open e = next-placed (line_of line)
  at_stage_lem Closed e = absurd (let z : ◌≡◌ {A = ℕ} 0 1 = cc in (omega arith))

  -- while the desk reads, a line is served if it comes in its place
  pub line-placed : closed_at desk.stage ≡ false → placed_turn desk number line (line_of line) ≡ line_turn desk number line
  unfolding placed_turn line_turn
  line-placed reads = at_stage_lem desk.stage reads

-- and the input's end comes too early
module _ (desk : Desk) (count : ℕ) where
  no_end : (stage : Stage) → closed_at stage ≡ false → refused_turn desk ((count + 1) % 2 ^ 64) (Err NoEnd) ≡ finish_at stage desk ((count + 1) % 2 ^ 64)
  no_end Empty e = refl
  no_end Open e = refl
  no_end Closed e = absurd (let z : ◌≡◌ {A = ℕ} 0 1 = cc in (omega arith))

  pub finish-open : closed_at desk.stage ≡ false → refused_turn desk ((count + 1) % 2 ^ 64) (Err NoEnd) ≡ finish_turn desk count
  unfolding finish_turn
  finish-open reads = no_end desk.stage reads

-- a closed desk prints nothing
module _ (desk : Desk) (shut : closed_at desk.stage ≡ true) where
  pub line-closed : (number : ℕ) (line : List ℕ) → line_turn desk number line ≡ quiet desk
  unfolding line_turn
  line-closed number line = by-stage desk.stage shut
    where
      by-stage : (stage : Stage) → closed_at stage ≡ true → turn_at stage desk number line ≡ quiet desk
      by-stage Empty e = absurd (let z : ◌≡◌ {A = ℕ} 0 1 = cc in (omega arith))
      by-stage Open e = absurd (let z : ◌≡◌ {A = ℕ} 0 1 = cc in (omega arith))
      by-stage Closed e = refl

  pub finish-closed : (count : ℕ) → finish_turn desk count ≡ quiet desk
  unfolding finish_turn
  finish-closed count = by-stage desk.stage shut
    where
      by-stage : (stage : Stage) → closed_at stage ≡ true → finish_at stage desk ((count + 1) % 2 ^ 64) ≡ quiet desk
      by-stage Empty e = absurd (let z : ◌≡◌ {A = ℕ} 0 1 = cc in (omega arith))
      by-stage Open e = absurd (let z : ◌≡◌ {A = ℕ} 0 1 = cc in (omega arith))
      by-stage Closed e = refl

-- while there is room in the quarter hour, nothing is taken and nothing printed
pub waits : (run : Run) → 0 < room_of run → quarter_turn run ≡ quiet (desk_at Open run)
unfolding quarter_turn taken_of
waits run h =
    ap (λ (x : Ruling). cond (accepted x) (record { desk = desk_at Open (taken_of run).run; text = taken_text (taken_of run) }) (quiet (desk_at Open run))) (not_full run h)

-- ---- samples of which a reader has the powers

module _ (bare : Bare) (sp ac : List ℤ) where
  abbrev run : Run
  run = whole_of bare sp ac

  -- the run that is taken from has them where they were
  pub taken-told : {t : BareTaken} {p : Printed} {out out' : List ℕ} → t ≡ bare_taken_of (taken_of run) → accepted t.refusal ≡ true
      → p ≡ print_answer out (quarter_text t.quarter t.sheets) → out' ≡ print_into out (quarter_text t.quarter t.sheets)
      → length (quarter_text t.quarter t.sheets) ≤ buffer_length
      → Turned out (quarter_turn run) (told_with (record { bare = t.bare; printed = p }) sp ac) out'
  unfolding quarter_turn taken_text
  taken-told {t} {p} e a answer bytes room =
      let a' = rw e at a in
      let same : told_with (record { bare = t.bare; printed = p }) sp ac ≡ told_by (desk_at Open (taken_of run).run) p =
      ap (λ (b : Bare). told_by (desk_at Open (whole_of b sp ac)) p) (ap (λ (x : BareTaken). x.bare) e) ∙ ap (λ (r : Run). told_by (desk_at Open r) p) (taken-whole run) in
      rw a' (turned same (rw e at answer) (rw e at bytes) (rw e at room))

  -- in a long buffer there is room for the quarter hour
  pub settles : {r : BareTold} {out out' : List ℕ} → buffer_length ≤ length out → Turned out (quarter_turn run) (told_with r sp ac) out' → Settles out bare sp ac r out'
  settles {r} {out} h u =
      let text = (quarter_turn run).text in
      let e : print_answer out text ≡ Ok (length text) = room-enough out text buffer_length u.room h in
      let room : length text ≤ length out = omega (arith, u.room, h) in
      yields.long-enough _ buffer_length out _ (bare_turned (quarter_turn run)) text h
      (ap (λ (x : Told). record { bare = bare_of x.desk.run; printed = x.printed }) u.told
      ∙ ap (λ (x : Printed). record { bare = bare_of (quarter_turn run).desk.run; printed = x }) e)
      (u.bytes ∙ ap (λ (b : Bool). cond b (over text out) out) (le-leb _ _ room))
      room
