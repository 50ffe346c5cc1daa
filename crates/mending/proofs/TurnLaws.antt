-- How an answer of the mender tells a turn.
use Rattle.std.proofs.Common.{◌≡◌, ℕ, ◌+◌, ◌%◌, ◌^◌, ◌≤◌, Bool, true, false, cond, not, List, [], length, sym, refl, subst, arith}
use Rattle.print.specs.Print.{last}
use Rattle.std.specs.Prelude.{Ok, Err}
use Rattle.vocabulary.specs.declared.refusal.Refusal.{Refusal}
use Rattle.vocabulary.specs.declared.refusal.Refusal.TheVariants.{BadPower, NoEnd}
use Rattle.vocabulary.specs.Refusals.{Ruling, accepted}
use Rattle.vocabulary.specs.Sample.{power_in_range}
use Rattle.vocabulary.specs.Stage.{closed_at}
use Rattle.vocabulary.proofs.Answers.{err-refused}
use Rattle.arithmetic.proofs.Booleans.{true-false}
use Rattle.vocabulary.specs.declared.recorded.Recorded.{Recorded}
use Rattle.lines.specs.Turns.{quiet}
use Rattle.sheets.specs.Sheet.{refusal_text}
use Rattle.sheets.specs.Putting.{WroteUpTo}
use Rattle.sheets.proofs.Fields as fields
use Rattle.mending.specs.Mending.{Item, items_text}
use Rattle.mending.specs.Mender.{Turn, Turns, turned, at_stage, line_room, refused_turn, unless, row_refusal, sorted_refusal, turn_at, line_turn, finish_at, finish_turn}
use Rattle.reading.specs.Entry.{entry_of}
use Rattle.vocabulary.specs.declared.stage.Stage.{Stage}
use Rattle.vocabulary.specs.declared.stage.Stage.TheVariants.{Empty, Open, Closed}
use Rattle.mending.specs.declared.mender.Sorted.{Sorted}
use Rattle.mending.specs.declared.mender.Mender.{Mender}
use Rattle.mending.specs.declared.mender.Told.{Told}
use Rattle.mending.proofs.MenderLaws.{wider, refused-text}

-- another name of the turn
pub as-turn : {out out' : List ℕ} {at : ℕ} {turn turn' : Turn} {r : Told} → turn ≡ turn' → Turns out at turn r out' → Turns out at turn' r out'
as-turn {out} {out'} {at} {r = r} e t = subst (λ (x : Turn). Turns out at x r out') e t

-- items were printed, and the mender is another
pub printed : {n : ℕ} {out out' : List ℕ} {at : ℕ} {m : Mender} (items : List Item) {r : Told} → n ≤ line_room → r.mender ≡ m
    → WroteUpTo n out at (items_text items) r.next out' → Turns out at (turned m items) r out'
printed items h e w = record { mender = e; text = wider line_room h w }

-- nothing was printed
pub silent : {out : List ℕ} {at : ℕ} {m : Mender} {r : Told} → at ≤ last → length out ≤ last → r.mender ≡ m → r.next ≡ at → Turns out at (quiet m) r out
silent {out} {at} h l e f = record { mender = e; text = subst (λ (n : ℕ). WroteUpTo line_room out at [] n out) (sym f) (wider line_room (omega arith) (fields.nothing h l)) }

-- a refusal was printed
pub refused-told : {out out' : List ℕ} {at : ℕ} (m : Mender) (n : ℕ) (refusal : Ruling) {r : Told} → r.mender ≡ at_stage Closed m
    → WroteUpTo 44 out at (refusal_text n refusal) r.next out' → Turns out at (refused_turn m n refusal) r out'
unfolding refused_turn
refused-told m n refusal e w = record { mender = e; text = rw (refused-text n refusal) (wider line_room (omega arith) w) }

-- a call is refused, or goes on
module _ {ruling : Ruling} (m : Mender) (n : ℕ) (turn : Turn) where
  pub refuses : {refusal : Refusal} → Err refusal ≡ ruling → refused_turn m n (Err refusal) ≡ unless m n ruling turn
  refuses {refusal} e = rw (← e, err-refused refusal)

  pub goes_on : Ok tt ≡ ruling → turn ≡ unless m n ruling turn
  goes_on e = rw (← e)

-- a line that is not refused is not refused for what is missing before it
pub sorted_none : (m : Mender) (sorted : Sorted) (row : Recorded) → accepted (row_refusal m sorted row) ≡ true → accepted (sorted_refusal m sorted) ≡ true
unfolding row_refusal
sorted_none m sorted row e = go (not (power_in_range row.sample.setpoint)) (not (power_in_range row.sample.actual)) (accepted (sorted_refusal m sorted)) refl _ e
  where
    go : (a b c : Bool) → c ≡ accepted (sorted_refusal m sorted) → (x : Ruling) → accepted (cond a (Err BadPower) (cond b (Err BadPower) (cond c x (sorted_refusal m sorted)))) ≡ true
        → accepted (sorted_refusal m sorted) ≡ true
    go true b c k x e = true-false e refl
    go false true c k x e = true-false e refl
    go false false true k x e = sym k
    go false false false k x e = e

-- the input's end, of a recording that is over or not
pub finish-closed : (m : Mender) (count : ℕ) → closed_at m.stage ≡ true → finish_turn m count ≡ quiet m
unfolding finish_turn
finish-closed m count e = by-stage m.stage e
  where
    by-stage : (stage : Stage) → closed_at stage ≡ true → finish_at stage m ((count + 1) % 2 ^ 64) ≡ quiet m
    by-stage Empty e = true-false e refl
    by-stage Open e = true-false e refl
    by-stage Closed e = refl

pub finish-open : (m : Mender) (count : ℕ) → closed_at m.stage ≡ false → finish_turn m count ≡ refused_turn m ((count + 1) % 2 ^ 64) (Err NoEnd)
unfolding finish_turn
finish-open m count e = by-stage m.stage e
  where
    by-stage : (stage : Stage) → closed_at stage ≡ false → finish_at stage m ((count + 1) % 2 ^ 64) ≡ refused_turn m ((count + 1) % 2 ^ 64) (Err NoEnd)
    by-stage Empty e = refl
    by-stage Open e = refl
    by-stage Closed e = true-false refl e

-- a line of a recording that is over
pub line-closed : (m : Mender) (n : ℕ) (line : List ℕ) → closed_at m.stage ≡ true → line_turn m n line ≡ quiet m
unfolding line_turn
line-closed m n line e = by-stage m.stage e
  where
    by-stage : (stage : Stage) → closed_at stage ≡ true → turn_at stage m n (entry_of line) ≡ quiet m
    by-stage Empty e = true-false e refl
    by-stage Open e = true-false e refl
    by-stage Closed e = refl
