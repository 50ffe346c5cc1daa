-- Recorded samples that are read straight out of the block come to the same as a line at a time.
-- Assumes nothing.
use Rattle.std.specs.Prelude.{Some, None}
use Rattle.std.proofs.Common.{◌≡◌, ℕ, zero, suc, ◌+◌, ◌-◌, ◌%◌, ◌^◌, ◌<◌, ◌≤◌, true, List, ◌∷◌, length, drop, sym, refl, ap, ◌∙◌, subst, add-one, arith, length-append, length-drop, drop-drop}
use native.Mathlib.Nat.{mod-add-mod}
use Rattle.arithmetic.proofs.Booleans.{true-false}
use Rattle.lines.specs.Gathering.{start_at, past_of}
use Rattle.lines.specs.Feed.{Start}
use Rattle.lines.specs.Within.{and_then, feed_within}
use Rattle.lines.specs.declared.Gatherer.{Gatherer}
use Rattle.lines.proofs.FeedLaws.{past-line, past-start, past-past}
use Rattle.lines.proofs.WithinLaws.{whole-line}
use Rattle.reading.specs.Entry.{entry_of}
use Rattle.reading.specs.declared.entry.Entry.TheVariants as E
use Rattle.vocabulary.specs.declared.recorded.Recorded.{Recorded}
use Rattle.samples.specs.declared.recorded.RecordedLine.{RecordedLine}
use Rattle.samples.proofs.RecordedMeaning.{Enters}
use Rattle.print.specs.Print.{last}
use Rattle.print.proofs.Writing.{wrote-length}
use Rattle.mending.specs.Mender.{Turn, Turns, line_room, line_turn, row_turn, next_turn, turn_at}
use Rattle.vocabulary.specs.Stage.{open_at, closed_at}
use Rattle.mendfeed.specs.Reader.{closed_of}
use Rattle.mendfeed.specs.Steps.{Moves, So, Ready, past_rows, ran_from, Runnable, Rows, Runs, Tries, Steps}
use Rattle.vocabulary.specs.declared.stage.Stage.{Stage}
use Rattle.vocabulary.specs.declared.stage.Stage.TheVariants.{Empty, Open, Closed}
use Rattle.mending.specs.declared.mender.Mender.{Mender}
use Rattle.mending.specs.declared.mender.Told.{Told}
use Rattle.mendfeed.specs.declared.Reader.{Reader}
use Rattle.mendfeed.specs.declared.Moved.{Moved}
use Rattle.mendfeed.specs.declared.Ran.{Ran}
use Rattle.mendfeed.proofs.ReaderLaws.{so-none, so-then, so_step}

-- ---- A RECORDED SAMPLE

-- what passes for open
pub open-stage : (stage : Stage) → open_at stage ≡ true → stage ≡ Open
open-stage Empty e = true-false e refl
open-stage Open e = refl
open-stage Closed e = true-false e refl

-- its line makes its turn
row-turn : (m : Mender) (n : ℕ) (line : List ℕ) (r : Recorded) → m.stage ≡ Open → entry_of line ≡ E.Recorded r → line_turn m n line ≡ row_turn m n r
unfolding line_turn
row-turn m n line r o e = ap (λ (s : Stage). turn_at s m n (entry_of line)) o ∙ ap (next_turn m n) e

row-moves : {m : Mender} {g : Gatherer} {block : List ℕ} {at : ℕ} {e : RecordedLine} {out : List ℕ} {from : ℕ} {told : Told} {out' : List ℕ} → m.stage ≡ Open → Start g
    → (l : Enters block at e) → Turns out from (row_turn m ((g.count + 1) % 2 ^ 64) e.recorded) told out'
    → Moves (record { gatherer = g; mender = m }) block at out from (record { reader = record { gatherer = past_of 1 g; mender = told.mender }; used = length l.line + 1; next = told.next }) out'
row-moves {m} {g} {block} {at} {e} {out} {from} {told} {out'} o s l t =
    let turn = row_turn m ((g.count + 1) % 2 ^ 64) e.recorded in
    let long : length l.line + 1 + length l.rest ≡ length block - at = omega (arith, length-drop at block, ap length l.form, length-append l.line (10 ∷ l.rest)) in
    let left : l.rest ≡ drop (at + (length l.line + 1)) block =
    sym (sym (drop-drop (length l.line + 1) at block) ∙ ap (drop (length l.line + 1)) l.form ∙ past-line l.line l.rest) in
    record {
      text = turn.text;
      short = t.text.short;
      wrote = t.text.wrote;
      within = omega (arith, long);
      some = omega arith;
      is = λ room reads.
          ap (feed_within line_turn closed_of line_room room g m) l.form
          ∙ whole-line line_turn closed_of line_room room g m l.rest reads s l.no-lf l.few
          ∙ ap (λ (x : Turn). and_then x.text (length l.line + 1) (feed_within line_turn closed_of line_room (room - length x.text) (past_of 1 g) x.desk l.rest))
          (row-turn m ((g.count + 1) % 2 ^ 64) l.line e.recorded o l.says)
          ∙ ap (λ (d : Mender). and_then turn.text (length l.line + 1) (feed_within line_turn closed_of line_room (room - length turn.text) (past_of 1 g) d l.rest)) (sym t.mender)
          ∙ ap (λ (x : List ℕ). and_then turn.text (length l.line + 1) (feed_within line_turn closed_of line_room (room - length turn.text) (past_of 1 g) told.mender x)) left;
    }

-- ---- ONE AFTER THE OTHER

past-rows-start : (n : ℕ) {g : Gatherer} → Start g → Start (past_rows n g)
past-rows-start zero s = s
past-rows-start (suc n) {g} s = past-start (suc n) g

one_more : (n : ℕ) (g : Gatherer) → past_of 1 (past_rows n g) ≡ past_rows (suc n) g
one_more zero g = refl
one_more (suc n) g = past-past (suc n) 1 g ∙ ap (λ (k : ℕ). past_of k g) (add-one (suc n))

row_number : (n : ℕ) (g : Gatherer) → (g.count + suc n) % 2 ^ 64 ≡ ((past_rows n g).count + 1) % 2 ^ 64
unfolding past_of
row_number zero g = refl
row_number (suc n) g = sym (mod-add-mod (g.count + suc n) (2 ^ 64) 1 ∙ (let e : g.count + suc n + 1 ≡ g.count + suc (suc n) = omega arith in ap (λ (k : ℕ). k % 2 ^ 64) e))

pub none_more : {count : ℕ} {block : List ℕ} {ran : Ran} {out : List ℕ} → Runnable block ran out → length out ≤ last → Runs count block ran out ran out
none_more {count} {block} {ran} {out} w few =
    record {
      up = omega arith;
      far = omega arith;
      still = w;
      none = λ e. refl;
      so = λ g s c. so-none (ran_from g ran) block ran.to w.room few;
    }

pub runs_then : {count : ℕ} {block : List ℕ} {a b c : Ran} {out out' out'' : List ℕ} → Runs count block a out b out' → Runs count block b out' c out'' → Runs count block a out c out''
runs_then {a = a} {b = b} {c = c} f g =
    record {
      up = omega (arith, f.up, g.up);
      far = omega (arith, f.far, g.far);
      still = g.still;
      none = λ e. g.none (omega (arith, f.up, g.up)) ∙ f.none (omega (arith, f.up, g.up));
      so = λ h s k. so-then (f.so h s k) (g.so h s k);
    }

pub row-runs : {count : ℕ} {block : List ℕ} {ran : Ran} {e : RecordedLine} {out : List ℕ} {n rows : ℕ} {told : Told} {out' : List ℕ} → Runnable block ran out
    → Ready ran.mender (length out - ran.next) → Enters block ran.to e → rows ≡ ran.rows + 1 → n ≡ (count + rows) % 2 ^ 64
    → Turns out ran.next (row_turn ran.mender n e.recorded) told out'
    → Runs count block ran out (record { mender = told.mender; rows = rows; to = e.to; next = told.next }) out'
row-runs {count} {block} {ran} {e} {out} {n} {rows} {told} {out'} w ready l q number t =
    let long : length l.line + 1 + length l.rest ≡ length block - ran.to =
    omega (arith, length-drop ran.to block, ap length l.form, length-append l.line (10 ∷ l.rest)) in
    let far : length out ≤ last = t.text.wrote.reach in
    record {
      up = omega (arith, q);
      far = omega (arith, q, l.place);
      still = record {
        few = omega (arith, q, l.place, w.few);
        within = omega (arith, l.place, long);
        room = omega (arith, t.text.wrote.next, t.text.short, ready.enough, far, wrote-length t.text.wrote);
      };
      none = λ same. absurd (omega (arith, q));
      so = one-row;
    }
  where
    one-row : (g : Gatherer) → Start g → g.count ≡ count
        → So (ran_from g ran) block ran.to out ran.next (record { gatherer = past_rows rows g; mender = told.mender }) e.to told.next out'
    one-row g s k =
        let here : rows ≡ suc ran.rows = q ∙ add-one ran.rows in
        let numbered : n ≡ ((past_rows ran.rows g).count + 1) % 2 ^ 64 =
        number ∙ ap (λ (c : ℕ). (c + rows) % 2 ^ 64) (sym k) ∙ ap (λ (r : ℕ). (g.count + r) % 2 ^ 64) here ∙ row_number ran.rows g in
        let turns = subst (λ (x : ℕ). Turns out ran.next (row_turn ran.mender x e.recorded) told out') numbered t in
        let moves = row-moves ready.taking (past-rows-start ran.rows s) l turns in
        let so = so_step (ap closed_at ready.taking) ready.enough moves in
        let g' : past_of 1 (past_rows ran.rows g) ≡ past_rows rows g = one_more ran.rows g ∙ ap (λ (r : ℕ). past_rows r g) (sym here) in
        subst (λ (y : Gatherer). So (ran_from g ran) block ran.to out ran.next (record { gatherer = y; mender = told.mender }) e.to told.next out') g'
        (subst (λ (x : ℕ). So (ran_from g ran) block ran.to out ran.next (record { gatherer = past_of 1 (past_rows ran.rows g); mender = told.mender }) x told.next out') (sym l.place) so)

-- one more, or none
module _ {count : ℕ} {block : List ℕ} {ran : Ran} {out : List ℕ} where
  pub no-row : Rows count block ran out None out
  no-row =
      record {
        none = λ e. refl;
        one = λ m e. absurd (let z : ◌≡◌ {A = ℕ} 0 1 = cc in (omega arith));
        runs = λ m e. absurd (let z : ◌≡◌ {A = ℕ} 0 1 = cc in (omega arith));
      }

  pub a-row : {more : Ran} {out' : List ℕ} → more.rows ≡ ran.rows + 1 → Runs count block ran out more out' → Rows count block ran out (Some more) out'
  a-row {more} {out'} q w =
      record {
        none = λ e. absurd (let z : ◌≡◌ {A = ℕ} 0 1 = cc in (omega arith));
        one = λ m e. (let k : more ≡ m = cc in ap (λ (r : Ran). r.rows) (sym k) ∙ q);
        runs = λ m e. (let k : more ≡ m = cc in subst (λ (r : Ran). Runs count block ran out r out') k w);
      }

-- the buffer keeps its length
pub runs-length : {count : ℕ} {block : List ℕ} {ran : Ran} {out : List ℕ} {r : Ran} {out' : List ℕ} → Runs count block ran out r out' → length out' ≡ length out
runs-length {count} w = wrote-length (w.so (start_at count) (record { room = refl; nothing = refl }) refl).wrote

-- ---- A STRETCH OF THEM

past-some : (n : ℕ) (g : Gatherer) → (n ≡ 0 → ⊥) → past_rows n g ≡ past_of n g
past-some zero g h = absurd (h refl)
past-some (suc n) g h = refl

module _ {reader : Reader} {block : List ℕ} {at : ℕ} {out : List ℕ} {from count : ℕ} {r : Ran} {out' : List ℕ}
    (w : Runs count block (record { mender = reader.mender; rows = 0; to = at; next = from }) out r out') where
  pub tried-none : r.rows ≡ 0 → Tries reader block at out from None out'
  tried-none e = record { none = λ z. w.none e; some = λ m z. absurd (let q : ◌≡◌ {A = ℕ} 0 1 = cc in (omega arith)) }

  pub tried-some : {g : Gatherer} → Start reader.gatherer → count ≡ reader.gatherer.count → (r.rows ≡ 0 → ⊥) → g ≡ past_of r.rows reader.gatherer
      → Tries reader block at out from (Some (record { reader = record { gatherer = g; mender = r.mender }; used = r.to - at; next = r.next })) out'
  tried-some {g} s k n e =
      let far : at < r.to = omega (arith, w.far, n) in
      let place : r.to ≡ at + (r.to - at) = omega (arith, far) in
      let past : past_rows r.rows reader.gatherer ≡ g = past-some r.rows reader.gatherer n ∙ sym e in
      let so = w.so reader.gatherer s (sym k) in
      let moved : Moved = record { reader = record { gatherer = g; mender = r.mender }; used = r.to - at; next = r.next } in
      let steps : Steps reader block at out from moved out' =
      record {
        within = omega (arith, place, w.still.within);
        some = omega (arith, far);
        so =
            subst (λ (i : ℕ). So reader block at out from (record { gatherer = g; mender = r.mender }) i r.next out') place
            (subst (λ (y : Gatherer). So reader block at out from (record { gatherer = y; mender = r.mender }) r.to r.next out') past so);
      } in
      record {
        none = λ z. absurd (let q : ◌≡◌ {A = ℕ} 0 1 = cc in (omega arith));
        some = λ m z. (let q : moved ≡ m = cc in subst (λ (x : Moved). Steps reader block at out from x out') q steps);
      }
