-- The reader's steps, as parts of one call.
-- Assumes nothing.
use Rattle.std.proofs.Common.{◌≡◌, ℕ, ◌+◌, ◌-◌, ◌<◌, ◌≤◌, min, Bool, true, false, cond, List, [], ◌++◌, length, take, drop, sym, refl, ap, ◌∙◌, subst, append_assoc, append-nil, add-zero, arith, length-append, length-drop, drop_of_length-le, drop-drop, le-ltb, lt-ltb}
use Rattle.std.proofs.lemmas.List.{take_min}
use Rattle.fields.proofs.DigitLaws.{to_end}
use Rattle.lines.specs.Feed.{Outcome, stay}
use Rattle.lines.specs.Within.{and_then, rests}
use Rattle.lines.specs.Gathering.{fresh_of, gathered_of}
use Rattle.lines.specs.Handing.{held_by}
use Rattle.lines.specs.declared.Gatherer.{Gatherer}
use Rattle.lines.specs.declared.Gathered.{Gathered}
use Rattle.lines.proofs.Calls.{used_all, used-some, used-within}
use Rattle.lines.proofs.WithinLaws.{by-line, line_then, on_gathered, rests-there, none_left}
use Rattle.print.specs.Print.{Wrote, last}
use Rattle.print.proofs.Writing.{wrote_nothing, join, at-start, measured, wrote-length}
use Rattle.sheets.specs.Buffer.{over}
use Rattle.std.specs.Prelude.{Ok}
use Rattle.sheets.proofs.Yielding as yields
use Rattle.sheets.proofs.Yielding.{long-enough}
use Rattle.mending.specs.Mender.{Turn, Turns, line_room, line_turn, finish_turn}
use Rattle.mending.proofs.TurnLaws.{as-turn}
use Rattle.mendfeed.specs.Reader.{closed_of, feed_of, finish_of, reader_of, unfed_of, fed_of, Yields}
use Rattle.mendfeed.specs.Steps.{Moves, So, Steps, Reads}
use Rattle.mending.specs.declared.mender.Mender.{Mender}
use Rattle.mending.specs.declared.mender.Told.{Told}
use Rattle.mendfeed.specs.declared.Reader.{Reader}
use Rattle.mendfeed.specs.declared.Moved.{Moved}
use Rattle.mendfeed.specs.declared.Fed.{Fed}

-- a line by the bytes that are kept of it
pub same_line : (m : Mender) (g : Gatherer) {n k : ℕ} {bytes : List ℕ} → bytes ≡ g.bytes → n ≡ g.count → k ≡ min g.length (length bytes)
    → line_turn m n (take k bytes) ≡ line_turn m g.count (held_by g)
same_line m g {n} {k} {bytes} p q r =
    ap (λ (x : ℕ). line_turn m x (take k bytes)) q
    ∙ ap (line_turn m g.count) (ap (λ (x : ℕ). take x bytes) r ∙ take_min g.length bytes ∙ ap (take g.length) p)

-- ---- A LINE, OR THE REST OF THE BLOCK

module _ (reader : Reader) (block : List ℕ) (at : ℕ) (out : List ℕ) (from : ℕ) (part : Gathered) (h : at < length block)
    (gathered : part ≡ gathered_of reader.gatherer (take (length block - at) (drop at block))) where
  is-gathered : part ≡ gathered_of reader.gatherer (drop at block)
  is-gathered = gathered ∙ ap (gathered_of reader.gatherer) (to_end block at)

  left : length (drop at block) ≡ length block - at
  left = length-drop at block

  used-is : part.used ≡ (gathered_of reader.gatherer (drop at block)).used
  used-is = ap (λ (r : Gathered). r.used) is-gathered

  some-used : 0 < part.used
  some-used = omega (arith, left, used-is, used-some (drop at block) reader.gatherer (omega (arith, left)))

  used-in : at + part.used ≤ length block
  used-in = omega (arith, left, used-is, used-within (drop at block) reader.gatherer)

  -- a complete line, or none
  abbrev by_end : ℕ → Bool → Outcome Mender
  by_end room complete =
      cond complete (line_then line_turn closed_of line_room room reader.mender part.gatherer part.used (drop part.used (drop at block)))
      (record { gatherer = part.gatherer; desk = reader.mender; used = part.used; text = [] })

  fed : (room : ℕ) → rests line_turn closed_of line_room reader.mender room ≡ false → feed_of room reader (drop at block) ≡ by_end room part.complete
  fed room o =
      by-line line_turn closed_of line_room (drop at block) room reader.gatherer reader.mender o
      ∙ ap (on_gathered line_turn closed_of line_room room reader.mender (drop at block)) (sym is-gathered)

  -- no line was complete
  abbrev after-rest : Reader
  after-rest = record { gatherer = part.gatherer; mender = reader.mender }

  pub rest-of-block : {out' : List ℕ} → out' ≡ out → from ≤ last → length out ≤ last → part.complete ≡ false
      → Moves reader block at out from (record { reader = after-rest; used = part.used; next = from }) out'
  rest-of-block {out'} same low few e =
      let u : part.used ≡ length (drop at block) = used-is ∙ used_all (drop at block) reader.gatherer (sym (ap (λ (r : Gathered). r.complete) is-gathered) ∙ e) in
      let w : length block ≤ at + part.used = omega (arith, left) in
      let z : drop (at + part.used) block ≡ [] = drop_of_length-le block w in
      record {
        text = [];
        short = omega arith;
        wrote = subst (λ (l : List ℕ). Wrote out from [] from l) (sym same) (wrote_nothing low few);
        within = used-in;
        some = some-used;
        is = λ room o.
            fed room o
            ∙ ap (by_end room) e
            ∙ sym
            (ap (and_then [] part.used) (none_left line_turn closed_of line_room (room - 0) part.gatherer reader.mender (drop (at + part.used) block) z)
            ∙ ap (λ (n : ℕ). record { gatherer = part.gatherer; desk = reader.mender; used = n; text = [] }) (add-zero part.used));
      }

  -- the line at hand was complete
  abbrev turn : Turn
  turn = line_turn reader.mender part.gatherer.count (held_by part.gatherer)

  pub line-of-block : {told : Told} {out' : List ℕ} {g : Gatherer} → part.complete ≡ true → g ≡ fresh_of part.gatherer → Turns out from turn told out'
      → Moves reader block at out from (record { reader = record { gatherer = g; mender = told.mender }; used = part.used; next = told.next }) out'
  line-of-block {told} {out'} {g} e f t =
      record {
        text = turn.text;
        short = t.text.short;
        wrote = t.text.wrote;
        within = used-in;
        some = some-used;
        is = λ room o.
            fed room o
            ∙ ap (by_end room) e
            ∙ ap (λ (l : List ℕ). line_then line_turn closed_of line_room room reader.mender part.gatherer part.used l) (drop-drop part.used at block)
            ∙ ap (λ (y : Gatherer). and_then turn.text part.used (feed_of (room - length turn.text) (record { gatherer = y; mender = turn.desk }) (drop (at + part.used) block))) (sym f)
            ∙ ap (λ (d : Mender). and_then turn.text part.used (feed_of (room - length turn.text) (record { gatherer = g; mender = d }) (drop (at + part.used) block))) (sym t.mender);
      }

-- ---- ALL STEPS: what was read so far came to a reader at place i, and its text stands in the buffer up to place `next`

pub so-none : (reader : Reader) (block : List ℕ) (at : ℕ) {out : List ℕ} {from : ℕ} → from ≤ length out → length out ≤ last → So reader block at out from reader at from out
so-none reader block at {out} {from} h few =
    record {
      text = [];
      used = 0;
      place = omega arith;
      next_is = omega arith;
      fits = omega arith;
      wrote = wrote_nothing (omega arith) few;
      is = (let o = feed_of (length out - from) reader (drop at block) in λ i. record { gatherer = o.gatherer; desk = o.desk; used = none o i; text = o.text });
    }
  where
    none : (o : Outcome Mender) → o.used ≡ 0 + o.used
    none o = omega arith

-- a turn after a turn
then-then : (a b : List ℕ) (m n : ℕ) (o : Outcome Mender) → and_then a m (and_then b n o) ≡ and_then (a ++ b) (m + n) o
then-then a b m n o = λ i. record { gatherer = o.gatherer; desk = o.desk; used = sums i; text = sym (append_assoc a b o.text) i }
  where
    sums : m + (n + o.used) ≡ m + n + o.used
    sums = omega arith

-- steps after steps
pub so-then : {block : List ℕ} {a b c : Reader} {at i i' from next next' : ℕ} {out out' out'' : List ℕ} → So a block at out from b i next out' → So b block i out' next c i' next' out''
    → So a block at out from c i' next' out''
so-then {block} {a} {b} {c} {at} {i} {i'} {from} {next} {next'} {out} {out'} {out''} f g =
    let same : length out' ≡ length out = wrote-length f.wrote in
    let long : length (f.text ++ g.text) ≡ length f.text + length g.text = length-append f.text g.text in
    record {
      text = f.text ++ g.text;
      used = f.used + g.used;
      place = omega (arith, f.place, g.place);
      next_is = omega (arith, f.next_is, g.next_is, long);
      fits = omega (arith, f.next_is, g.fits, long, same);
      wrote = join f.wrote g.wrote;
      is =
          f.is
          ∙ ap (λ (n : ℕ). and_then f.text f.used (feed_of (n - next) b (drop i block))) (sym same)
          ∙ ap (and_then f.text f.used) g.is
          ∙ then-then f.text g.text f.used g.used _
          ∙ ap (λ (n : ℕ). and_then (f.text ++ g.text) (f.used + g.used) (feed_of (n - next') c (drop i' block))) same;
    }

-- a line, or the rest of the block
pub so_step : {reader : Reader} {block : List ℕ} {at : ℕ} {out : List ℕ} {from : ℕ} {r : Moved} {out' : List ℕ} → closed_of reader.mender ≡ false → line_room ≤ length out - from
    → Moves reader block at out from r out' → So reader block at out from r.reader (at + r.used) r.next out'
so_step {reader} {block} {at} {out} {from} {r} {out'} o enough m =
    let reads : rests line_turn closed_of line_room reader.mender (length out - from) ≡ false = rw (o, le-ltb _ _ enough) in
    let short : length m.text ≤ line_room = m.short in
    let far : length out ≤ last = m.wrote.reach in
    let place : r.next ≡ from + length m.text = omega (arith, m.wrote.next, far, enough, short) in
    record {
      text = m.text;
      used = r.used;
      place = omega arith;
      next_is = place;
      fits = omega (arith, enough, short);
      wrote = m.wrote;
      is =
          m.is (length out - from) reads
          ∙ (let e : length out - from - length m.text ≡ length out - r.next = omega (arith, place) in
          ap (λ (n : ℕ). and_then m.text r.used (feed_of n r.reader (drop (at + r.used) block))) e);
    }

pub line-steps : {reader : Reader} {block : List ℕ} {at : ℕ} {out : List ℕ} {from : ℕ} {r : Moved} {out' : List ℕ} → closed_of reader.mender ≡ false → line_room ≤ length out - from
    → Moves reader block at out from r out' → Steps reader block at out from r out'
line-steps o enough m = record { within = m.within; some = m.some; so = so_step o enough m }

-- after a try that changed nothing
pub line-steps-then : {reader : Reader} {block : List ℕ} {at : ℕ} {out : List ℕ} {from : ℕ} {r : Moved} {out' out'' : List ℕ} → closed_of reader.mender ≡ false → line_room ≤ length out - from
    → out' ≡ out → Moves reader block at out' from r out'' → Steps reader block at out from r out''
line-steps-then {reader} {block} {at} {out} {from} {r} {out'} {out''} o enough same m = line-steps o enough (subst (λ (l : List ℕ). Moves reader block at l from r out'') same m)

module _ {start : Reader} {block out₀ : List ℕ} {reader : Reader} {i next : ℕ} {out : List ℕ} (so : So start block 0 out₀ 0 reader i next out) where
  -- no step more
  pub so-ends : feed_of (length out₀ - next) reader (drop i block) ≡ stay reader.gatherer reader.mender
      → Reads start block out₀ (record { reader = reader; used = i; next = next }) out
  so-ends e =
      let q : feed_of (length out₀) start block ≡ record { gatherer = reader.gatherer; desk = reader.mender; used = i; text = so.text } =
      (let z : length out₀ ≡ length out₀ - 0 = omega arith in ap (λ (n : ℕ). feed_of n start block) z)
      ∙ so.is
      ∙ ap (and_then so.text so.used) e
      ∙ (let z : so.used + 0 ≡ i = omega (arith, so.place) in ap (λ (n : ℕ). record { gatherer = reader.gatherer; desk = reader.mender; used = n; text = so.text ++ [] }) z)
      ∙ ap (λ (l : List ℕ). record { gatherer = reader.gatherer; desk = reader.mender; used = i; text = l }) (append-nil so.text) in
      let t : (feed_of (length out₀) start block).text ≡ so.text = ap (λ (o : Outcome Mender). o.text) q in
      let here : next ≡ length so.text = omega (arith, so.next_is) in
      record {
        reader_is = sym (ap reader_of q);
        used = sym (ap (λ (o : Outcome Mender). o.used) q);
        next = here ∙ ap length (sym t);
        bytes = at-start so.wrote (omega (arith, so.fits)) ∙ ap (λ (l : List ℕ). over l out₀) (sym t);
        room = omega (arith, here, so.fits);
      }

  pub so-closed : closed_of reader.mender ≡ true → Reads start block out₀ (record { reader = reader; used = i; next = next }) out
  so-closed c = so-ends (rests-there line_turn closed_of line_room _ reader.gatherer reader.mender (drop i block) (rw c))

  pub so-full : closed_of reader.mender ≡ false → length out - next < line_room → Reads start block out₀ (record { reader = reader; used = i; next = next }) out
  so-full c few =
      let low : length out₀ - next < line_room = omega (arith, few, wrote-length so.wrote) in
      so-ends (rests-there line_turn closed_of line_room _ reader.gatherer reader.mender (drop i block) (rw (c, lt-ltb _ _ low)))

  pub so-done : length block ≤ i → Reads start block out₀ (record { reader = reader; used = i; next = next }) out
  so-done h = so-ends (none_left line_turn closed_of line_room _ reader.gatherer reader.mender (drop i block) (drop_of_length-le block h))

-- ---- WHAT A CALL ANSWERS

pub too_short : (out : List ℕ) (reader : Reader) (o : Outcome Mender) → length out < line_room → Yields out reader o (unfed_of reader) out
too_short out reader o h = yields.too_short (λ (f : Fed). f.printed) line_room out (unfed_of reader) (fed_of o) o.text h refl

pub fed-whole : {out out' : List ℕ} {reader : Reader} {block : List ℕ} {r : Moved} → line_room ≤ length out → Reads reader block out r out'
    → Yields out reader (feed_of (length out) reader block) (record { reader = r.reader; used = r.used; printed = Ok r.next }) out'
fed-whole {out} {out'} {reader} {block} {r} h t =
    let o : Outcome Mender = feed_of (length out) reader block in
    long-enough (λ (f : Fed). f.printed) line_room out (unfed_of reader) (fed_of o) o.text h
    (λ i. record { reader = t.reader_is i; used = t.used i; printed = Ok (t.next i) }) t.bytes (omega (arith, t.room, t.next))

pub finished : {out out' : List ℕ} {reader : Reader} {n : ℕ} {told : Told} → line_room ≤ length out → n ≡ reader.gatherer.count → Turns out 0 (finish_turn reader.mender n) told out'
    → Yields out reader (finish_of reader) (record { reader = record { gatherer = reader.gatherer; mender = told.mender }; used = 0; printed = Ok told.next }) out'
finished {out} {out'} {reader} {n} {told} h e t =
    let same : finish_turn reader.mender n ≡ finish_turn reader.mender reader.gatherer.count = ap (finish_turn reader.mender) e in
    let u : Turns out 0 (finish_turn reader.mender reader.gatherer.count) told out' = as-turn same t in
    let text : List ℕ = (finish_turn reader.mender reader.gatherer.count).text in
    let few : length text ≤ length out = omega (arith, u.text.short) in
    let far : length out ≤ last = u.text.wrote.reach in
    long-enough (λ (f : Fed). f.printed) line_room out (unfed_of reader) (fed_of (finish_of reader)) text h
    (λ i. record { reader = record { gatherer = reader.gatherer; mender = u.mender i }; used = 0; printed = Ok (measured u.text.wrote (omega arith) i) })
    (at-start u.text.wrote few) few
