-- The reader's steps, as parts of one call.
use Prim.Native.Nat.{ℕ, zero, suc, ◌+◌, ◌-◌, ◌≤◌, ◌<◌}
use mathlib.Core.Path.{◌≡◌, refl, sym, ap, subst, ◌∙◌}
use mathlib.Core.Bool.{Bool, true, false, cond}
use mathlib.Core.List.{List, [], ◌∷◌}
use native.Mathlib.Omega.{arith}
use native.Mathlib.Nat.{add-zero}
use borrow.Author.Tests.{le-leb, ltb-true, ltb-false}
use lib.Dec.{leb, ltb}
use lib.ListN.{length, take, drop, length-drop, drop_of_length-le}
use lib.Seq.{drop-drop, sets}
use Rattle.std.proofs.Common.{min}
use Rattle.std.proofs.lemmas.List.{take_min}
use lib.IntN.{ℤ}
use Rattle.arithmetic.specs.Whole.{least_of}
use Rattle.arithmetic.proofs.Booleans.{true-false}
use Rattle.vocabulary.specs.declared.sample.Sample.{Sample}
use Rattle.lines.specs.Feed as lines
use Rattle.lines.specs.Feed.{Start, Outcome, stay, forth, on_turn, onward, line_at}
use Rattle.lines.specs.Gathering.{fresh_of, past_of, gathered_of}
use Rattle.lines.specs.Handing.{held_by}
use Rattle.lines.specs.Turns.{quiet}
use Rattle.lines.specs.declared.Gatherer.{Gatherer}
use Rattle.lines.specs.declared.Gathered.{Gathered}
use Rattle.lines.proofs.Calls.{used_all, used-some, used-within}
use Rattle.lines.proofs.FeedLaws.{forth-none, forth-turn, closed-stays, on_gathered, by-line}
use Rattle.samples.specs.Stretch.{front_samples, bytes_of, lines_at, most_of, setpoints_of, actuals_of, Stretched}
use Rattle.samples.specs.Stretch as series
use Rattle.samples.specs.declared.Stretch.{Stretch}
use Rattle.samples.proofs.Meaning.{begins, bytes-within, some_bytes, at_most}
use Rattle.samples.proofs.StretchFed.{by-stretch}
use Rattle.settlement.specs.Bare.{bare_of, whole_of, with_more}
use Rattle.settlement.specs.declared.bare.Bare.{Bare}
use Rattle.text.specs.Serving.{Settles}
use Rattle.text.specs.declared.desk.BareTold.{BareTold}
use Rattle.settlement.specs.Many.{room_of}
use Rattle.sheets.specs.Buffer.{buffer_length, length_of, over}
use Rattle.sheets.proofs.Yielding as yields
use Rattle.sheets.proofs.Yielding.{over-length, long-enough}
use Rattle.std.specs.Prelude.{Ok, Err}
use Rattle.vocabulary.specs.declared.refusal.Refusal.TheVariants.{BufferTooShort}
use Rattle.vocabulary.specs.Stage.{closed_at}
use Rattle.vocabulary.specs.declared.stage.Stage.TheVariants.{Open}
use Rattle.text.specs.Desk.{Turn, Tells, answer_of, desk_at, line_turn, finish_turn, quarter_turn, samples_turn, room_at}
use Rattle.text.specs.declared.desk.Desk.{Desk}
use Rattle.text.specs.declared.desk.Told.{Told}
use Rattle.feed.specs.Reader.{closed_of, feed_of, finish_of, reader_of, unfed_of, fed_of, Yields}
use Rattle.feed.specs.Steps.{reader_with, desk_with, Stretches, Finds, line_found, is_stretch, following, after_of, turn_for, turn_by, Steps, Left, left_by, Moves, goes_on, Reads, fed_by, ended_by}
use Rattle.feed.specs.declared.Reader.{Reader}
use Rattle.feed.specs.declared.BareDesk.{BareDesk}
use Rattle.feed.specs.declared.Stepped.{Stepped}
use Rattle.feed.specs.declared.Piece.{Piece}
use Rattle.feed.specs.declared.Piece.TheVariants.{Samples, Line, Part}
use Rattle.feed.specs.declared.Found.{Found}
use Rattle.feed.specs.declared.Fed.{Fed}
use Rattle.feed.proofs.DeskLaws.{sample_line, says, quietly, open-there, room_most, room_within, ranged, put-there, quarter-whole}

-- ---- what the desk told, in a buffer that is long enough

pub record Told-whole (out : List ℕ) (turn : Turn) (told : Told) (out' : List ℕ) : Type 0 where
  pub desk : told.desk ≡ turn.desk
  pub printed : told.printed ≡ Ok (length turn.text)
  pub bytes : out' ≡ over turn.text out
  pub room : length turn.text ≤ length out

pub told-whole : {out out' : List ℕ} {before : Desk} {turn : Turn} {told : Told} → buffer_length ≤ length out → Tells out before turn told out' → Told-whole out turn told out'
told-whole {out} {out'} {before} {turn} {told} h t =
    let few : length turn.text ≤ length out = omega (arith, t.room) in
    let room : leb (length turn.text) (length out) ≡ true = le-leb _ _ few in
    let a : told ≡ record { desk = turn.desk; printed = Ok (length turn.text) } =
    t.prints.answer ∙ ap (λ (b : Bool). answer_of before turn.desk (cond b (Ok (length turn.text)) (Err BufferTooShort))) room in
    record {
      desk = ap (λ (x : Told). x.desk) a;
      printed = ap (λ (x : Told). x.printed) a;
      bytes = t.prints.bytes ∙ ap (λ (b : Bool). cond b (over turn.text out) out) room;
      room = few;
    }

-- where nothing is said
pub told-nothing : (desk : Desk) (out : List ℕ) → Tells out desk (quiet desk) (record { desk = desk; printed = Ok 0 }) out
told-nothing desk out =
    let room : leb 0 (length out) ≡ true = le-leb 0 (length out) (omega arith) in
    record {
      prints = record {
        answer = sym (ap (λ (b : Bool). answer_of desk desk (cond b (Ok 0) (Err BufferTooShort))) room);
        bytes = sym (ap (λ (b : Bool). cond b (over [] out) out) room);
      };
      room = omega arith;
    }

-- a line by the bytes that are kept of it
pub same_line : (d : Desk) (g : Gatherer) {n k : ℕ} {bytes : List ℕ} → bytes ≡ g.bytes → n ≡ g.count → k ≡ min g.length (length bytes)
    → line_turn d n (take k bytes) ≡ line_turn d g.count (held_by g)
same_line d g {n} {k} {bytes} p q r =
    ap (λ (m : ℕ). line_turn d m (take k bytes)) q
    ∙ ap (line_turn d g.count) (ap (λ (m : ℕ). take m bytes) r ∙ take_min g.length bytes ∙ ap (take g.length) p)

-- at the end of some bytes
at-end : (reader : Reader) (t : List ℕ) → t ≡ [] → feed_of reader t ≡ stay reader.gatherer reader.desk
unfolding lines.feed_of
at-end reader t e = rw e

-- the turn of a step, by its reader and its text
abbrev pub turn_of : Reader → List ℕ → Turn
turn_of reader text = record { desk = reader.desk; text = text }

-- and then what is left of the block
abbrev pub then_of : Reader → List ℕ → ℕ → List ℕ → Outcome Desk
then_of reader text n rest = on_turn reader.gatherer (turn_of reader text) n (feed_of reader rest)

-- what a step leaves, by what was found and what the desk told
abbrev pub moved_by : Found → Told → Left
moved_by f told = record { gatherer = after_of f; desk = told.desk; used = f.used; printed = length_of told.printed }

-- ---- A LINE, OR THE REST OF THE BLOCK

module _ (reader : Reader) (block : List ℕ) (at : ℕ) (out : List ℕ) (o : closed_of reader.desk ≡ false) (h : at < length block) where
  abbrev part : Gathered
  part = gathered_of reader.gatherer (drop at block)

  left : length (drop at block) ≡ length block - at
  left = length-drop at block

  some-used : 0 < part.used
  some-used = used-some (drop at block) reader.gatherer (omega (arith, left))

  used-in : at + part.used ≤ length block
  used-in = omega (arith, left, used-within (drop at block) reader.gatherer)

  fed : feed_of reader (drop at block) ≡ on_gathered line_turn closed_of reader.desk (drop at block) part
  fed = by-line line_turn closed_of (drop at block) reader.gatherer reader.desk o

  -- a complete line, or none
  abbrev by_end : Bool → Outcome Desk
  by_end complete =
      cond complete (onward line_turn closed_of (fresh_of part.gatherer) (line_at line_turn reader.desk part.gatherer) part.used (drop part.used (drop at block)))
      (record { gatherer = part.gatherer; desk = reader.desk; used = part.used; text = [] })

  -- no line was complete
  rest-of-block : {told : Told} {out' : List ℕ} → part.complete ≡ false → Told-whole out (quiet reader.desk) told out'
      → Moves reader block at out (record { gatherer = part.gatherer; desk = told.desk; used = part.used; printed = length_of told.printed }) out'
  rest-of-block {told} e t =
      let after : Reader = record { gatherer = part.gatherer; desk = reader.desk } in
      let u : part.used ≡ length (drop at block) = used_all (drop at block) reader.gatherer e in
      let w : length block ≤ at + part.used = omega (arith, left) in
      let z : drop (at + part.used) block ≡ [] = drop_of_length-le block w in
      let ended : forth part.used (feed_of after (drop (at + part.used) block)) ≡ by_end false =
      ap (forth part.used) (at-end after (drop (at + part.used) block) z)
      ∙ ap (λ (n : ℕ). record { gatherer = part.gatherer; desk = reader.desk; used = n; text = [] }) (add-zero part.used) in
      record {
        text = [];
        room = omega arith;
        printed = ap length_of t.printed;
        bytes = t.bytes;
        some = some-used;
        within = used-in;
        is =
            fed
            ∙ ap by_end e
            ∙ sym ended
            ∙ ap (λ (d : Desk). forth part.used (feed_of (record { gatherer = part.gatherer; desk = d }) (drop (at + part.used) block))) (sym t.desk);
      }

  -- the line at hand was complete
  abbrev turn : Turn
  turn = line_turn reader.desk part.gatherer.count (held_by part.gatherer)

  line-of-block : {told : Told} {out' : List ℕ} → part.complete ≡ true → Told-whole out turn told out'
      → Moves reader block at out (record { gatherer = fresh_of part.gatherer; desk = told.desk; used = part.used; printed = length_of told.printed }) out'
  line-of-block e t =
      record {
        text = turn.text;
        room = t.room;
        printed = ap length_of t.printed;
        bytes = t.bytes;
        some = some-used;
        within = used-in;
        is =
            fed
            ∙ ap by_end e
            ∙ ap (onward line_turn closed_of (fresh_of part.gatherer) turn part.used) (drop-drop part.used at block)
            ∙ ap (λ (d : Desk). then_of (record { gatherer = fresh_of part.gatherer; desk = d }) turn.text part.used (drop (at + part.used) block)) (sym t.desk);
      }

  -- either
  abbrev left-with : Told → Bool → Left
  left-with told b = record { gatherer = following part.gatherer (cond b Line Part); desk = told.desk; used = part.used; printed = length_of told.printed }

  by-complete : {told : Told} {out' : List ℕ} (b : Bool) → part.complete ≡ b → Told-whole out (cond b turn (quiet reader.desk)) told out' → Moves reader block at out (left-with told b) out'
  by-complete true e t = line-of-block e t
  by-complete false e t = rest-of-block e t

  pub line_step : {told : Told} {out' : List ℕ} → Told-whole out (cond part.complete turn (quiet reader.desk)) told out' → Moves reader block at out (moved_by (line_found part) told) out'
  line_step t = by-complete part.complete refl t

-- ---- A STRETCH

module _ (reader : Reader) (block : List ℕ) (at : ℕ) (out : List ℕ) (h : at < length block) where
  module _ {filled room : ℕ} {sp ac sp' ac' : List ℤ} {read : Stretch} (there : room ≡ room_at reader.desk.stage reader.desk.run)
      (reads : Stretched block at filled (filled + room) sp ac sp' ac' read) where
    abbrev lines-there : List (List ℕ)
    lines-there = lines_at block at

    abbrev most : ℕ
    most = most_of filled (filled + room) sp ac

    most-fits : most ≤ room
    unfolding most_of least_of
    most-fits = omega arith

    abbrev given : List Sample
    given = front_samples most lines-there

    -- no more than there is room for
    pub samples-fit : read.samples ≤ room
    samples-fit = omega (arith, reads.samples, at_most most lines-there, most-fits)

    module _ {told : Told} {out' : List ℕ} {g : Gatherer} (start : Start reader.gatherer) (some : 0 < read.samples) (gone : g ≡ past_of read.samples reader.gatherer)
        (t : Told-whole out (samples_turn reader.desk given) told out') where
      abbrev after : Reader
      after = record { gatherer = g; desk = told.desk }

      abbrev text : List ℕ
      text = (samples_turn reader.desk given).text

      module _ (s : Sample) (ss : List Sample) (e : front_samples most lines-there ≡ s ∷ ss) where
        few : suc (length ss) ≤ room_at reader.desk.stage reader.desk.run
        few = omega (arith, ap length e, at_most most lines-there, most-fits, there)

        opens : (reader.desk.stage ≡ Open) × (suc (length ss) ≤ room_of reader.desk.run)
        opens = open-there reader.desk.stage reader.desk.run (length ss) few

        opened : reader.desk ≡ desk_at Open reader.desk.run
        opened = λ i. record { run = reader.desk.run; stage = opens.0 i }

        same_turn : samples_turn (desk_at Open reader.desk.run) (s ∷ ss) ≡ turn_of after text
        unfolding samples_turn
        same_turn = ap (samples_turn reader.desk) (sym e) ∙ ap (λ (d : Desk). record { desk = d; text = text }) (sym t.desk)

        abbrev bytes : ℕ
        bytes = bytes_of (take (length (s ∷ ss)) lines-there)

        used : read.bytes ≡ bytes
        used = reads.bytes ∙ ap (λ (l : List Sample). bytes_of (take (length l) lines-there)) e

        past : g ≡ past_of (length (s ∷ ss)) reader.gatherer
        past = gone ∙ ap (λ (k : ℕ). past_of k reader.gatherer) (reads.samples ∙ ap length e)

        is : feed_of reader (drop at block) ≡ then_of after text read.bytes (drop (at + read.bytes) block)
        is =
            ap (λ (d : Desk). lines.feed_of line_turn closed_of reader.gatherer d (drop at block)) opened
            ∙ by-stretch line_turn closed_of sample_line says reader.gatherer (desk_at Open reader.desk.run) reader.gatherer.count most (drop at block)
            (quietly reader.desk.run reader.gatherer.count s ss (ranged most lines-there (s ∷ ss) e) opens.1) start refl e
            ∙ ap (λ (x : Turn). onward line_turn closed_of (past_of (length (s ∷ ss)) reader.gatherer) x bytes (drop bytes (drop at block))) same_turn
            ∙ ap (λ (y : Gatherer). onward line_turn closed_of y (turn_of after text) bytes (drop bytes (drop at block))) (sym past)
            ∙ ap (λ (k : ℕ). then_of after text k (drop k (drop at block))) (sym used)
            ∙ ap (then_of after text read.bytes) (drop-drop read.bytes at block)

        left_over : length (drop at block) ≡ length block - at
        left_over = length-drop at block

        stretch : Moves reader block at out (record { gatherer = g; desk = told.desk; used = read.bytes; printed = length_of told.printed }) out'
        stretch =
            let b = begins most lines-there s ss e in
            record {
              text = text;
              room = t.room;
              printed = ap length_of t.printed;
              bytes = t.bytes;
              some = omega (arith, used, some_bytes lines-there b.line b.lines (length ss) b.form);
              within = omega (arith, used, left_over, bytes-within (length (s ∷ ss)) (drop at block));
              is = is;
            }

      pub stretch-step : Moves reader block at out (record { gatherer = g; desk = told.desk; used = read.bytes; printed = length_of told.printed }) out'
      stretch-step = by-samples (front_samples most lines-there) refl
        where
          by-samples : (ss : List Sample) → front_samples most lines-there ≡ ss
              → Moves reader block at out (record { gatherer = g; desk = told.desk; used = read.bytes; printed = length_of told.printed }) out'
          by-samples [] e = absurd (omega (arith, reads.samples ∙ ap length e))
          by-samples (s ∷ ss) e = stretch s ss e

-- ---- WHAT STANDS NEXT

no-stretch : (b : Bool) {n : ℕ} {A : Type 0} → cond b Line Part ≡ Samples n → A
no-stretch true e = true-false (ap is_stretch e) refl
no-stretch false e = true-false (ap is_stretch e) refl

pub found-line : {g : Gatherer} {block : List ℕ} {at filled room : ℕ} {sp ac sp' ac' : List ℤ} {r : Found} → r ≡ line_found (gathered_of g (drop at block)) → sp' ≡ sp → ac' ≡ ac
    → Finds g block at filled room sp ac sp' ac' r
found-line q s a = record { line = λ e. (q, (s, a)); stretch = λ n e. no-stretch _ (sym (ap (λ (f : Found). f.piece) q) ∙ e) }

-- where there is no sample, no place of the arrays was written
pub same-arrays : {lines : List (List ℕ)} {filled most : ℕ} {sp ac sp' ac' : List ℤ} {read : Stretch} → series.Reads lines filled most sp ac sp' ac' read → read.samples ≡ 0
    → (sp' ≡ sp) × (ac' ≡ ac)
unfolding setpoints_of actuals_of
same-arrays {lines} {filled} {most} {sp} {ac} {sp'} {ac'} reads none = by-samples (front_samples most lines) refl
  where
    by-samples : (ss : List Sample) → front_samples most lines ≡ ss → (sp' ≡ sp) × (ac' ≡ ac)
    by-samples [] e = (reads.setpoints ∙ ap (λ (l : List Sample). sets sp filled (setpoints_of l)) e, reads.actuals ∙ ap (λ (l : List Sample). sets ac filled (actuals_of l)) e)
    by-samples (s ∷ ss) e = absurd (omega (arith, none, reads.samples ∙ ap length e))

pub found-stretch : {g g' : Gatherer} {block : List ℕ} {at filled room : ℕ} {sp ac sp' ac' : List ℤ} {read : Stretch} → Start g
    → Stretched block at filled (filled + room) sp ac sp' ac' read → (read.samples ≡ 0 → ⊥) → g' ≡ past_of read.samples g
    → Finds g block at filled room sp ac sp' ac' (record { gatherer = g'; used = read.bytes; piece = Samples read.samples })
found-stretch {g} {g'} {block} {at} {filled} {room} {sp} {ac} {sp'} {ac'} {read} start reads some gone =
    record {
      line = λ e. true-false refl e;
      stretch = λ n e. subst (λ (k : ℕ). Stretches g block at filled room sp ac sp' ac' k (record { gatherer = g'; used = read.bytes; piece = Samples read.samples })) (ap samples-of e)
          (record { some = omega (arith, above-zero read.samples some); start = start; reads = reads; past = gone });
    }
  where
    samples-of : Piece → ℕ
    samples-of (Samples n) = n
    samples-of Line = 0
    samples-of Part = 0

    above-zero : (n : ℕ) → (n ≡ 0 → ⊥) → 0 < n
    above-zero zero h = absurd (h refl)
    above-zero (suc n) h = omega arith

-- a line's turn, or none
pub line-turn : (d : BareDesk) (g : Gatherer) (sp ac : List ℤ) (b : Bool)
    → turn_for d g sp ac (cond b Line Part) ≡ cond b (line_turn (desk_with d sp ac) g.count (held_by g)) (quiet (desk_with d sp ac))
line-turn d g sp ac true = refl
line-turn d g sp ac false = refl

-- another name of the turn
pub as-steps : {out out' : List ℕ} {turn turn' : Turn} {r : Stepped} {sp ac : List ℤ} → turn ≡ turn' → Steps out turn r sp ac out' → Steps out turn' r sp ac out'
as-steps {out} {out'} {r = r} {sp = sp} {ac = ac} e s = subst (λ (x : Turn). Steps out x r sp ac out') e s

-- the same step, as a desk with the powers of its samples tells it
abbrev stepped_told : Stepped → List ℤ → List ℤ → Told
stepped_told r sp ac = record { desk = desk_with r.desk sp ac; printed = Ok r.printed }

as-told : {out out' : List ℕ} {turn : Turn} {r : Stepped} {sp ac : List ℤ} → Steps out turn r sp ac out' → Told-whole out turn (stepped_told r sp ac) out'
as-told s = record { desk = s.desk; printed = ap Ok s.printed; bytes = s.bytes; room = s.room }

-- samples that are counted
pub counted-steps : {bare : Bare} {sp ac : List ℤ} {out out' : List ℕ} {t : BareTold} {n : ℕ} → buffer_length ≤ length out → Settles out bare sp ac t out' → n ≡ length_of t.printed
    → Steps out (quarter_turn (whole_of bare sp ac)) (record { desk = record { bare = t.bare; stage = Open }; printed = n }) sp ac out'
counted-steps {bare} {sp} {ac} {out} {t = t} h y e =
    let a = yields.answers h y in
    let some : n-of t ≡ length (quarter_turn (whole_of bare sp ac)).text = ap n-of a in
    record {
      desk = ap (λ (x : BareTold). desk_at Open (whole_of x.bare sp ac)) a ∙ quarter-whole bare sp ac;
      printed = e ∙ some;
      bytes = yields.puts h y;
      room = omega (arith, y.room, some);
    }
  where
    n-of : BareTold → ℕ
    n-of x = length_of x.printed

-- a line, for the desk with the powers of its samples
pub line-steps : {before : Desk} {turn : Turn} {told : Told} {out out' : List ℕ} {b : Bare} {sp ac : List ℤ} {n : ℕ} → buffer_length ≤ length out → Tells out before turn told out'
    → b ≡ bare_of told.desk.run → sp ≡ told.desk.run.tape.setpoints → ac ≡ told.desk.run.tape.actuals → n ≡ length_of told.printed
    → Steps out turn (record { desk = record { bare = b; stage = told.desk.stage }; printed = n }) sp ac out'
line-steps {told = told} h t e p q k =
    let w = told-whole h t in
    record {
      desk = (λ i. record { run = whole_of (e i) (p i) (q i); stage = told.desk.stage }) ∙ w.desk;
      printed = k ∙ ap length_of w.printed;
      bytes = w.bytes;
      room = w.room;
    }

-- nothing
pub no_steps : (d : BareDesk) (sp ac : List ℤ) (out : List ℕ) → Steps out (quiet (desk_with d sp ac)) (record { desk = d; printed = 0 }) sp ac out
no_steps d sp ac out = record { desk = refl; printed = refl; bytes = refl; room = omega arith }

-- ---- A STEP: what was found, as the desk told of it

module _ (g : Gatherer) (d : BareDesk) (block : List ℕ) (at : ℕ) (out : List ℕ) (o : closed_at d.stage ≡ false) (h : at < length block) {room : ℕ} {sp ac sp' ac' : List ℤ} {found : Found}
    (there : room ≡ room_at d.stage (whole_of d.bare sp ac)) (finds : Finds g block at d.bare.filled room sp ac sp' ac' found) where
  abbrev reader : Reader
  reader = reader_with g (desk_with d sp ac)

  -- there are places for all samples
  pub samples-there : (n : ℕ) → found.piece ≡ Samples n → d.bare.filled + n ≤ 900
  samples-there n e =
      let s = finds.stretch n e in
      let few = samples-fit reader block at out h there s.reads in
      omega (arith, few, s.some, room_within d.stage (whole_of d.bare sp ac), there)

  -- samples whose powers were put in their places are those that the desk takes line by line
  counted-are : (n : ℕ) → found.piece ≡ Samples n
      → quarter_turn (whole_of (with_more d.bare n) sp' ac')
      ≡ samples_turn (desk_with d sp ac) (front_samples (most_of d.bare.filled (d.bare.filled + room) sp ac) (lines_at block at))
  unfolding samples_turn
  counted-are n e =
      let reads = (finds.stretch n e).reads in
      let few : n ≤ room_of (whole_of d.bare sp ac) = omega (arith, samples-fit reader block at out h there reads, there, room_most d.stage (whole_of d.bare sp ac)) in
      ap quarter_turn (sym (put-there d.bare reads few))

  step_of : {r : Stepped} {sp'' ac'' : List ℤ} {out' : List ℕ} → Steps out (turn_by d found sp' ac') r sp'' ac'' out'
      → Moves reader block at out (record { gatherer = after_of found; desk = desk_with r.desk sp'' ac''; used = found.used; printed = r.printed }) out'
  step_of {r} {sp''} {ac''} {out'} t = by-piece found.piece refl
    where
      by : Found → Left
      by f = record { gatherer = after_of f; desk = desk_with r.desk sp'' ac''; used = f.used; printed = r.printed }

      by-line : is_stretch found.piece ≡ false → Moves reader block at out (by found) out'
      by-line e =
          let l = finds.line e in
          let part : Gathered = gathered_of g (drop at block) in
          let same : turn_by d found sp' ac' ≡ turn_by d found sp ac = ap (λ (x : List ℤ). turn_by d found x ac') l.1.0 ∙ ap (λ (y : List ℤ). turn_by d found sp y) l.1.1 in
          subst (λ (f : Found). Steps out (turn_by d f sp ac) r sp'' ac'' out' → Moves reader block at out (by f) out') (sym l.0)
          (λ s. line_step reader block at out o h (as-told (as-steps (line-turn d part.gatherer sp ac part.complete) s))) (as-steps same t)

      by-piece : (k : Piece) → found.piece ≡ k → Moves reader block at out (by found) out'
      by-piece (Samples n) e =
          let s = finds.stretch n e in
          stretch-step reader block at out h there s.reads s.start s.some
          (ap (following found.gatherer) e ∙ s.past)
          (as-told (as-steps (ap (turn_for d found.gatherer sp' ac') e ∙ counted-are n e) t))
      by-piece Line e = by-line (ap is_stretch e)
      by-piece Part e = by-line (ap is_stretch e)

  -- as the code comes by it
  pub one-step : {r : Stepped} {sp'' ac'' : List ℤ} {out' : List ℕ} {g' : Gatherer} → Steps out (turn_by d found sp' ac') r sp'' ac'' out' → g' ≡ after_of found
      → Moves reader block at out (record { gatherer = g'; desk = desk_with r.desk sp'' ac''; used = found.used; printed = r.printed }) out'
  one-step {r} {sp''} {ac''} {out'} {g'} t f =
      subst (λ (y : Gatherer). Moves reader block at out (record { gatherer = y; desk = desk_with r.desk sp'' ac''; used = found.used; printed = r.printed }) out') (sym f) (step_of t)

-- it gets on, and stays in the block
module _ (g : Gatherer) (d : BareDesk) (block : List ℕ) (at : ℕ) (o : closed_at d.stage ≡ false) (h : at < length block) {room : ℕ} {sp ac sp' ac' : List ℤ} {found : Found}
    (there : room ≡ room_at d.stage (whole_of d.bare sp ac)) (finds : Finds g block at d.bare.filled room sp ac sp' ac' found) where
  abbrev its-turn : Turn
  its-turn = turn_by d found sp' ac'

  -- whatever it prints
  alone : Stepped
  alone = record { desk = record { bare = bare_of its-turn.desk.run; stage = its-turn.desk.stage }; printed = length its-turn.text }

  told-alone : Steps its-turn.text its-turn alone its-turn.desk.run.tape.setpoints its-turn.desk.run.tape.actuals (over its-turn.text its-turn.text)
  unfolding alone
  told-alone = record { desk = refl; printed = refl; bytes = refl; room = omega arith }

  pub gets-on : (0 < found.used) × (at + found.used ≤ length block)
  gets-on =
      let m = one-step g d block at its-turn.text o h there finds told-alone refl in
      (m.some, m.within)

pub other-out : {reader : Reader} {block : List ℕ} {at : ℕ} {out out₁ out' : List ℕ} {r : Left} → out₁ ≡ out → Moves reader block at out₁ r out' → Moves reader block at out r out'
other-out {reader} {block} {at} {out' = out'} {r = r} e s = subst (λ (l : List ℕ). Moves reader block at l r out') e s

-- ---- ALL STEPS: what was read so far came to a reader at place i, and printed nothing

abbrev pub So : Reader → List ℕ → Reader → ℕ → Type 0
So start block reader i = feed_of start block ≡ forth i (feed_of reader (drop i block))

pub so-first : (start : Reader) (block : List ℕ) → So start block start 0
so-first start block = forth-none (feed_of start block)

-- an outcome that is known is what was read
by-outcome : {start : Reader} {block out out' : List ℕ} {r : Left} (text : List ℕ)
    → feed_of start block ≡ record { gatherer = r.gatherer; desk = r.desk; used = r.used; text = text }
    → r.printed ≡ length text → out' ≡ over text out → length text ≤ length out → Reads start block out r out'
by-outcome {start} {block} {out} {out'} {r} text q p b m =
    let e : (feed_of start block).text ≡ text = ap (λ (o : Outcome Desk). o.text) q in
    record {
      reader_is = sym (ap reader_of q);
      used = sym (ap (λ (o : Outcome Desk). o.used) q);
      printed = p ∙ ap length (sym e);
      bytes = b ∙ ap (λ (l : List ℕ). over l out) (sym e);
      room = subst (λ (l : List ℕ). length l ≤ length out) (sym e) m;
    }

module _ (start : Reader) (block out : List ℕ) where
  nothing-more : (reader : Reader) (i : ℕ) {exit : List ℕ} → exit ≡ out → So start block reader i → feed_of reader (drop i block) ≡ stay reader.gatherer reader.desk
      → Reads start block out (record { gatherer = reader.gatherer; desk = reader.desk; used = i; printed = 0 }) exit
  nothing-more reader i same so e =
      by-outcome [] (so ∙ ap (forth i) e ∙ ap (λ (n : ℕ). record { gatherer = reader.gatherer; desk = reader.desk; used = n; text = [] }) (add-zero i)) refl same (omega arith)

  pub so-closed : (reader : Reader) (i : ℕ) {exit : List ℕ} → exit ≡ out → So start block reader i → closed_of reader.desk ≡ true
      → Reads start block out (record { gatherer = reader.gatherer; desk = reader.desk; used = i; printed = 0 }) exit
  so-closed reader i same so e = nothing-more reader i same so (closed-stays line_turn closed_of reader.gatherer reader.desk (drop i block) e)

  pub so-ended : (reader : Reader) (i : ℕ) {exit : List ℕ} → exit ≡ out → So start block reader i → length block ≤ i
      → Reads start block out (record { gatherer = reader.gatherer; desk = reader.desk; used = i; printed = 0 }) exit
  so-ended reader i same so h = nothing-more reader i same so (at-end reader (drop i block) (drop_of_length-le block h))

pub moves-length : {block out : List ℕ} {reader : Reader} {i : ℕ} {r : Left} {out' : List ℕ} → Moves reader block i out r out' → length out' ≡ length out
moves-length {out = out} m = ap length m.bytes ∙ over-length m.text out m.room

-- a step more
module _ (start : Reader) {block out : List ℕ} {reader : Reader} {i : ℕ} {r : Left} {out' : List ℕ} (so : So start block reader i) (m : Moves reader block i out r out') where
  moved : feed_of start block ≡ then_of (left_by r) m.text (i + r.used) (drop (i + r.used) block)
  moved = so ∙ ap (forth i) m.is ∙ forth-turn i r.gatherer (turn_of (left_by r) m.text) r.used _

  by-text : (text : List ℕ) → m.text ≡ text → feed_of start block ≡ then_of (left_by r) text (i + r.used) (drop (i + r.used) block)
  by-text said e = moved ∙ ap (λ (l : List ℕ). then_of (left_by r) l (i + r.used) (drop (i + r.used) block)) e

  pub so-on : r.printed ≡ 0 → So start block (left_by r) (i + r.used) × (out' ≡ out)
  so-on z = on-text m.text refl
    where
      on-text : (text : List ℕ) → m.text ≡ text → So start block (left_by r) (i + r.used) × (out' ≡ out)
      on-text [] e = (by-text [] e, m.bytes ∙ ap (λ (l : List ℕ). over l out) e)
      on-text (x ∷ xs) e = absurd (let q : r.printed ≡ suc (length xs) = m.printed ∙ ap length e in (omega arith))

  pub so-told : 0 < r.printed → Reads start block out (record { gatherer = r.gatherer; desk = r.desk; used = i + r.used; printed = r.printed }) out'
  so-told p = on-text m.text refl
    where
      on-text : (text : List ℕ) → m.text ≡ text → Reads start block out (record { gatherer = r.gatherer; desk = r.desk; used = i + r.used; printed = r.printed }) out'
      on-text [] e = absurd (let q : r.printed ≡ 0 = m.printed ∙ ap length e in (omega arith))
      on-text (x ∷ xs) e =
          by-outcome (x ∷ xs) (by-text (x ∷ xs) e) (m.printed ∙ ap length e)
          (m.bytes ∙ ap (λ (l : List ℕ). over l out) e) (subst (λ (l : List ℕ). length l ≤ length out) e m.room)

-- ---- HOW FAR A CALL HAS COME: it goes on, and nothing was printed yet; or what it answers is known

-- a call that goes on has printed nothing, its desk is open, and the block has not ended
to-go-on : (some closed more : Bool) → cond some false (cond closed false more) ≡ true → (some ≡ false) × (closed ≡ false) × (more ≡ true)
to-go-on true closed more e = true-false e refl
to-go-on false true more e = true-false e refl
to-go-on false false more e = (refl, refl, e)

-- one that does not has printed something, or its desk is closed, or the block has ended
data Stops (some closed more : Bool) : Type 0 where
  printed : some ≡ true → Stops some closed more
  shut : some ≡ false → closed ≡ true → Stops some closed more
  ended : some ≡ false → more ≡ false → Stops some closed more

to-stop : (some closed more : Bool) → cond some false (cond closed false more) ≡ false → Stops some closed more
to-stop true closed more e = printed refl
to-stop false true more e = shut refl refl
to-stop false false more e = ended refl e

pub record Going (start : Reader) (block out₀ : List ℕ) (reader : Reader) (i : ℕ) (out : List ℕ) : Type 0 where
  pub so : So start block reader i
  pub same : out ≡ out₀
  pub opened : closed_of reader.desk ≡ false
  pub here : i < length block

-- what was read up to place i, and printed
abbrev up_to : Reader → ℕ → ℕ → Left
up_to reader i n = record { gatherer = reader.gatherer; desk = reader.desk; used = i; printed = n }

-- printed nothing, it is where it began; printed something, what it answers is known
pub record Come (start : Reader) (block out₀ : List ℕ) (reader : Reader) (i n : ℕ) (out : List ℕ) : Type 0 where
  pub long : length out ≡ length out₀
  pub quiet : n ≡ 0 → So start block reader i × (out ≡ out₀)
  pub loud : 0 < n → Reads start block out₀ (up_to reader i n) out

module _ {start : Reader} {block out₀ : List ℕ} {reader : Reader} {i n : ℕ} {out : List ℕ} (come : Come start block out₀ reader i n out) {on closed : Bool}
    (told : on ≡ goes_on n closed i (length block)) (told-closed : closed ≡ closed_of reader.desk) where
  none-printed : ltb 0 n ≡ false → n ≡ 0
  none-printed e = let h : n ≤ 0 = ltb-false 0 n e in omega arith

  silent : ltb 0 n ≡ false → Reads start block out₀ (up_to reader i 0) out → Reads start block out₀ (up_to reader i n) out
  silent e r = subst (λ (k : ℕ). Reads start block out₀ (up_to reader i k) out) (sym (none-printed e)) r

  by_stop : Stops (ltb 0 n) closed (ltb i (length block)) → Reads start block out₀ (up_to reader i n) out
  by_stop (printed e) = come.loud (ltb-true 0 n e)
  by_stop (shut e c) = let q = come.quiet (none-printed e) in silent e (so-closed start block out₀ reader i q.1 q.0 (sym told-closed ∙ c))
  by_stop (ended e l) = let q = come.quiet (none-printed e) in silent e (so-ended start block out₀ reader i q.1 q.0 (ltb-false i (length block) l))

  pub going : on ≡ true → Going start block out₀ reader i out
  going e =
      let g = to-go-on (ltb 0 n) closed (ltb i (length block)) (sym told ∙ e) in
      let q = come.quiet (none-printed g.0) in
      record { so = q.0; same = q.1; opened = sym told-closed ∙ g.1; here = ltb-true i (length block) g.2 }

  pub done : on ≡ false → Reads start block out₀ (up_to reader i n) out
  done e = by_stop (to-stop (ltb 0 n) closed (ltb i (length block)) (sym told ∙ e))

-- before the first step
pub come-first : (start : Reader) (block out : List ℕ) → Come start block out start 0 0 out
come-first start block out = record { long = refl; quiet = λ z. (so-first start block, refl); loud = λ h. absurd (omega arith) }

-- and after one more
pub come-on : (start : Reader) {block out₀ : List ℕ} {reader : Reader} {i : ℕ} {r : Left} {out out' : List ℕ}
    → Going start block out₀ reader i out → Moves reader block i out r out' → Come start block out₀ (left_by r) (i + r.used) r.printed out'
come-on start g m =
    let m₀ = other-out g.same m in
    record { long = moves-length m ∙ ap length g.same; quiet = so-on start g.so m₀; loud = so-told start g.so m₀ }

-- ---- A CALL

pub too_short : (out : List ℕ) (reader : Reader) (o : Outcome Desk) → length out < buffer_length → Yields out reader o (unfed_of reader) out
too_short out reader o h = yields.too_short (λ (f : Fed). f.printed) buffer_length out (unfed_of reader) (fed_of o) o.text h refl

-- the whole of a call, and the input's end
pub fed-whole : {out out' : List ℕ} {reader : Reader} {block : List ℕ} {r : Left} {f : Fed} → buffer_length ≤ length out → f ≡ fed_by r → Reads reader block out r out'
    → Yields out reader (feed_of reader block) f out'
fed-whole {out} {out'} {reader} {block} {r} h e t =
    let o : Outcome Desk = feed_of reader block in
    let whole : fed_by r ≡ fed_of o = λ i. record { reader = t.reader_is i; used = t.used i; printed = Ok (t.printed i) } in
    long-enough (λ (f : Fed). f.printed) buffer_length out (unfed_of reader) (fed_of o) o.text h (e ∙ whole) t.bytes (omega (arith, t.room))

pub finished : {out out' : List ℕ} {reader : Reader} {n : ℕ} {told : Told} {f : Fed} → buffer_length ≤ length out → n ≡ reader.gatherer.count
    → Tells out reader.desk (finish_turn reader.desk n) told out' → f ≡ ended_by reader.gatherer told → Yields out reader (finish_of reader) f out'
finished {out} {out'} {reader} {n} {told} h e t q =
    let w = told-whole h (subst (λ (k : ℕ). Tells out reader.desk (finish_turn reader.desk k) told out') e t) in
    let o : Outcome Desk = finish_of reader in
    let whole : ended_by reader.gatherer told ≡ fed_of o = λ i. record { reader = record { gatherer = reader.gatherer; desk = w.desk i }; used = 0; printed = w.printed i } in
    long-enough (λ (f : Fed). f.printed) buffer_length out (unfed_of reader) (fed_of o) o.text h (q ∙ whole) w.bytes (omega (arith, w.room))
