-- A block that is acceptable is accepted directly after a header of its interval, and the block that a run hands on is acceptable.
-- Assumes nothing.
use Prim.Native.Nat.{ℕ, ◌+◌, ◌<◌}
use mathlib.Core.Path.{◌≡◌, refl, sym, ap, subst, ◌∙◌}
use mathlib.Core.Bool.{Bool, true, false, not, ◌&&◌}
use mathlib.Core.List.{List, [], ◌∷◌, ◌++◌, append_assoc, append-nil}
use native.Mathlib.Omega.{arith}
use borrow.Author.Tests.{lt-ltb, eqb-true}
use lib.Dec.{eqb}
use lib.IntN.{ℤ}
use lib.ListN.{length, length-append}
use Rattle.arithmetic.specs.Whole.{within_of}
use Rattle.arithmetic.specs.Power.{units_of}
use Rattle.arithmetic.proofs.Booleans.{both}
use Rattle.vocabulary.specs.Grounds as G
use Rattle.vocabulary.specs.Refusals.{accepted}
use Rattle.vocabulary.specs.declared.sample.Sample.{Sample}
use Rattle.vocabulary.specs.Sample.{power_in_range}
use Rattle.vocabulary.specs.declared.header.Header.{Header}
use Rattle.channel.specs.Start.{Block, Start, fresh, carried}
use Rattle.channel.specs.Acceptable.{all_in_range, newest_of, Acceptable}
use Rattle.channel.specs.Backward.{series_after}
use Rattle.channel.proofs.HandedOn.{block-accepted}
use Rattle.sheets.specs.Sheet.{total_text, block_text, closing_text}
use Rattle.lines.specs.Lines.{lines_of}
use Rattle.series.specs.Scan.{each}
use Rattle.reading.specs.Line.{line_of, identifier_of}
use Rattle.reading.specs.declared.Line.TheVariants as L
use Rattle.meaning.specs.Given.{Given, headed, with_start, interval_in, lot_in, quarters_in, setpoint_in, block_in}
use Rattle.meaning.specs.Meaning.{these, untouched, block_size, lacks, bounds_from, bounds_grounds, setpoint_grounds, grounds, ground, after, header_text, end_text, settled}
use Rattle.meaning.specs.Endings.{quarters_text, Accepts, none, FairSample, Each, of_none, of_more, AcceptedInput}
use Rattle.settlement.proofs.HeaderLaws.{opened-quarters}
use Rattle.join.specs.Join.{Whole, fees_of, penalties_of}
use Rattle.join.specs.Says.{bounds_of, bounds_line, block_lines, HandedOn}
use Rattle.join.proofs.Sheets.{series_of, block-told, whole-some, known}
use Rattle.join.proofs.BlockBack.{block_back}
use Rattle.join.proofs.Accepting.{accept, SaysEach, no_line_lem, a-line, first-same, rest-same, says-each}

-- where the first is, the second is
implied : (a b : Bool) → (a ≡ true → b ≡ true) → (a && not b) ≡ false
implied true b h = rw (h refl)
implied false b h = refl

-- the newest of setpoints, behind the first of them
newest-last : (s : ℤ) (ss : List ℤ) → length ss ≡ 0 → newest_of (s ∷ ss) ≡ s
unfolding newest_of
newest-last s [] h = refl
newest-last s (t ∷ ss) h = absurd (omega arith)

newest-later : (s : ℤ) (ss : List ℤ) → 0 < length ss → newest_of (s ∷ ss) ≡ newest_of ss
unfolding newest_of
newest-later s [] h = absurd (omega arith)
newest-later s (t ∷ ss) h = refl

no_end : (s : ℤ) → L.Setpoint s ≡ L.End → ⊥
no_end s e = cc

bounds-no-end : (b : Block) → bounds_line b ≡ L.End → ⊥
bounds-no-end b e = cc

-- ---- the setpoints that a block lacks, of which the newest lies between its bounds

module _ (g : Given) (oga uga : ℤ) (first : untouched g ≡ true) where
  -- with the setpoints so far
  abbrev given_with : List ℤ → Given
  given_with ss = with_start (carried (record { oga = oga; uga = uga; setpoints = ss })) g

  untouched-with : (ss : List ℤ) → untouched (given_with ss) ≡ true
  unfolding untouched
  untouched-with ss = first

  setpoint-accepted : (done : List ℤ) (s : ℤ) (identifier : List ℕ) → length done < block_size g → power_in_range s ≡ true
      → (length done + 1 ≡ block_size g → within_of uga (units_of s) oga ≡ true) → accepted (ground (these (given_with done)) identifier (L.Setpoint s)) ≡ true
  unfolding grounds setpoint_grounds lacks
  setpoint-accepted done s identifier l p w =
      let newest : (eqb (length done + 1) (block_size g) && not (within_of uga (units_of s) oga)) ≡ false =
      implied (eqb (length done + 1) (block_size g)) (within_of uga (units_of s) oga) (λ e. w (eqb-true (length done + 1) (block_size g) e)) in
      rw (untouched-with done, lt-ltb (length done) (block_size g) l, p, newest)

  setpoints-accepted : (done : List ℤ) {ss : List ℤ} {lines : List (List ℕ)} → length done + length ss ≡ block_size g → all_in_range ss ≡ true
      → (0 < length ss → within_of uga (units_of (newest_of ss)) oga ≡ true) → SaysEach L.Setpoint lines ss → Accepts (these (given_with done)) lines (these (given_with (done ++ ss)))
  unfolding after all_in_range newest_of
  setpoints-accepted done l a w no_line_lem = rw (append-nil done) none
  setpoints-accepted done l a w (a-line {line = line} {x = s} {xs = ss} e r) =
      let t = both (power_in_range s) (all_in_range ss) a in
      let longer : length (done ++ (s ∷ [])) ≡ length done + 1 = length-append done (s ∷ []) in
      let now = w (omega arith) in
      accept (these (given_with done)) line (L.Setpoint s) e
      (setpoint-accepted done s (identifier_of line) (omega arith) t.0 (λ h. rw (newest-last s ss (omega arith)) at now)) (no_end s)
      (rw (← append_assoc done (s ∷ []) ss) (setpoints-accepted (done ++ (s ∷ [])) (omega arith) t.1 (λ h. rw (newest-later s ss h) at now) r))

-- ---- the whole block

module _ (g : Given) (b : Block) (first : untouched g ≡ true) (new : g.start ≡ fresh) (fits : Acceptable (interval_in g) b) where
  bounds-fit : accepted (G.first (bounds_from fresh g (bounds_of b))) ≡ true
  bounds-fit = rw (first, fits.oga, fits.uga)

  bounds-accepted : (identifier : List ℕ) → accepted (ground (these g) identifier (bounds_line b)) ≡ true
  unfolding grounds bounds_grounds
  bounds-accepted identifier = subst (λ (s : Start). accepted (G.first (bounds_from s g (bounds_of b))) ≡ true) (sym new) bounds-fit

  -- A BLOCK THAT IS ACCEPTABLE IS ACCEPTED where it may come
  pub block-lines-accepted : (lines : List (List ℕ)) → each line_of lines ≡ block_lines (carried b) → Accepts (these g) lines (these (with_start (carried b) g))
  unfolding after each
  block-lines-accepted [] e = absurd (omega (arith, ap length e))
  block-lines-accepted (line ∷ lines) e =
      accept (these g) line (bounds_line b) (first-same e) (bounds-accepted (identifier_of line)) (bounds-no-end b)
      (setpoints-accepted g b.oga b.uga first [] (omega (arith, fits.number)) fits.setpoints (λ h. fits.between) (says-each L.Setpoint lines b.setpoints (rest-same e)))

-- ---- the block that a run hands on

-- an accepted input has a quarter hour, and all samples
pub accepted-whole : {input : List ℕ} {g : Given} → AcceptedInput input g → Whole g
accepted-whole {g = g} a = record { some = (opened-quarters g.header a.proper.header).0; complete = a.complete }

-- setpoints in range are so told backward, too
series-in-range : (h : List ℤ) {xs : List Sample} → all_in_range h ≡ true → Each FairSample xs → all_in_range (series_after h (each setpoint_in xs)) ≡ true
unfolding series_after each all_in_range
series-in-range h a of_none = a
series-in-range h a (of_more {x = x} p ps) = series-in-range (x.setpoint ∷ h) (rw (p.setpoint, a)) ps

module _ (input : List ℕ) (g : Given) (a : AcceptedInput input g) where
  -- 18 never hits a block that was printed
  pub handed-acceptable : Acceptable (interval_in g) (block_in g)
  unfolding all_in_range
  handed-acceptable =
      let w = accepted-whole a in
      rw (block-told g (whole-some g w))
      (block-accepted (interval_in g) (lot_in g) g.start (series_of g.samples) a.start (series-in-range [] refl a.proper.samples) (known g w))

  abbrev handed : Block
  handed = block_in g

  behind-header : (h : Header) → interval_in (headed h) ≡ interval_in g → Accepts (these (headed h)) (lines_of (block_text handed)) (these (with_start (carried handed) (headed h)))
  unfolding untouched
  behind-header h e =
      block-lines-accepted (headed h) handed refl refl (rw e handed-acceptable) (lines_of (block_text handed)) (block_back (interval_in g) handed handed-acceptable)

  -- V, the quarter hours and T, and after them the block
  abbrev total : List ℕ
  total = total_text (quarters_in g) (record { 0 = fees_of g }) (record { 0 = penalties_of g })

  ends_so : settled input ≡ (header_text g ++ (quarters_text 0 g (quarters_in g) ++ total)) ++ block_text handed
  unfolding end_text closing_text
  ends_so =
      a.text
      ∙ ap (λ (l : List ℕ). header_text g ++ l) (sym (append_assoc (quarters_text 0 g (quarters_in g)) total (block_text handed)))
      ∙ sym (append_assoc (header_text g) (quarters_text 0 g (quarters_in g) ++ total) (block_text handed))

  -- THE BLOCK THAT IS PRINTED IS ACCEPTED by the next run
  pub printed-block-accepted : HandedOn input g
  printed-block-accepted =
      record {
        sheet = header_text g ++ (quarters_text 0 g (quarters_in g) ++ total);
        text = ends_so;
        acceptable = handed-acceptable;
        read = block_back (interval_in g) handed handed-acceptable;
        accepts = behind-header;
      }
