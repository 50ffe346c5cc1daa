-- TWO RUNS ARE ONE: the figures of a run over both are those of the first, and then those of a second that starts from the block that the first hands on.
-- Assumes nothing.
use Prim.Native.Nat.{ℕ, zero, suc, ◌+◌, ◌-◌, ◌*◌, ◌≤◌, ◌<◌}
use mathlib.Core.Path.{◌≡◌, refl, sym, ap, ap₂, ◌∙◌}
use mathlib.Core.List.{List, [], ◌∷◌, ◌++◌, append_assoc, append-nil}
use native.Mathlib.Omega.{arith}
use native.Mathlib.Nat.{zero-add, add-zero, add-suc, add-mul, suc-mul, mul-le-mul_right}
use lib.IntN.{ℤ, pos, ◌+ℤ◌}
use lib.ListN.{length, take, drop, length-append, length-drop}
use lib.Seq.{take-append-le, drop-append-le, take-append-add, drop-append-add}
use Rattle.arithmetic.specs.declared.money.Cents.{Cents}
use Rattle.vocabulary.specs.declared.interval.Interval.{Interval}
use Rattle.vocabulary.specs.Interval.{windows_of}
use Rattle.vocabulary.specs.declared.direction.Direction.{Direction}
use Rattle.vocabulary.specs.declared.direction.Direction.TheVariants.{Positive, Negative}
use Rattle.vocabulary.specs.declared.sample.Sample.{Sample}
use Rattle.channel.specs.Start.{Start, carried}
use Rattle.channel.specs.Backward.{series_after, before}
use Rattle.channel.specs.Block.{block_of}
use Rattle.channel.proofs.Series.{series-append, series-length, series-on}
use Rattle.channel.proofs.Sides.{Known}
use Rattle.channel.proofs.Timed.{told, block-timed, told-all}
use Rattle.channel.proofs.Join.{oga-joined, uga-joined, block-joined}
use Rattle.series.specs.Scan.{each}
use Rattle.series.proofs.Scanned.{each-length}
use Rattle.series.proofs.Each.{each-join}
use Rattle.contracts.specs.declared.terms.Terms.{Terms}
use Rattle.claims.specs.Powers.{Samples, samples, ogas_over, ugas_over, samples_over, powers_of}
use Rattle.quarter.specs.declared.sheet.Figures.{Figures}
use Rattle.quarter.specs.Blank.{no_figures}
use Rattle.meaning.specs.Figures.{lines_by, pool_by}
use Rattle.meaning.specs.Given.{Given, deals_in, interval_in, lot_in, quarters_in, quarter_samples, samples_before, setpoint_in, actual_in, deal_terms, past_in, samples_in, terms_in}
use Rattle.meaning.specs.Given.{lines_in, pool_in, block_in, lines_up_to, sum_over, fee_in, penalty_in}
use Rattle.meaning.specs.Meaning.{side_text, quarter_text}
use Rattle.meaning.specs.Endings.{quarters_text}
use Rattle.meaning.proofs.Bounds.{samples-told}
use Rattle.meaning.proofs.Moments.{some-samples}
use Rattle.meaning.proofs.Sums.{sum-join}
use Rattle.join.specs.Join.{Whole, Alike, Joins, JoinedSheets}

-- ---- the setpoints of samples, told backward

abbrev pub series_of : List Sample → List ℤ
series_of xs = series_after [] (each setpoint_in xs)

series-both : (a b : List Sample) → series_of (a ++ b) ≡ series_of b ++ series_of a
series-both a b =
    ap (series_after []) (each-join setpoint_in a b) ∙ series-on [] (each setpoint_in a) (each setpoint_in b) ∙ series-append (series_of a) (each setpoint_in b)

-- ---- the bounds at each of further samples, from the block

module _ (i : Interval) (lot : ℕ) (start : Start) (h : List ℤ) (known : Known start h) where
  abbrev handed : Start
  handed = carried (block_of i lot start h)

  ogas-joined : (b ss : List ℤ) → ogas_over i lot handed b ss ≡ ogas_over i lot start (b ++ h) ss
  unfolding ogas_over
  ogas-joined b [] = refl
  ogas-joined b (s ∷ ss) = ap₂ ◌∷◌ (oga-joined i lot start h known (s ∷ b)) (ogas-joined (s ∷ b) ss)

  ugas-joined : (b ss : List ℤ) → ugas_over i lot handed b ss ≡ ugas_over i lot start (b ++ h) ss
  unfolding ugas_over
  ugas-joined b [] = refl
  ugas-joined b (s ∷ ss) = ap₂ ◌∷◌ (uga-joined i lot start h known (s ∷ b)) (ugas-joined (s ∷ b) ss)

  samples-joined : (b ss vs : List ℤ) → samples_over i lot handed b ss vs ≡ samples_over i lot start (b ++ h) ss vs
  samples-joined b ss vs = ap₂ (samples ss vs) (ogas-joined b ss) (ugas-joined b ss)

-- ---- the samples of quarter hour q, by all samples of a run

abbrev samples_at : Interval → ℕ → Start → List Sample → ℕ → Samples
samples_at i lot start xs q =
    samples_over i lot start (series_of (take (q * (windows_of i).samples) xs)) (each setpoint_in (take (windows_of i).samples (drop (q * (windows_of i).samples) xs)))
    (each actual_in (take (windows_of i).samples (drop (q * (windows_of i).samples) xs)))

samples-at : (g : Given) (q : ℕ) → samples_in g q ≡ samples_at (interval_in g) (lot_in g) g.start g.samples q
unfolding samples_before quarter_samples
samples-at g q = samples-told g q

-- a quarter hour that lies within samples a, whatever follows them
module _ (m q : ℕ) (a b : List Sample) (within : suc q * m ≤ length a) where
  before-within : take (q * m) (a ++ b) ≡ take (q * m) a
  before-within = take-append-le (q * m) a b (omega (arith, within, suc-mul q m))

  now-within : take m (drop (q * m) (a ++ b)) ≡ take m (drop (q * m) a)
  now-within =
      ap (take m) (drop-append-le (q * m) a b (omega (arith, within, suc-mul q m)))
      ∙ take-append-le m (drop (q * m) a) b (omega (arith, within, suc-mul q m, length-drop (q * m) a))

-- samples a, n whole quarter hours long, and then b
module _ (m n : ℕ) (a b : List Sample) (whole : length a ≡ n * m) where
  before-second : (q : ℕ) → take ((n + q) * m) (a ++ b) ≡ a ++ take (q * m) b
  before-second q = rw (add-mul n q m, ← whole) (take-append-add a b (q * m))

  now-second : (q : ℕ) → drop ((n + q) * m) (a ++ b) ≡ drop (q * m) b
  now-second q = rw (add-mul n q m, ← whole) (drop-append-add a b (q * m))

module _ (i : Interval) (lot : ℕ) (start : Start) (n : ℕ) (a b : List Sample) (whole : length a ≡ n * (windows_of i).samples) where
  at_first_lem : (q : ℕ) → q < n → samples_at i lot start (a ++ b) q ≡ samples_at i lot start a q
  at_first_lem q h =
      let within : suc q * (windows_of i).samples ≤ length a = omega (arith, whole, mul-le-mul_right (windows_of i).samples h) in
      rw (before-within (windows_of i).samples q a b within, now-within (windows_of i).samples q a b within)

  at_second : Known start (series_of a) → (q : ℕ) → samples_at i lot start (a ++ b) (n + q) ≡ samples_at i lot (carried (block_of i lot start (series_of a))) b q
  at_second known q =
      rw (before-second (windows_of i).samples n a b whole q, now-second (windows_of i).samples n a b whole q, series-both a (take (q * (windows_of i).samples) b))
      (sym (samples-joined i lot start (series_of a) known (series_of (take (q * (windows_of i).samples) b)) _ _))

-- ---- the block that is handed on, told backward

-- it is the block after all samples
pub block-told : (g : Given) → 0 < length g.samples → block_in g ≡ block_of (interval_in g) (lot_in g) g.start (series_of g.samples)
unfolding block_in
block-told g h =
    let n : length (each setpoint_in g.samples) ≡ length g.samples = each-length setpoint_in g.samples in
    let e : told (each setpoint_in g.samples) (length g.samples - 1) ≡ series_of g.samples = rw (← n) (told-all (each setpoint_in g.samples) (omega arith)) in
    sym (block-timed (past_in g) (length g.samples - 1) (omega arith)) ∙ ap (block_of (interval_in g) (lot_in g) g.start) e

-- ---- by the parts that they depend on

samples-by : (q : ℕ) {i j : Interval} {l m : ℕ} {s t : Start} {xs ys : List Sample} → i ≡ j → l ≡ m → s ≡ t → xs ≡ ys → samples_at i l s xs q ≡ samples_at j m t ys q
samples-by q pi pl ps px = rw (pi, pl, ps, px)

block-by : {i j : Interval} {l m : ℕ} {s t : Start} {h k : List ℤ} → i ≡ j → l ≡ m → s ≡ t → h ≡ k → block_of i l s h ≡ block_of j m t k
block-by pi pl ps px = rw (pi, pl, ps, px)

deals-same : (d : Direction) {g h : Given} → Alike g h → deals_in d g ≡ deals_in d h
deals-same Positive e = e.positives
deals-same Negative e = e.negatives

seconds-same : {i j : Interval} → i ≡ j → (windows_of i).seconds ≡ (windows_of j).seconds
seconds-same e = ap (λ (i : Interval). (windows_of i).seconds) e

lines_of : (d : Direction) {s t : ℕ} {x y : Samples} {ts us : List Terms} → s ≡ t → x ≡ y → ts ≡ us → lines_by s (powers_of d x) ts ≡ lines_by t (powers_of d y) us
lines_of d ps px pt = rw (ps, px, pt)

pool-of : (d : Direction) {s t : ℕ} {x y : Samples} {ts us : List Terms} → s ≡ t → x ≡ y → ts ≡ us → pool_by s (powers_of d x) ts ≡ pool_by t (powers_of d y) us
pool-of d ps px pt = rw (ps, px, pt)

module _ (d : Direction) {g h : Given} (e : Alike g h) (p q : ℕ) (same : samples_in g p ≡ samples_in h q) where
  terms-same : terms_in d g ≡ terms_in d h
  terms-same = ap (each deal_terms) (deals-same d e)

  lines_same : lines_in d g p ≡ lines_in d h q
  unfolding lines_in
  lines_same = lines_of d (seconds-same e.interval) same terms-same

  pool-same : pool_in d g p ≡ pool_in d h q
  unfolding pool_in
  pool-same = pool-of d (seconds-same e.interval) same terms-same

  side_same : (n : ℕ) → side_text n d g p ≡ side_text n d h q
  unfolding side_text
  side_same n = rw (pool-same, lines_same, deals-same d e)

quarter-same : {g h : Given} → Alike g h → (p q : ℕ) → samples_in g p ≡ samples_in h q → (n : ℕ) → quarter_text n g p ≡ quarter_text n h q
unfolding quarter_text
quarter-same e p q same n = ap₂ ◌++◌ (side_same Positive e p q same n) (side_same Negative e p q same n)

-- ---- a run that is two

-- a whole run has a sample, so something is known of its past
pub whole-some : (g : Given) → Whole g → 0 < length g.samples
whole-some g w = rw w.complete (some-samples (interval_in g) (quarters_in g) w.some)

pub known : (g : Given) → Whole g → Known g.start (series_of g.samples)
known g w =
    omega (
      arith,
      whole-some g w,
      length-append (series_of g.samples) (before g.start),
      series-length [] (each setpoint_in g.samples),
      each-length setpoint_in g.samples,
    )

module _ (a b g : Given) (joins : Joins a b g) (whole : Whole a) where
  -- what the second starts from
  handed-on : carried (block_of (interval_in a) (lot_in a) a.start (series_of a.samples)) ≡ b.start
  handed-on = ap carried (sym (block-told a (whole-some a whole))) ∙ sym joins.block

  interval-both : interval_in a ≡ interval_in b
  interval-both = sym joins.first.interval ∙ joins.second.interval

  lot-both : lot_in a ≡ lot_in b
  lot-both = sym joins.first.lot ∙ joins.second.lot

  -- THE SAMPLES with their bounds: the quarter hours of the first, and those of the second
  pub samples-first : (q : ℕ) → q < quarters_in a → samples_in g q ≡ samples_in a q
  samples-first q h =
      samples-at g q
      ∙ samples-by q joins.first.interval joins.first.lot joins.start joins.samples
      ∙ at_first_lem (interval_in a) (lot_in a) a.start (quarters_in a) a.samples b.samples whole.complete q h
      ∙ sym (samples-at a q)

  pub samples-second : (q : ℕ) → samples_in g (quarters_in a + q) ≡ samples_in b q
  samples-second q =
      samples-at g (quarters_in a + q)
      ∙ samples-by (quarters_in a + q) joins.first.interval joins.first.lot joins.start joins.samples
      ∙ at_second (interval_in a) (lot_in a) a.start (quarters_in a) a.samples b.samples whole.complete (known a whole) q
      ∙ samples-by q interval-both lot-both handed-on refl
      ∙ sym (samples-at b q)

  -- THE FIGURES and the lines that they are printed on, under any number
  module _ (d : Direction) (q : ℕ) where
    pub lines-first : q < quarters_in a → lines_in d g q ≡ lines_in d a q
    lines-first h = lines_same d joins.first q q (samples-first q h)

    pub lines-second : lines_in d g (quarters_in a + q) ≡ lines_in d b q
    lines-second = lines_same d joins.second (quarters_in a + q) q (samples-second q)

    pub pool-first : q < quarters_in a → pool_in d g q ≡ pool_in d a q
    pool-first h = pool-same d joins.first q q (samples-first q h)

    pub pool-second : pool_in d g (quarters_in a + q) ≡ pool_in d b q
    pool-second = pool-same d joins.second (quarters_in a + q) q (samples-second q)

  pub quarter-first : (n q : ℕ) → q < quarters_in a → quarter_text n g q ≡ quarter_text n a q
  quarter-first n q h = quarter-same joins.first q q (samples-first q h) n

  pub quarter-second : (n q : ℕ) → quarter_text n g (quarters_in a + q) ≡ quarter_text n b q
  quarter-second n q = quarter-same joins.second (quarters_in a + q) q (samples-second q) n

  -- ALL QUARTER HOURS: the first's, and then the second's, numbered on
  quarters-first : (q : ℕ) → q ≤ quarters_in a → quarters_text 0 g q ≡ quarters_text 0 a q
  unfolding quarters_text
  quarters-first zero h = refl
  quarters-first (suc q) h = ap₂ ◌++◌ (quarters-first q (omega arith)) (quarter-first (0 + q) q h)

  pub quarters-joined : (q : ℕ) → quarters_text 0 g (quarters_in a + q) ≡ quarters_text 0 a (quarters_in a) ++ quarters_text (quarters_in a) b q
  unfolding quarters_text
  quarters-joined zero = rw (add-zero (quarters_in a), append-nil (quarters_text 0 a (quarters_in a))) (quarters-first (quarters_in a) (omega arith))
  quarters-joined (suc q) =
      rw (add-suc (quarters_in a) q, quarters-joined q, zero-add (quarters_in a + q), quarter-second (quarters_in a + q) q)
      (append_assoc (quarters_text 0 a (quarters_in a)) (quarters_text (quarters_in a) b q) (quarter_text (quarters_in a + q) b q))

  -- THE SUMS
  up-to-first : (q : ℕ) → q ≤ quarters_in a → lines_up_to g q ≡ lines_up_to a q
  unfolding lines_up_to
  up-to-first zero h = refl
  up-to-first (suc q) h = ap₂ ◌++◌ (up-to-first q (omega arith)) (ap₂ ◌++◌ (lines-first Positive q h) (lines-first Negative q h))

  lines-joined : (q : ℕ) → lines_up_to g (quarters_in a + q) ≡ lines_up_to a (quarters_in a) ++ lines_up_to b q
  unfolding lines_up_to
  lines-joined zero = rw (add-zero (quarters_in a), append-nil (lines_up_to a (quarters_in a))) (up-to-first (quarters_in a) (omega arith))
  lines-joined (suc q) =
      rw (add-suc (quarters_in a) q, lines-joined q, lines-second Positive q, lines-second Negative q)
      (append_assoc (lines_up_to a (quarters_in a)) (lines_up_to b q) (lines_in Positive b q ++ lines_in Negative b q))

  pub sum-joined : (amount : Figures → Cents) → (amount no_figures).0 ≡ pos 0 → (q : ℕ)
      → sum_over amount (lines_up_to g (quarters_in a + q)) ≡ sum_over amount (lines_up_to a (quarters_in a)) +ℤ sum_over amount (lines_up_to b q)
  sum-joined amount blank q = ap (sum_over amount) (lines-joined q) ∙ sum-join amount blank (lines_up_to a (quarters_in a)) (lines_up_to b q)

  -- THE BLOCK, where the second has a sample
  both_told : block_of (interval_in g) (lot_in g) g.start (series_of g.samples) ≡ block_of (interval_in b) (lot_in b) b.start (series_of b.samples)
  both_told =
      block-by joins.first.interval joins.first.lot joins.start (ap series_of joins.samples ∙ series-both a.samples b.samples)
      ∙ sym (block-joined (interval_in a) (lot_in a) a.start (series_of a.samples) (known a whole) (series_of b.samples))
      ∙ block-by interval-both lot-both handed-on refl

  pub block-second : 0 < length b.samples → block_in g ≡ block_in b
  block-second h =
      let more : 0 < length g.samples = omega (arith, ap length joins.samples, length-append a.samples b.samples) in
      block-told g more ∙ both_told ∙ sym (block-told b h)

  -- THE SHEETS
  pub joined-sheets : Whole b → JoinedSheets a b g
  unfolding no_figures
  joined-sheets w =
      record {
        quarters = ap (quarters_text 0 g) joins.quarters ∙ quarters-joined (quarters_in b);
        fees = ap (λ (n : ℕ). sum_over fee_in (lines_up_to g n)) joins.quarters ∙ sum-joined fee_in refl (quarters_in b);
        penalties = ap (λ (n : ℕ). sum_over penalty_in (lines_up_to g n)) joins.quarters ∙ sum-joined penalty_in refl (quarters_in b);
        block = block-second (whole-some b w);
      }
