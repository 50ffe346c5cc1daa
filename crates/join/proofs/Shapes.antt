-- EVERY ACCEPTED INPUT says what was given in the order of Says: D, a block or none, contracts, samples, E.
-- Assumes nothing.
use Prim.Native.Nat.{ℕ, ◌<◌}
use mathlib.Core.Path.{◌≡◌, refl, sym, ap, ap₂, subst, ◌∙◌}
use mathlib.Core.Bool.{Bool, true, false, ◌&&◌}
use mathlib.Core.List.{List, [], ◌∷◌, ◌++◌, append_assoc, append-nil}
use native.Mathlib.Omega.{arith}
use borrow.Author.Tests.{lt-ltb, ne_eqb}
use lib.Dec.{eqb}
use lib.IntN.{ℤ}
use lib.ListN.{length, length-append}
use Rattle.arithmetic.proofs.Booleans.{true-false}
use Rattle.vocabulary.specs.Grounds.{first}
use Rattle.vocabulary.specs.Refusals.{accepted}
use Rattle.vocabulary.specs.declared.direction.Direction.{Direction}
use Rattle.vocabulary.specs.declared.direction.Direction.TheVariants.{Positive, Negative}
use Rattle.vocabulary.specs.declared.header.Header.{Header}
use Rattle.vocabulary.specs.declared.contract.Contract.{Contract}
use Rattle.vocabulary.specs.declared.sample.Sample.{Sample}
use Rattle.vocabulary.specs.declared.acceptance.Bounds.{Bounds}
use Rattle.channel.specs.Start.{Block, Start, fresh, carried}
use Rattle.series.specs.Scan.{each}
use Rattle.lines.specs.Lines.{lines_of}
use Rattle.reading.specs.Line.{line_of, identifier_of}
use Rattle.reading.specs.declared.Line.{Line}
use Rattle.reading.specs.declared.Line.TheVariants as L
use Rattle.meaning.specs.Given.{Deal, Given, block_by, with_deal, with_sample}
use Rattle.meaning.specs.Meaning.{nothing, these, untouched, bounds_from, setpoint_from, contract_grounds, bounds_grounds, setpoint_grounds, grounds, ground, after, deal_of}
use Rattle.meaning.specs.Endings.{whole, Accepts, none, more, Ends, by_end}
use Rattle.join.specs.Says.{block_lines, SaysDeals, no_more, positive, negative, Says}

-- ---- lines that are refused at a moment

module _ (g : Given) (identifier : List ℕ) where
  no_header : (h : Header) → accepted (ground (these g) identifier (L.Header h)) ≡ true → ⊥
  unfolding grounds
  no_header h a = true-false a refl

  no-malformed : accepted (ground (these g) identifier L.Malformed) ≡ true → ⊥
  unfolding grounds
  no-malformed a = true-false a refl

  -- once a contract or a sample came, neither O nor B
  late-bounds : (start : Start) (bounds : Bounds) → untouched g ≡ false → accepted (first (bounds_from start g bounds)) ≡ false
  late-bounds fresh bounds u = rw u
  late-bounds (carried b) bounds u = refl

  no-bounds : (bounds : Bounds) → untouched g ≡ false → accepted (ground (these g) identifier (L.Bounds bounds)) ≡ true → ⊥
  unfolding grounds bounds_grounds
  no-bounds bounds u a = true-false a (late-bounds g.start bounds u)

  late-setpoint : (start : Start) (s : ℤ) → untouched g ≡ false → accepted (first (setpoint_from start g s)) ≡ false
  late-setpoint fresh s u = refl
  late-setpoint (carried b) s u = rw u

  no-setpoint : (s : ℤ) → untouched g ≡ false → accepted (ground (these g) identifier (L.Setpoint s)) ≡ true → ⊥
  unfolding grounds setpoint_grounds
  no-setpoint s u a = true-false a (late-setpoint g.start s u)

  -- once a sample came, no contract
  late-contract : (c : Contract) → 0 < length g.samples → accepted (ground (these g) identifier (L.Contract c)) ≡ false
  unfolding grounds contract_grounds
  late-contract c l = rw (lt-ltb 0 (length g.samples) l)

  no-contract : (c : Contract) → 0 < length g.samples → accepted (ground (these g) identifier (L.Contract c)) ≡ true → ⊥
  no-contract c l a = true-false a (late-contract c l)

-- ---- a contract or a sample came

not_none : {A : Type 0} (xs : List A) (x : A) → eqb (length (xs ++ (x ∷ []))) 0 ≡ false
not_none xs x = ne_eqb (length (xs ++ (x ∷ []))) 0 (λ e. omega (arith, length-append xs (x ∷ [])))

second-false : (a c : Bool) → (a && false && c) ≡ false
second-false true c = refl
second-false false c = refl

third-false : (a b : Bool) → (a && b && false) ≡ false
third-false true true = refl
third-false true false = refl
third-false false b = refl

touched-sample : (g : Given) (x : Sample) → untouched (with_sample x g) ≡ false
unfolding untouched
touched-sample g x = rw (not_none g.samples x) (third-false (eqb (length g.positives) 0) (eqb (length g.negatives) 0))

touched-deal : (g : Given) (d : Direction) (x : Deal) → untouched (with_deal d x g) ≡ false
unfolding untouched
touched-deal g Positive x = rw (not_none g.positives x)
touched-deal g Negative x = rw (not_none g.negatives x) (second-false (eqb (length g.positives) 0) (eqb (length g.samples) 0))

one-sample : (g : Given) (x : Sample) → 0 < length (with_sample x g).samples
one-sample g x = omega (arith, length-append g.samples (x ∷ []))

-- ---- with contracts and samples after those that were there

abbrev with_all : List Deal → List Deal → List Sample → Given → Given
with_all ps ns xs g = record { header = g.header; start = g.start; positives = g.positives ++ ps; negatives = g.negatives ++ ns; samples = g.samples ++ xs }

-- lines that are contracts and then samples, and what is given with them
record Shaped (g last : Given) (lines : List (List ℕ)) : Type 0 where
  contracts : List (List ℕ)
  samples : List (List ℕ)
  ps : List Deal
  ns : List Deal
  xs : List Sample
  parted : lines ≡ contracts ++ samples
  said_contracts : SaysDeals contracts ps ns
  said_samples : each line_of samples ≡ each L.Sample xs
  is : last ≡ with_all ps ns xs g

given_by_lem : (g : Given) {ps qs ns ms : List Deal} {xs ys : List Sample} → ps ≡ qs → ns ≡ ms → xs ≡ ys
    → ◌≡◌ {A = Given} (record { header = g.header; start = g.start; positives = ps; negatives = ns; samples = xs })
    (record { header = g.header; start = g.start; positives = qs; negatives = ms; samples = ys })
given_by_lem g p n x = rw (p, n, x)

-- ---- samples, once one came

record OnlySamples (g last : Given) (lines : List (List ℕ)) : Type 0 where
  xs : List Sample
  says : each line_of lines ≡ each L.Sample xs
  is : last ≡ with_all [] [] xs g

no-samples : (g : Given) → OnlySamples g g []
unfolding each
no-samples g = record { xs = []; says = refl; is = given_by_lem g (sym (append-nil g.positives)) (sym (append-nil g.negatives)) (sym (append-nil g.samples)) }

sample-first : (g last : Given) (x : Sample) (line : List ℕ) {lines : List (List ℕ)} → line_of line ≡ L.Sample x → OnlySamples (with_sample x g) last lines → OnlySamples g last (line ∷ lines)
unfolding each
sample-first g last x line e r =
    record { xs = x ∷ r.xs; says = ap₂ ◌∷◌ e r.says; is = r.is ∙ given_by_lem g refl refl (append_assoc g.samples (x ∷ []) r.xs) }

samples-step : (g last : Given) (line : List ℕ) {lines : List (List ℕ)} (said : Line) → line_of line ≡ said → accepted (ground (these g) (identifier_of line) said) ≡ true
    → (said ≡ L.End → ⊥) → untouched g ≡ false → 0 < length g.samples → ((x : Sample) → said ≡ L.Sample x → OnlySamples (with_sample x g) last lines)
    → OnlySamples g last (line ∷ lines)
samples-step g last line (L.Header h) e a n u l next = absurd (no_header g (identifier_of line) h a)
samples-step g last line (L.Bounds bounds) e a n u l next = absurd (no-bounds g (identifier_of line) bounds u a)
samples-step g last line (L.Setpoint s) e a n u l next = absurd (no-setpoint g (identifier_of line) s u a)
samples-step g last line (L.Contract c) e a n u l next = absurd (no-contract g (identifier_of line) c l a)
samples-step g last line (L.Sample x) e a n u l next = sample-first g last x line e (next x refl)
samples-step g last line L.End e a n u l next = absurd (n refl)
samples-step g last line L.Malformed e a n u l next = absurd (no-malformed g (identifier_of line) a)

only-samples : (g last : Given) (lines : List (List ℕ)) → untouched g ≡ false → 0 < length g.samples → Accepts (these g) lines (these last) → OnlySamples g last lines
unfolding after
only-samples g last [] u l none = no-samples g
only-samples g last (line ∷ lines) u l (more f n r) =
    samples-step g last line (line_of line) refl f n u l (λ x e. only-samples (with_sample x g) last lines (touched-sample g x) (one-sample g x) (rw e at r))

-- ---- contracts, once one came, and then samples

-- no more contracts
then-samples : {g last : Given} {lines : List (List ℕ)} → OnlySamples g last lines → Shaped g last lines
then-samples {lines = lines} r =
    record { contracts = []; samples = lines; ps = []; ns = []; xs = r.xs; parted = refl; said_contracts = no_more; said_samples = r.says; is = r.is }

deal-first : (g last : Given) (c : Contract) (d : Direction) (line : List ℕ) {lines : List (List ℕ)} → line_of line ≡ L.Contract c → c.direction ≡ d
    → Shaped (with_deal d (deal_of c (identifier_of line)) g) last lines → Shaped g last (line ∷ lines)
deal-first g last c Positive line e p r =
    let x = deal_of c (identifier_of line) in
    record {
      contracts = line ∷ r.contracts;
      samples = r.samples;
      ps = x ∷ r.ps;
      ns = r.ns;
      xs = r.xs;
      parted = ap (λ (l : List (List ℕ)). line ∷ l) r.parted;
      said_contracts = positive c e p r.said_contracts;
      said_samples = r.said_samples;
      is = r.is ∙ given_by_lem g (append_assoc g.positives (x ∷ []) r.ps) refl refl;
    }
deal-first g last c Negative line e p r =
    let x = deal_of c (identifier_of line) in
    record {
      contracts = line ∷ r.contracts;
      samples = r.samples;
      ps = r.ps;
      ns = x ∷ r.ns;
      xs = r.xs;
      parted = ap (λ (l : List (List ℕ)). line ∷ l) r.parted;
      said_contracts = negative c e p r.said_contracts;
      said_samples = r.said_samples;
      is = r.is ∙ given_by_lem g refl (append_assoc g.negatives (x ∷ []) r.ns) refl;
    }

-- a contract or a sample, whichever comes
module _ (g last : Given) (line : List ℕ) {lines : List (List ℕ)} where
  deals-step : (said : Line) → line_of line ≡ said → accepted (ground (these g) (identifier_of line) said) ≡ true → (said ≡ L.End → ⊥) → untouched g ≡ false
      → ((c : Contract) → said ≡ L.Contract c → Shaped (with_deal c.direction (deal_of c (identifier_of line)) g) last lines)
      → ((x : Sample) → said ≡ L.Sample x → OnlySamples (with_sample x g) last lines) → Shaped g last (line ∷ lines)
  deals-step (L.Header h) e a n u next then = absurd (no_header g (identifier_of line) h a)
  deals-step (L.Bounds bounds) e a n u next then = absurd (no-bounds g (identifier_of line) bounds u a)
  deals-step (L.Setpoint s) e a n u next then = absurd (no-setpoint g (identifier_of line) s u a)
  deals-step (L.Contract c) e a n u next then = deal-first g last c c.direction line e refl (next c refl)
  deals-step (L.Sample x) e a n u next then = then-samples (sample-first g last x line e (then x refl))
  deals-step L.End e a n u next then = absurd (n refl)
  deals-step L.Malformed e a n u next then = absurd (no-malformed g (identifier_of line) a)

deals : (g last : Given) (lines : List (List ℕ)) → untouched g ≡ false → Accepts (these g) lines (these last) → Shaped g last lines
unfolding after
deals g last [] u none = then-samples (no-samples g)
deals g last (line ∷ lines) u (more f n r) =
    deals-step g last line (line_of line) refl f n u
    (λ c e. deals (with_deal c.direction (deal_of c (identifier_of line)) g) last lines (touched-deal g c.direction (deal_of c (identifier_of line))) (rw e at r))
    (λ x e. only-samples (with_sample x g) last lines (touched-sample g x) (one-sample g x) (rw e at r))

-- ---- directly after D: a block or none, and then they

abbrev opened : Header → Start → Given
opened h start = record { header = h; start = start; positives = []; negatives = []; samples = [] }

abbrev newer : Block → List ℤ → Block
newer b ss = record { oga = b.oga; uga = b.uga; setpoints = b.setpoints ++ ss }

-- the setpoints that come after some of a block, and the lines after them
record Loaded (h : Header) (b : Block) (last : Given) (lines : List (List ℕ)) : Type 0 where
  block : List (List ℕ)
  rest : List (List ℕ)
  ss : List ℤ
  parted : lines ≡ block ++ rest
  said_block : each line_of block ≡ each L.Setpoint ss
  shaped : Shaped (opened h (carried (newer b ss))) last rest

same_block : (b : Block) {ss ts : List ℤ} → ss ≡ ts → carried (record { oga = b.oga; uga = b.uga; setpoints = ss }) ≡ carried (record { oga = b.oga; uga = b.uga; setpoints = ts })
same_block b e = rw e

-- no more setpoints
then-shaped : (h : Header) (b : Block) (last : Given) {lines : List (List ℕ)} → Shaped (opened h (carried b)) last lines → Loaded h b last lines
unfolding each
then-shaped h b last {lines} r =
    record {
      block = [];
      rest = lines;
      ss = [];
      parted = refl;
      said_block = refl;
      shaped = subst (λ (s : Start). Shaped (opened h s) last lines) (same_block b (sym (append-nil b.setpoints))) r;
    }

setpoint-first : (h : Header) (b : Block) (last : Given) (s : ℤ) (line : List ℕ) {lines : List (List ℕ)} → line_of line ≡ L.Setpoint s
    → Loaded h (newer b (s ∷ [])) last lines → Loaded h b last (line ∷ lines)
unfolding each
setpoint-first h b last s line e r =
    record {
      block = line ∷ r.block;
      rest = r.rest;
      ss = s ∷ r.ss;
      parted = ap (λ (l : List (List ℕ)). line ∷ l) r.parted;
      said_block = ap₂ ◌∷◌ e r.said_block;
      shaped = subst (λ (t : Start). Shaped (opened h t) last r.rest) (same_block b (append_assoc b.setpoints (s ∷ []) r.ss)) r.shaped;
    }

-- a contract or a sample after which no block can come
module _ (h : Header) (start : Start) (last : Given) (line : List ℕ) (lines : List (List ℕ)) where
  abbrev g : Given
  g = opened h start

  first-deal : (c : Contract) → line_of line ≡ L.Contract c → Accepts (after (these g) (identifier_of line) (L.Contract c)) lines (these last) → Shaped g last (line ∷ lines)
  unfolding after
  first-deal c e r =
      let x = deal_of c (identifier_of line) in
      deal-first g last c c.direction line e refl (deals (with_deal c.direction x g) last lines (touched-deal g c.direction x) r)

  first-sample : (x : Sample) → line_of line ≡ L.Sample x → Accepts (after (these g) (identifier_of line) (L.Sample x)) lines (these last) → Shaped g last (line ∷ lines)
  unfolding after
  first-sample x e r = then-samples (sample-first g last x line e (only-samples (with_sample x g) last lines (touched-sample g x) (one-sample g x) r))

-- in a block
module _ (h : Header) (b : Block) (last : Given) (line : List ℕ) (lines : List (List ℕ)) where
  abbrev inside : Given
  inside = opened h (carried b)

  no_second : (bounds : Bounds) → accepted (ground (these inside) (identifier_of line) (L.Bounds bounds)) ≡ true → ⊥
  unfolding grounds bounds_grounds
  no_second bounds a = true-false a refl

  block-step : (said : Line) → line_of line ≡ said → accepted (ground (these inside) (identifier_of line) said) ≡ true → (said ≡ L.End → ⊥)
      → Accepts (after (these inside) (identifier_of line) said) lines (these last) → ((s : ℤ) → said ≡ L.Setpoint s → Loaded h (newer b (s ∷ [])) last lines)
      → Loaded h b last (line ∷ lines)
  block-step (L.Header k) e a n r next = absurd (no_header inside (identifier_of line) k a)
  block-step (L.Bounds bounds) e a n r next = absurd (no_second bounds a)
  block-step (L.Setpoint s) e a n r next = setpoint-first h b last s line e (next s refl)
  block-step (L.Contract c) e a n r next = then-shaped h b last (first-deal h (carried b) last line lines c e r)
  block-step (L.Sample x) e a n r next = then-shaped h b last (first-sample h (carried b) last line lines x e r)
  block-step L.End e a n r next = absurd (n refl)
  block-step L.Malformed e a n r next = absurd (no-malformed inside (identifier_of line) a)

in_block : (h : Header) (b : Block) (last : Given) (lines : List (List ℕ)) → Accepts (these (opened h (carried b))) lines (these last) → Loaded h b last lines
unfolding after
in_block h b last [] none = then-shaped h b last (then-samples (no-samples (opened h (carried b))))
in_block h b last (line ∷ lines) (more f n r) = block-step h b last line lines (line_of line) refl f n r (λ s e. in_block h (newer b (s ∷ [])) last lines (rw e at r))

-- a block or none, and the lines after it
record Started (h : Header) (last : Given) (lines : List (List ℕ)) : Type 0 where
  start : Start
  block : List (List ℕ)
  rest : List (List ℕ)
  parted : lines ≡ block ++ rest
  said_block : each line_of block ≡ block_lines start
  shaped : Shaped (opened h start) last rest

without : {h : Header} {last : Given} {lines : List (List ℕ)} → Shaped (opened h fresh) last lines → Started h last lines
unfolding each
without {lines = lines} r = record { start = fresh; block = []; rest = lines; parted = refl; said_block = refl; shaped = r }

with-block : (h : Header) (last : Given) (bounds : Bounds) (line : List ℕ) {lines : List (List ℕ)} → line_of line ≡ L.Bounds bounds → Loaded h (block_by bounds) last lines
    → Started h last (line ∷ lines)
unfolding each
with-block h last bounds line e r =
    record {
      start = carried (newer (block_by bounds) r.ss);
      block = line ∷ r.block;
      rest = r.rest;
      parted = ap (λ (l : List (List ℕ)). line ∷ l) r.parted;
      said_block = ap₂ ◌∷◌ e r.said_block;
      shaped = r.shaped;
    }

module _ (h : Header) (last : Given) (line : List ℕ) (lines : List (List ℕ)) where
  abbrev newest : Given
  newest = opened h fresh

  no-past : (s : ℤ) → accepted (ground (these newest) (identifier_of line) (L.Setpoint s)) ≡ true → ⊥
  unfolding grounds setpoint_grounds
  no-past s a = true-false a refl

  header-step : (said : Line) → line_of line ≡ said → accepted (ground (these newest) (identifier_of line) said) ≡ true → (said ≡ L.End → ⊥)
      → Accepts (after (these newest) (identifier_of line) said) lines (these last) → Started h last (line ∷ lines)
  unfolding after
  header-step (L.Header k) e a n r = absurd (no_header newest (identifier_of line) k a)
  header-step (L.Bounds bounds) e a n r = with-block h last bounds line e (in_block h (block_by bounds) last lines r)
  header-step (L.Setpoint s) e a n r = absurd (no-past s a)
  header-step (L.Contract c) e a n r = without (first-deal h fresh last line lines c e r)
  header-step (L.Sample x) e a n r = without (first-sample h fresh last line lines x e r)
  header-step L.End e a n r = absurd (n refl)
  header-step L.Malformed e a n r = absurd (no-malformed newest (identifier_of line) a)

after-header : (h : Header) (last : Given) (lines : List (List ℕ)) → Accepts (these (opened h fresh)) lines (these last) → Started h last lines
after-header h last [] none = without (then-samples (no-samples (opened h fresh)))
after-header h last (line ∷ lines) (more f n r) = header-step h last line lines (line_of line) refl f n r

-- ---- D first

record Begun (last : Given) (lines : List (List ℕ)) : Type 0 where
  header : Header
  head : List ℕ
  rest : List (List ℕ)
  parted : lines ≡ head ∷ rest
  said_header : line_of head ≡ L.Header header
  started : Started header last rest

module _ (last : Given) (line : List ℕ) (lines : List (List ℕ)) where
  first_step : (said : Line) → line_of line ≡ said → accepted (ground nothing (identifier_of line) said) ≡ true → Accepts (after nothing (identifier_of line) said) lines (these last)
      → Begun last (line ∷ lines)
  unfolding grounds after
  first_step (L.Header h) e a r = record { header = h; head = line; rest = lines; parted = refl; said_header = e; started = after-header h last lines r }
  first_step (L.Bounds bounds) e a r = true-false a refl
  first_step (L.Setpoint s) e a r = true-false a refl
  first_step (L.Contract c) e a r = true-false a refl
  first_step (L.Sample x) e a r = true-false a refl
  first_step L.End e a r = true-false a refl
  first_step L.Malformed e a r = true-false a refl

begun : (last : Given) (lines : List (List ℕ)) → Accepts nothing lines (these last) → Begun last lines
begun last [] x' = elim x' [ ]
begun last (line ∷ lines) (more f n r) = first_step last line lines (line_of line) refl f r

-- ---- the whole input

-- by what its parts say
abbrev given_by : {last : Given} {lines : List (List ℕ)} → Begun last lines → Given
given_by b =
    record {
      header = b.header;
      start = b.started.start;
      positives = b.started.shaped.ps;
      negatives = b.started.shaped.ns;
      samples = b.started.shaped.xs;
    }

module _ (input : List ℕ) {g : Given} {before : List (List ℕ)} (b : Begun g before) (end : List ℕ) (rest : List (List ℕ)) where
  abbrev block : List (List ℕ)
  block = b.started.block

  abbrev contracts : List (List ℕ)
  contracts = b.started.shaped.contracts

  abbrev samples : List (List ℕ)
  samples = b.started.shaped.samples

  parts : before ≡ b.head ∷ (block ++ (contracts ++ samples))
  parts = b.parted ∙ ap (λ (l : List (List ℕ)). b.head ∷ l) (b.started.parted ∙ ap (λ (l : List (List ℕ)). block ++ l) b.started.shaped.parted)

  all-parts : before ++ (end ∷ rest) ≡ b.head ∷ (block ++ (contracts ++ (samples ++ (end ∷ rest))))
  all-parts =
      ap (λ (l : List (List ℕ)). l ++ (end ∷ rest)) parts
      ∙ ap (λ (l : List (List ℕ)). b.head ∷ l)
      (append_assoc block (contracts ++ samples) (end ∷ rest) ∙ ap (λ (l : List (List ℕ)). block ++ l) (append_assoc contracts samples (end ∷ rest)))

  said-so : lines_of input ≡ before ++ (end ∷ rest) → line_of end ≡ L.End → Says input (given_by b)
  said-so lines e =
      record {
        head = b.head;
        block = block;
        contracts = contracts;
        samples = samples;
        end = end;
        rest = rest;
        lines = lines ∙ all-parts;
        said_header = b.said_header;
        said_block = b.started.said_block;
        said_contracts = b.started.shaped.said_contracts;
        said_samples = b.started.shaped.said_samples;
        said_end = e;
      }

-- AN INPUT THAT ENDS WITH E, with g given, says g
pub ended-says : {input : List ℕ} {g : Given} → Ends nothing 0 (lines_of input) (whole (these g)) → Says input g
ended-says {input} {g} (by_end before end rest lines a e f) =
    let b = begun g before a in
    subst (Says input) (sym b.started.shaped.is) (said-so input b end rest lines e)
