-- How the load of a run stands to the start that was given, and what a channel holds of it while a block is given.
-- Assumes nothing.
use Prim.Native.Nat.{ℕ, zero, suc, ◌+◌, ◌<◌}
use mathlib.Core.Path.{◌≡◌, refl, sym, ◌∙◌}
use mathlib.Core.Bool.{Bool, true, false, cond, not}
use mathlib.Core.List.{List, [], ◌∷◌, ◌++◌}
use native.Mathlib.Omega.{arith}
use borrow.Author.Tests.{eq-eqb, ne_eqb, lt-ltb, le-ltb}
use lib.Dec.{eqb, ltb, eqb-suc-zero}
use lib.IntN.{ℤ}
use lib.ListN.{length, length-append}
use Rattle.arithmetic.specs.Power.{units_of}
use Rattle.std.specs.Prelude.{Ok, Err}
use Rattle.vocabulary.specs.declared.refusal.Refusal.{Refusal}
use Rattle.vocabulary.specs.declared.refusal.Refusal.TheVariants.{WrongMoment, BadBlockLength}
use Rattle.vocabulary.specs.Refusals.{Ruling, accepted}
use Rattle.vocabulary.specs.Grounds.{Ground, on, first}
use Rattle.vocabulary.specs.declared.interval.Interval.{Interval}
use Rattle.vocabulary.specs.Interval.{windows_of}
use Rattle.vocabulary.specs.declared.acceptance.Bounds.{Bounds}
use Rattle.vocabulary.proofs.Answers.{err-refused}
use Rattle.channel.specs.declared.Channel.{Channel}
use Rattle.channel.specs.Start.{Block, Start, fresh, carried}
use Rattle.channel.specs.State.{StandsFor, recalled_of, bounded_of}
use Rattle.channel.proofs.Loaded.{recalls, bounds_given}
use Rattle.settlement.specs.declared.load.Load.{Load}
use Rattle.settlement.specs.Load.{begun_with, one_fewer, between, bounds_refusal, setpoint_refusal, or_lacking}
use Rattle.meaning.specs.Given.{Given, block_by, with_newest}
use Rattle.meaning.specs.Meaning.{untouched, block_size, lacking, lacks, bounds_from, setpoint_from}

-- what a channel holds of a start: a block without a setpoint is not in it yet
abbrev pub held_block : Block → List ℤ → Start
held_block b [] = fresh
held_block b (s ∷ ss) = carried b

abbrev pub held_start : Start → Start
held_start fresh = fresh
held_start (carried b) = held_block b b.setpoints

-- the load: no block was begun, or one of which so many setpoints are still to come
pub data LoadMeets (size : ℕ) : Start → Load → Type 0 where
  no_block : {load : Load} → load.begun ≡ false → load.left ≡ 0 → LoadMeets size fresh load
  a_block : {b : Block} {load : Load} → load.begun ≡ true → length b.setpoints + load.left ≡ size → load.bounds.oga.0 ≡ b.oga → load.bounds.uga.0 ≡ b.uga
      → LoadMeets size (carried b) load

-- ---- what is left is what a block lacks

lacking-is : (n left size : ℕ) → n + left ≡ size → ltb n size ≡ not (eqb left 0)
lacking-is n zero size e = le-ltb n size (omega arith)
lacking-is n (suc left) size e = rw (eqb-suc-zero left) (lt-ltb n size (omega arith))

pub left_is : {size : ℕ} {start : Start} {load : Load} → LoadMeets size start load → lacking start size ≡ not (eqb load.left 0)
left_is (no_block b e) = rw e
left_is {size} (a_block {b} {load} y e o u) = lacking-is (length b.setpoints) load.left size e

pub some_left : (left : ℕ) → eqb left 0 ≡ false → 0 < left
some_left zero e = absurd (let z : ◌≡◌ {A = ℕ} 0 1 = cc in (omega arith))
some_left (suc left) e = omega arith

-- a block that lacks none is held whole
some-held : (b : Block) (ss : List ℤ) → 0 < length ss → held_block b ss ≡ carried b
some-held b [] h = absurd (omega arith)
some-held b (s ∷ ss) h = refl

pub held_whole : {size : ℕ} {start : Start} {load : Load} → LoadMeets size start load → 0 < size → load.left ≡ 0 → held_start start ≡ start
held_whole (no_block b e) h z = refl
held_whole (a_block {b} y e o u) h z = some-held b b.setpoints (omega arith)

-- ---- 17 comes after all other grounds

-- a test of what is left, after a refusal
pub after-all : (load : Load) (refusal : Refusal) → or_lacking load (Err refusal) ≡ Err refusal
after-all load refusal = go (eqb load.left 0)
  where
    go : (z : Bool) → cond {A = Ruling} z (Err refusal) (cond (accepted (Err refusal)) (Err BadBlockLength) (Err refusal)) ≡ Err refusal
    go true = refl
    go false = rw (err-refused refusal)

none_of : (z : Bool) → cond {A = Ruling} z (Ok tt) (Err BadBlockLength) ≡ cond (not z) (Err BadBlockLength) (Ok tt)
none_of true = refl
none_of false = refl

-- one ground more before the others
one-before : (load : Load) (holds : Bool) (refusal : Refusal) (rest last : Ruling) → or_lacking load rest ≡ last
    → or_lacking load (cond holds (Err refusal) rest) ≡ cond holds (Err refusal) last
one-before load true refusal rest last e = after-all load refusal
one-before load false refusal rest last e = e

pub or-last : (load : Load) (grounds : List Ground) → or_lacking load (first grounds) ≡ first (grounds ++ (on BadBlockLength (not (eqb load.left 0)) ∷ []))
or-last load [] = none_of (eqb load.left 0)
or-last load (ground ∷ grounds) =
    one-before load ground.holds ground.refusal (first grounds) (first (grounds ++ (on BadBlockLength (not (eqb load.left 0)) ∷ []))) (or-last load grounds)

-- where nothing is refused, no setpoint is left
never-none : (ruling : Ruling) → cond (accepted ruling) (Err BadBlockLength) ruling ≡ Ok tt → ⊥
never-none (Ok done) e = cc
never-none (Err refusal) e = let told : ◌≡◌ {A = Ruling} (Err refusal) (Ok tt) = rw (err-refused refusal) at e in cc

pub none_left : (left : ℕ) (ruling : Ruling) → cond (eqb left 0) ruling (cond (accepted ruling) (Err BadBlockLength) ruling) ≡ Ok tt → (left ≡ 0) × (ruling ≡ Ok tt)
none_left zero ruling e = (refl, e)
none_left (suc left) ruling e = absurd (never-none ruling (rw (eqb-suc-zero left) at e))

-- ---- the lines of a block

-- before its moment nothing else of a line counts
twice : (u : Bool) → cond {A = Ruling} (not u) (Err WrongMoment) (Err WrongMoment) ≡ Err WrongMoment
twice true = refl
twice false = refl

pub bounds-refused : (g : Given) (load : Load) (start : Start) (bounds : Bounds) → LoadMeets (block_size g) start load
    → bounds_refusal (untouched g) load bounds ≡ first (bounds_from start g bounds)
unfolding bounds_refusal
bounds-refused g load fresh bounds (no_block b z) = rw b
bounds-refused g load (carried x) bounds (a_block y n o v) = rw y (twice (untouched g))

one_left : (n left size : ℕ) → n + left ≡ size → eqb left 1 ≡ eqb (n + 1) size
one_left n zero size e = sym (ne_eqb (n + 1) size (λ f. omega arith))
one_left n (suc zero) size e = sym (eq-eqb (n + 1) size (omega arith))
one_left n (suc (suc left)) size e = ne_eqb (suc (suc left)) 1 (λ f. omega arith) ∙ sym (ne_eqb (n + 1) size (λ f. omega arith))

pub not-not : (b : Bool) → not (not b) ≡ b
not-not true = refl
not-not false = refl

pub setpoint-refused : (g : Given) (load : Load) (start : Start) (s : ℤ) → g.start ≡ start → LoadMeets (block_size g) start load
    → setpoint_refusal (untouched g) load s ≡ first (setpoint_from start g s)
unfolding setpoint_refusal between lacks
setpoint-refused g load fresh s e (no_block b z) = rw b (twice (untouched g))
setpoint-refused g load (carried x) s e (a_block y n o v) =
    rw (
      y,
      e,
      lacking-is (length x.setpoints) load.left (block_size g) n,
      not-not (eqb load.left 0),
      one_left (length x.setpoints) load.left (block_size g) n,
      o,
      v,
    )

-- ---- what the load and the channel are after them

pub load-begun : (i : Interval) (bounds : Bounds) → LoadMeets (windows_of i).to (carried (block_by bounds)) (begun_with i bounds)
unfolding begun_with
load-begun i bounds = a_block {b = block_by bounds} {load = begun_with i bounds} refl (omega arith) refl refl

pub load-fewer : {size : ℕ} {b : Block} {load : Load} (s : ℤ) → LoadMeets size (carried b) load → 0 < load.left → LoadMeets size (with_newest (carried b) s) (one_fewer load)
unfolding one_fewer
load-fewer {size} s (a_block {b} {load} y n o v) h =
    let more : length (b.setpoints ++ (s ∷ [])) + (one_fewer load).left ≡ size = omega (arith, length-append b.setpoints (s ∷ [])) in
    a_block {b = record { oga = b.oga; uga = b.uga; setpoints = b.setpoints ++ (s ∷ []) }} {load = one_fewer load} y more o v

module _ {i : Interval} {lot : ℕ} {ch : Channel} (s : ℤ) where
  -- with one setpoint more, and the block's bounds
  newest-held : (b : Block) (ss : List ℤ) → StandsFor i lot (held_block (record { oga = b.oga; uga = b.uga; setpoints = ss }) ss) ch []
      → StandsFor i lot (held_start (carried (record { oga = b.oga; uga = b.uga; setpoints = ss ++ (s ∷ []) }))) (bounded_of (recalled_of ch s) b.oga b.uga) []
  newest-held b [] r =
      let one : Block = record { oga = units_of s; uga = units_of s; setpoints = s ∷ [] } in
      bounds_given (recalled_of ch s) b.oga b.uga one (recalls ch s fresh r)
  newest-held b (t ∷ ss) r =
      let all : Block = record { oga = b.oga; uga = b.uga; setpoints = (t ∷ ss) ++ (s ∷ []) } in
      bounds_given (recalled_of ch s) b.oga b.uga all (recalls ch s (carried (record { oga = b.oga; uga = b.uga; setpoints = t ∷ ss })) r)

  pub past-recalled : (b : Block) (load : Load) → load.bounds.oga.0 ≡ b.oga → load.bounds.uga.0 ≡ b.uga → StandsFor i lot (held_start (carried b)) ch []
      → StandsFor i lot (held_start (with_newest (carried b) s)) (bounded_of (recalled_of ch s) load.bounds.oga.0 load.bounds.uga.0) []
  past-recalled b load o u r = rw (o, u) (newest-held b b.setpoints r)
