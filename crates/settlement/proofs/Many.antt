-- Several samples, one after the other; what the room in the quarter hour at hand says of them.
use Prim.Native.Nat.{ℕ, suc, ◌-◌, ◌≤◌, ◌<◌}
use borrow.Author.Tests.{lt-leb, lt-ltb}
use lib.Dec.{eqb, leb}
use mathlib.Core.Path.{◌≡◌, refl, sym, ap, ◌∙◌}
use mathlib.Core.Bool.{Bool, true, false, cond}
use mathlib.Core.List.{List, [], ◌∷◌}
use native.Mathlib.Omega.{arith}
use lib.ListN.{length}
use lib.IntN.{ℤ}
use Rattle.std.specs.Prelude.{Ok, Err}
use Rattle.vocabulary.specs.declared.sample.Sample.{Sample}
use Rattle.vocabulary.specs.declared.refusal.Refusal.TheVariants.{WrongMoment, BadBlockLength}
use Rattle.vocabulary.specs.declared.refusal.Refusal.{Refusal}
use Rattle.vocabulary.proofs.Answers.{err-refused}
use Rattle.vocabulary.specs.Refusals.{Ruling, accepted}
use Rattle.vocabulary.specs.Sample.{power_in_range}
use Rattle.claims.specs.Claims.{samples_of}
use Rattle.settlement.specs.Calls.{take_refusal}
use Rattle.settlement.specs.declared.load.Load.{Load}
use Rattle.settlement.specs.Load.{or_lacking}
use Rattle.settlement.specs.declared.run.Run.{Run}
use Rattle.settlement.specs.Run.{sampled, sample_ground, answer_of, sampled_of, take_ground}
use Rattle.settlement.specs.Many.{room_of, unless_refused, many_of}
use Rattle.records.specs.Tape.{longer, sample_refusal}

-- WHAT A BLOCK ADDS: what is accepted beside it had nothing wrong without it; while it lacks setpoints nothing is
pub accepted-before : (load : Load) (g : Ruling) → accepted (or_lacking load g) ≡ true → accepted g ≡ true
accepted-before load g h = go (eqb load.left 0) (accepted g) refl h
  where
    go : (b a : Bool) → accepted g ≡ a → accepted (cond b g (cond a (Err BadBlockLength) g)) ≡ true → a ≡ true
    go true a e h = sym e ∙ h
    go false true e h = refl
    go false false e h = sym e ∙ h

pub lacking-err : (load : Load) (refusal : Refusal) → or_lacking load (Err refusal) ≡ Err refusal
lacking-err load refusal = rw (err-refused refusal) (go (eqb load.left 0))
  where
    go : (b : Bool) → cond {A = Ruling} b (Err refusal) (Err refusal) ≡ Err refusal
    go true = refl
    go false = refl

pub lacking-refused : (load : Load) (g : Ruling) → eqb load.left 0 ≡ false → accepted (or_lacking load g) ≡ false
lacking-refused load g e = ap (λ (b : Bool). accepted (cond b g (cond (accepted g) (Err BadBlockLength) g))) e ∙ go (accepted g) refl
  where
    go : (a : Bool) → accepted g ≡ a → accepted (cond a (Err BadBlockLength) g) ≡ false
    go true e = refl
    go false e = e

-- WHAT THE ROOM SAYS: no block lacks a setpoint, a quarter hour is to come, and so many samples of it are
record Roomy (run : Run) (m : ℕ) : Type 0 where
  whole : eqb run.load.left 0 ≡ true
  coming : leb run.plan.quarters run.account.taken ≡ false
  places : suc m ≤ samples_of run.past - run.tape.filled

room-told : (run : Run) (m : ℕ) → suc m ≤ room_of run → Roomy run m
unfolding room_of
room-told run m h =
    let t = opened (eqb run.load.left 0) (leb run.plan.quarters run.account.taken) (samples_of run.past - run.tape.filled) h in
    record { whole = t.0; coming = t.1.0; places = t.1.1 }
  where
    opened : (b c : Bool) (n : ℕ) → suc m ≤ cond b (cond c 0 n) 0 → (b ≡ true) × ((c ≡ false) × (suc m ≤ n))
    opened true true n h = absurd (omega arith)
    opened true false n h = (refl, (refl, h))
    opened false c n h = absurd (omega arith)

pub room-left : (run : Run) (x y : ℤ) (m : ℕ) → suc m ≤ room_of run → m ≤ room_of (sampled run x y)
unfolding room_of sampled longer
room-left run x y m h =
    let r = room-told run m h in
    rw (r.whole, r.coming) (omega (arith, r.places))

pub none-refused : (run : Run) (x y : ℤ) (m : ℕ) → suc m ≤ room_of run → power_in_range x ≡ true → power_in_range y ≡ true → sample_ground run x y ≡ Ok tt
unfolding sample_ground sample_refusal
none-refused run x y m h p q =
    let r = room-told run m h in
    let f : run.tape.filled < samples_of run.past = omega (arith, r.places) in
    rw (r.whole, lt-leb _ _ f, r.coming, p, q)

-- while there is room, no quarter hour waits to be taken
pub not_full : (run : Run) → 0 < room_of run → take_ground run ≡ Err WrongMoment
unfolding take_ground take_refusal
not_full run h =
    let r = room-told run 0 h in
    let f : run.tape.filled < samples_of run.past = omega (arith, r.places) in
    rw (lt-ltb _ _ f)

-- IN RANGE, AND NO MORE THAN THERE IS ROOM FOR: ALL ARE TAKEN
pub data Ranged : List Sample → Type 0 where
  none : Ranged []
  more : {s : Sample} {ss : List Sample} → power_in_range s.setpoint ≡ true → power_in_range s.actual ≡ true → Ranged ss → Ranged (s ∷ ss)

abbrev pub with_all : Run → List Sample → Run
with_all run [] = run
with_all run (s ∷ ss) = with_all (sampled run s.setpoint s.actual) ss

pub all-taken : {ss : List Sample} (run : Run) → Ranged ss → length ss ≤ room_of run → many_of run ss ≡ record { run = with_all run ss; refusal = Ok tt }
unfolding many_of sampled_of
all-taken run none h = refl
all-taken run (more {s} {ss} p q r) h =
    let next = sampled run s.setpoint s.actual in
    let g = none-refused run s.setpoint s.actual (length ss) h p q in
    ap (λ (x : Ruling). unless_refused (answer_of x next run) (many_of (answer_of x next run).run ss)) g
    ∙ all-taken next r (room-left run s.setpoint s.actual (length ss) h)
