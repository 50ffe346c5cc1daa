-- What the number of a refusal says: something is refused, or nothing is.
-- Assumes nothing.
use Prim.Native.Nat.{ℕ}
use mathlib.Core.Path.{◌≡◌, refl}
use mathlib.Core.Bool.{true, false, not}
use Rattle.std.specs.Prelude.{Ok, Err}
use Rattle.std.specs.Result.{is_ok, is_err}
use borrow.Author.Tests.{eq-eqb, ne_eqb}
use Rattle.vocabulary.specs.Refusals.{Ruling, number_of, accepted, allowed}
use Rattle.vocabulary.specs.declared.refusal.Refusal.{Refusal}
use Rattle.vocabulary.proofs.Answers.{err-refused}

module _ {n : ℕ} {refusal refusal' : Ruling} (e : n ≡ number_of refusal) (same : refusal ≡ refusal') where
  pub none-refused : n ≡ 0 → accepted refusal' ≡ true
  none-refused z = rw (← same, ← e) (eq-eqb n 0 z)

  pub some-refused : (n ≡ 0 → ⊥) → accepted refusal' ≡ false
  some-refused z = rw (← same, ← e) (ne_eqb n 0 z)

-- nothing is refused exactly where the ruling is Ok
pub accepted-ok : (ruling : Ruling) → accepted ruling ≡ is_ok ruling
accepted-ok (Ok done) = refl
accepted-ok (Err refusal) = err-refused refusal

pub accepted-err : (ruling : Ruling) → accepted ruling ≡ not (is_err ruling)
accepted-err (Ok done) = refl
accepted-err (Err refusal) = err-refused refusal

-- what a value where nothing is refused says of the ruling
pub allowed-ok : {A : Type 0} (ruling : Ruling) (x y : A) → allowed ruling x ≡ Ok y → (ruling ≡ Ok tt) × (x ≡ y)
allowed-ok (Ok done) x y e = (refl, cc)
allowed-ok (Err refusal) x y e = cc

pub allowed-err : {A : Type 0} (ruling : Ruling) (x : A) (refusal : Refusal) → allowed ruling x ≡ Err refusal → ruling ≡ Err refusal
allowed-err (Ok done) x refusal e = cc
allowed-err (Err refusal') x refusal e = cc
