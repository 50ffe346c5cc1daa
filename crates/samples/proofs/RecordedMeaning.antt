-- THE PROMISE FOR A RECORDING: a recorded sample that is read is what the first line says, and a reader of single lines would have read it in the same way.
use Rattle.std.specs.Prelude.{Some, None}
use Rattle.std.proofs.Common.{◌≡◌, ℕ, ◌+◌, ◌-◌, ◌≤◌, eqb, List, [], ◌∷◌, ◌++◌, length, get_or, take, drop, sym, refl, ap, ◌∙◌, lt_of_not-le, arith, lt-ltb}
use native.Mathlib.Decide.{dec_le}
use Rattle.lines.specs.Lines.{lines_of}
use Rattle.lines.proofs.LineLaws.{NoLf, written}
use Rattle.reading.specs.Entry.{entry_of}
use Rattle.reading.specs.declared.entry.Entry.TheVariants as E
use Rattle.vocabulary.specs.declared.recorded.Recorded.{Recorded}
use Rattle.samples.specs.Scan.{Cut}
use Rattle.samples.specs.Recorded.{first_recorded, recorded_at}
use Rattle.samples.specs.declared.recorded.RecordedLine.{RecordedLine}
use Rattle.samples.proofs.CutLaws.{same_lines}
use Rattle.samples.proofs.Joined.{by_first, leads}
use Rattle.samples.proofs.RecordedForm.{ranged}

-- the line that says it
pub record Enters (s : List ℕ) (at : ℕ) (e : RecordedLine) : Type 0 where
  pub line : List ℕ
  pub rest : List ℕ
  pub form : drop at s ≡ line ++ (10 ∷ rest)
  pub says : entry_of line ≡ E.Recorded e.recorded
  pub no-lf : NoLf line
  pub few : length line ≤ 80
  pub place : e.to ≡ at + (length line + 1)

not-overlong : (line : List ℕ) (r : Recorded) → entry_of line ≡ E.Recorded r → length line ≤ 80
unfolding entry_of
not-overlong line r e =
    elim (dec_le (length line) 80) [
      | yes h ↦ h
      | no h ↦ absurd (let q : entry_of line ≡ E.Malformed = rw (lt-ltb _ _ (lt_of_not-le h)) in let z : ◌≡◌ {A = ℕ} 0 1 = cc in (omega arith))
    ]

enters : (s : List ℕ) (at : ℕ) (e : RecordedLine) (ls : List (List ℕ)) → lines_of (drop at s) ≡ ls → first_recorded at ls ≡ Some e → Enters s at e
unfolding first_recorded
enters s at e [] q k = absurd (let z : ◌≡◌ {A = ℕ} 0 1 = cc in (omega arith))
enters s at e (line ∷ lines) q k =
    let r = ranged (at + (length line + 1)) (entry_of line) e k in
    let p = leads (written (drop at s)) line lines q in
    record {
      line = line;
      rest = p.rest;
      form = p.form;
      says = r.says;
      no-lf = p.no-lf;
      few = not-overlong line e.recorded r.says;
      place = r.place;
    }

other_none : (e : RecordedLine) → None ≡ Some e → ⊥
other_none e k = let z : ◌≡◌ {A = ℕ} 0 1 = cc in omega arith

-- from the complete lines of a block
pub recorded-enters : {block : List ℕ} {end : ℕ} → Cut block end → (at : ℕ) (e : RecordedLine) → at ≤ end → recorded_at (take end block) at ≡ Some e → Enters block at e
unfolding recorded_at
recorded-enters {block} {end} c at e h k =
    let q = (by_first (eqb (get_or (take end block) (length (take end block) - 1) 0) 10) _ None (Some e) (other_none e) k).1 in
    enters block at e (lines_of (drop at block)) refl (ap (first_recorded at) (sym (same_lines c at h)) ∙ q)
