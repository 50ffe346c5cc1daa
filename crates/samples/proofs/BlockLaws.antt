-- A stretch of a block, from one of its complete lines.
use Rattle.std.proofs.Common.{◌≡◌, ℕ, ◌-◌, ◌<◌, ◌≤◌, min, List, [], length, take, ℤ, ap, ◌∙◌, arith}
use Rattle.arithmetic.specs.Whole.{least_of}
use Rattle.samples.specs.Stretch.{front_samples, bytes_of, setpoints_of, actuals_of, lines_at, Reads, most_of}
use Rattle.samples.specs.Scan.{Cut}
use Rattle.samples.specs.declared.Stretch.{Stretch}
use Rattle.samples.proofs.StretchLaws.{no_line_lem, none-wanted}
use Rattle.samples.proofs.CutLaws.{nothing-past, same_lines}

pub nothing_read : (lines : List (List ℕ)) (filled most : ℕ) (sp ac : List ℤ) → front_samples most lines ≡ []
    → Reads lines filled most sp ac sp ac (record { samples = 0; bytes = 0 })
unfolding setpoints_of actuals_of bytes_of
nothing_read lines filled most sp ac e =
    record {
      samples = rw e;
      bytes = rw e;
      setpoints = rw e;
      actuals = rw e;
    }

pub none-past : {block : List ℕ} {e : ℕ} (n at : ℕ) → Cut block e → e ≤ at → front_samples n (lines_at block at) ≡ []
none-past n at c h = ap (front_samples n) (nothing-past c at h) ∙ no_line_lem n

-- so many there is room for
module _ (filled until : ℕ) (sp ac : List ℤ) {m n : ℕ} (p : m ≡ min until (length sp)) (q : n ≡ min m (length ac)) where
  pub most-is : most_of filled until sp ac ≡ n - filled
  unfolding most_of least_of
  most-is = omega arith

  pub no_room : (lines : List (List ℕ)) → n ≤ filled → front_samples (most_of filled until sp ac) lines ≡ []
  no_room lines h = none-wanted _ _ (most-is ∙ omega arith)

  pub whole-block : {block : List ℕ} {e at : ℕ} {sp' ac' : List ℤ} {r : Stretch} → Cut block e → at < e
      → Reads (lines_at (take e block) at) filled (n - filled) sp ac sp' ac' r → Reads (lines_at block at) filled (most_of filled until sp ac) sp ac sp' ac' r
  whole-block {block} {e} {at} c h f =
      let l : lines_at (take e block) at ≡ lines_at block at = same_lines c at (omega arith) in
      rw (most-is, ← l) f
