-- A stretch of samples: what the lines at the front of an input say as long as each is a sample in range (RULES, 'Text' and 'Ranges').
use Rattle.std.specs.Prelude.{◌≡◌, ℕ, zero, suc, ◌+◌, ◌-◌, cond, ◌&&◌, List, [], ◌∷◌, length, take, drop, ℤ}
use Rattle.std.proofs.lemmas.List.Edits.{sets}
use Rattle.arithmetic.specs.Whole.{least_of}
use Rattle.vocabulary.specs.declared.sample.Sample.{Sample}
use Rattle.vocabulary.specs.Sample.{power_in_range}
use Rattle.lines.specs.Lines.{lines_of}
use Rattle.reading.specs.Line.{line_of}
use Rattle.reading.specs.declared.Line.{Line}
use Rattle.reading.specs.declared.Line.TheVariants as L
use Rattle.samples.specs.declared.Stretch.{Stretch}

-- a sample in range goes before those that follow it, any other line ends the stretch
abbrev pub on_sample : Line → List Sample → List Sample
on_sample (L.Sample s) more = cond (power_in_range s.setpoint && power_in_range s.actual) (s ∷ more) []
on_sample (L.Header h) more = []
on_sample (L.Bounds b) more = []
on_sample (L.Setpoint s) more = []
on_sample (L.Contract c) more = []
on_sample L.End more = []
on_sample L.Malformed more = []

-- the samples at the front of some lines, at most so many
unfoldable pub front_samples : ℕ → List (List ℕ) → List Sample
front_samples zero lines = []
front_samples (suc n) [] = []
front_samples (suc n) (line ∷ lines) = on_sample (line_of line) (front_samples n lines)

-- the bytes of some lines, each with its LF
unfoldable pub bytes_of : List (List ℕ) → ℕ
bytes_of [] = 0
bytes_of (line ∷ lines) = (length line + 1) + bytes_of lines

unfoldable pub setpoints_of : List Sample → List ℤ
setpoints_of [] = []
setpoints_of (s ∷ more) = s.setpoint ∷ setpoints_of more

unfoldable pub actuals_of : List Sample → List ℤ
actuals_of [] = []
actuals_of (s ∷ more) = s.actual ∷ actuals_of more

-- the complete lines from a place of a block on
abbrev pub lines_at : List ℕ → ℕ → List (List ℕ)
lines_at block at = lines_of (drop at block)

-- at most so many samples of some lines were read into arrays that held sp and ac, from place `filled` on, and now hold sp' and ac'
pub record Reads (lines : List (List ℕ)) (filled most : ℕ) (sp ac sp' ac' : List ℤ) (r : Stretch) : Type 0 where
  pub samples : r.samples ≡ length (front_samples most lines)
  pub bytes : r.bytes ≡ bytes_of (take (length (front_samples most lines)) lines)
  pub setpoints : sp' ≡ sets sp filled (setpoints_of (front_samples most lines))
  pub actuals : ac' ≡ sets ac filled (actuals_of (front_samples most lines))

-- so many are wanted, and so many there is room for
unfoldable pub most_of : ℕ → ℕ → List ℤ → List ℤ → ℕ
most_of filled until sp ac = least_of (least_of until (length sp)) (length ac) - filled

abbrev pub Ran : List ℕ → ℕ → ℕ → ℕ → List ℤ → List ℤ → List ℤ → List ℤ → Stretch → Type 0
Ran block at filled until sp ac = Reads (lines_at block at) filled (until - filled) sp ac

abbrev pub Stretched : List ℕ → ℕ → ℕ → ℕ → List ℤ → List ℤ → List ℤ → List ℤ → Stretch → Type 0
Stretched block at filled until sp ac = Reads (lines_at block at) filled (most_of filled until sp ac) sp ac
