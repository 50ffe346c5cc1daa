-- THE PROMISES OF THIS CRATE: whatever a stretch reads, a reader of single lines would have read in the same way.
use Rattle.std.proofs.Common.{◌≡◌, ℕ, zero, suc, ◌+◌, ◌<◌, ◌≤◌, Bool, true, false, cond, ◌&&◌, List, [], ◌∷◌, ◌++◌, length, get_or, take, drop, sym, refl, ap, ◌∙◌, le_of_suc-le-suc, arith, length-append}
use lib.Seq.{drop-append-add, take-append-add, drop-nil}
use Rattle.vocabulary.specs.declared.sample.Sample.{Sample}
use Rattle.vocabulary.specs.Sample.{power_in_range}
use Rattle.lines.specs.Lines.{lines_of}
use Rattle.lines.proofs.LineLaws.{Written, last, ended, read_back, written}
use Rattle.reading.specs.Line.{line_of}
use Rattle.reading.specs.declared.Line.{Line}
use Rattle.reading.specs.declared.Line.TheVariants as L
use Rattle.samples.specs.Stretch.{on_sample, front_samples, bytes_of}

-- the bytes of some lines: each of them, and its LF
abbrev pub with_lf : List (List ℕ) → List ℕ
with_lf [] = []
with_lf (line ∷ lines) = line ++ (10 ∷ with_lf lines)

-- THE BYTES USED ARE THOSE OF THE LINES READ, AND THE OTHER LINES FOLLOW
used-bytes : (k : ℕ) {ls : List (List ℕ)} {t : List ℕ} → Written ls t → take (bytes_of (take k ls)) t ≡ with_lf (take k ls)
unfolding bytes_of
used-bytes zero w = refl
used-bytes (suc k) (last n) = refl
used-bytes (suc k) (ended {line} {lines} {input} n w) =
    let e : (length line + 1) + bytes_of (take k lines) ≡ length line + suc (bytes_of (take k lines)) = omega arith in
    ap (λ (b : ℕ). take b (line ++ (10 ∷ input))) e
    ∙ take-append-add line (10 ∷ input) (suc (bytes_of (take k lines)))
    ∙ ap (λ (l : List ℕ). line ++ (10 ∷ l)) (used-bytes k w)

pub lines-used : (k : ℕ) (t : List ℕ) → take (bytes_of (take k (lines_of t))) t ≡ with_lf (take k (lines_of t))
lines-used k t = used-bytes k (written t)

left-lines : (k : ℕ) {ls : List (List ℕ)} {t : List ℕ} → Written ls t → lines_of (drop (bytes_of (take k ls)) t) ≡ drop k ls
unfolding bytes_of
left-lines zero w = read_back w
left-lines (suc k) (last n) = read_back (last n)
left-lines (suc k) (ended {line} {lines} {input} n w) =
    let e : (length line + 1) + bytes_of (take k lines) ≡ length line + suc (bytes_of (take k lines)) = omega arith in
    ap (λ (b : ℕ). lines_of (drop b (line ++ (10 ∷ input)))) e ∙ ap lines_of (drop-append-add line (10 ∷ input) (suc (bytes_of (take k lines)))) ∙ left-lines k w

pub lines_left : (k : ℕ) (t : List ℕ) → lines_of (drop (bytes_of (take k (lines_of t))) t) ≡ drop k (lines_of t)
lines_left k t = left-lines k (written t)

-- they are within the bytes, and a line that was read has some
bytes-in : (k : ℕ) {ls : List (List ℕ)} {t : List ℕ} → Written ls t → bytes_of (take k ls) ≤ length t
unfolding bytes_of
bytes-in zero w = omega arith
bytes-in (suc k) (last n) = omega arith
bytes-in (suc k) (ended {line} {lines} {input} n w) = omega (arith, bytes-in k w, length-append line (10 ∷ input))

pub bytes-within : (k : ℕ) (t : List ℕ) → bytes_of (take k (lines_of t)) ≤ length t
bytes-within k t = bytes-in k (written t)

pub some_bytes : (ls : List (List ℕ)) (line : List ℕ) (lines : List (List ℕ)) (k : ℕ) → ls ≡ line ∷ lines → 0 < bytes_of (take (suc k) ls)
unfolding bytes_of
some_bytes ls line lines k e = rw e (omega arith)

-- no more are read than are wanted
one_at_most : (l : Line) (rest : List Sample) → length (on_sample l rest) ≤ suc (length rest)
one_at_most (L.Sample s) rest = by-range (power_in_range s.setpoint) (power_in_range s.actual)
  where
    by-range : (b c : Bool) → length (cond (b && c) (s ∷ rest) []) ≤ suc (length rest)
    by-range true true = omega arith
    by-range true false = omega arith
    by-range false c = omega arith
one_at_most (L.Header h) rest = omega arith
one_at_most (L.Bounds bounds) rest = omega arith
one_at_most (L.Setpoint setpoint) rest = omega arith
one_at_most (L.Contract c) rest = omega arith
one_at_most L.End rest = omega arith
one_at_most L.Malformed rest = omega arith

pub at_most : (n : ℕ) (lines : List (List ℕ)) → length (front_samples n lines) ≤ n
unfolding front_samples
at_most zero lines = omega arith
at_most (suc n) [] = omega arith
at_most (suc n) (line ∷ lines) = omega (arith, one_at_most (line_of line) (front_samples n lines), at_most n lines)

-- a line that goes into a stretch
pub record Given (l : Line) (s : Sample) : Type 0 where
  pub says : l ≡ L.Sample s
  pub setpoint : power_in_range s.setpoint ≡ true
  pub actual : power_in_range s.actual ≡ true

given-in : (s t : Sample) (ss more : List Sample) (b c : Bool) → power_in_range s.setpoint ≡ b → power_in_range s.actual ≡ c → cond (b && c) (s ∷ more) [] ≡ t ∷ ss
    → Given (L.Sample s) t × (ss ≡ more)
given-in s t ss more true true p q e =
    let k : s ≡ t = cc in
    (record { says = ap L.Sample k; setpoint = ap (λ (x : Sample). power_in_range x.setpoint) (sym k) ∙ p; actual = ap (λ (x : Sample). power_in_range x.actual) (sym k) ∙ q }, cc)
given-in s t ss more true false p q e = absurd (let z : ◌≡◌ {A = ℕ} 0 1 = cc in (omega arith))
given-in s t ss more false c p q e = absurd (let z : ◌≡◌ {A = ℕ} 0 1 = cc in (omega arith))

given : (l : Line) (more ss : List Sample) (t : Sample) → on_sample l more ≡ t ∷ ss → Given l t × (ss ≡ more)
given (L.Sample s) more ss t e = given-in s t ss more (power_in_range s.setpoint) (power_in_range s.actual) refl refl e
given (L.Header h) more ss t e = absurd (let z : ◌≡◌ {A = ℕ} 0 1 = cc in (omega arith))
given (L.Bounds bounds) more ss t e = absurd (let z : ◌≡◌ {A = ℕ} 0 1 = cc in (omega arith))
given (L.Setpoint setpoint) more ss t e = absurd (let z : ◌≡◌ {A = ℕ} 0 1 = cc in (omega arith))
given (L.Contract c) more ss t e = absurd (let z : ◌≡◌ {A = ℕ} 0 1 = cc in (omega arith))
given L.End more ss t e = absurd (let z : ◌≡◌ {A = ℕ} 0 1 = cc in (omega arith))
given L.Malformed more ss t e = absurd (let z : ◌≡◌ {A = ℕ} 0 1 = cc in (omega arith))

-- EACH SAMPLE READ IS WHAT ITS LINE SAYS, IN RANGE
pub each-said : (n : ℕ) (ls : List (List ℕ)) (ss : List Sample) → front_samples n ls ≡ ss → (k : ℕ) (d : Sample) → k < length ss → Given (line_of (get_or ls k [])) (get_or ss k d)
unfolding front_samples
each-said n ls [] e k d h = absurd (omega arith)
each-said zero ls (s ∷ ss) e k d h = absurd (let z : ◌≡◌ {A = ℕ} 0 1 = cc in (omega arith))
each-said (suc n) [] (s ∷ ss) e k d h = absurd (let z : ◌≡◌ {A = ℕ} 0 1 = cc in (omega arith))
each-said (suc n) (line ∷ ls) (s ∷ ss) e zero d h = (given (line_of line) (front_samples n ls) ss s e).0
each-said (suc n) (line ∷ ls) (s ∷ ss) e (suc k) d h = each-said n ls ss (sym (given (line_of line) (front_samples n ls) ss s e).1) k d (le_of_suc-le-suc h)

-- AND IT STOPS ONLY WHERE ENOUGH ARE READ, OR NO SAMPLE IN RANGE COMES NEXT
pub stops : (n : ℕ) (ls : List (List ℕ)) (ss : List Sample) → front_samples n ls ≡ ss → length ss < n → (m : ℕ) → front_samples m (drop (length ss) ls) ≡ []
unfolding front_samples
stops n ls ss e h zero = refl
stops zero ls ss e h (suc m) = absurd (omega arith)
stops (suc n) [] ss e h (suc m) = ap (front_samples (suc m)) (drop-nil (length ss))
stops (suc n) (line ∷ ls) [] e h (suc m) = nothing (line_of line) (front_samples n ls) (front_samples m ls) e
  where
    nothing-in : (s : Sample) (more other : List Sample) (b : Bool) → cond b (s ∷ more) [] ≡ [] → cond b (s ∷ other) [] ≡ []
    nothing-in s more other true e = absurd (let z : ◌≡◌ {A = ℕ} 0 1 = cc in (omega arith))
    nothing-in s more other false e = refl

    nothing : (l : Line) (more other : List Sample) → on_sample l more ≡ [] → on_sample l other ≡ []
    nothing (L.Sample s) more other e = nothing-in s more other (power_in_range s.setpoint && power_in_range s.actual) e
    nothing (L.Header h) more other e = refl
    nothing (L.Bounds bounds) more other e = refl
    nothing (L.Setpoint setpoint) more other e = refl
    nothing (L.Contract c) more other e = refl
    nothing L.End more other e = refl
    nothing L.Malformed more other e = refl
stops (suc n) (line ∷ ls) (s ∷ ss) e h (suc m) = stops n ls ss (sym (given (line_of line) (front_samples n ls) ss s e).1) (le_of_suc-le-suc h) (suc m)

-- the first sample of a stretch: its line, and the stretch that follows
pub record Begins (n : ℕ) (ls : List (List ℕ)) (s : Sample) (ss : List Sample) : Type 0 where
  pub line : List ℕ
  pub lines : List (List ℕ)
  pub left : ℕ
  pub form : ls ≡ line ∷ lines
  pub given : Given (line_of line) s
  pub more : front_samples left lines ≡ ss

pub begins : (n : ℕ) (ls : List (List ℕ)) (s : Sample) (ss : List Sample) → front_samples n ls ≡ s ∷ ss → Begins n ls s ss
unfolding front_samples
begins zero ls s ss e = absurd (let z : ◌≡◌ {A = ℕ} 0 1 = cc in (omega arith))
begins (suc n) [] s ss e = absurd (let z : ◌≡◌ {A = ℕ} 0 1 = cc in (omega arith))
begins (suc n) (line ∷ ls) s ss e =
    let g = given (line_of line) (front_samples n ls) ss s e in
    record { line = line; lines = ls; left = n; form = refl; given = g.0; more = sym g.1 }
