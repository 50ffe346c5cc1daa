-- A stretch of samples at a time comes to the same as a line at a time.
use Rattle.std.proofs.Common.{◌≡◌, ℕ, suc, ◌+◌, ◌%◌, ◌^◌, ◌≤◌, Bool, false, List, [], ◌∷◌, ◌++◌, length, take, drop, sym, ap, ◌∙◌, add-zero, lt_of_not-le, one-add, arith, lt-ltb}
use native.Mathlib.Decide.{dec_le}
use lib.Seq.{drop-append-add}
use Rattle.vocabulary.specs.declared.sample.Sample.{Sample}
use Rattle.lines.specs.Gathering.{past_of}
use Rattle.lines.specs.Lines.{lines_of}
use Rattle.lines.specs.declared.Gatherer.{Gatherer}
use Rattle.lines.proofs.LineLaws.{written}
use Rattle.reading.specs.Line.{line_of}
use Rattle.reading.specs.declared.Line.TheVariants as L
use Rattle.samples.specs.Stretch.{front_samples, bytes_of}
use Rattle.samples.proofs.Meaning.{begins}
use Rattle.samples.proofs.Joined.{leads}
use Rattle.lines.specs.Turns.{Turn, quiet}
use Rattle.lines.specs.Feed.{Start, forth, feed_of, onward}
use Rattle.lines.proofs.FeedLaws.{past-start, past-past, forth-turn, whole-line}

-- a line that says a sample is not overlong
not-overlong : (line : List ℕ) (s : Sample) → line_of line ≡ L.Sample s → length line ≤ 80
unfolding line_of
not-overlong line s e =
    elim (dec_le (length line) 80) [
      | yes h ↦ h
      | no h ↦ absurd (let q : line_of line ≡ L.Malformed = rw (lt-ltb _ _ (lt_of_not-le h)) in let z : ◌≡◌ {A = ℕ} 0 1 = cc in (omega arith))
    ]

abbrev next : ℕ → ℕ
next c = (c + 1) % 2 ^ 64

module _ {D : Type 0} (turn : D → ℕ → List ℕ → Turn D) (closed : D → Bool) (sample : D → ℕ → Sample → Turn D)
    (says : (d : D) (n : ℕ) (line : List ℕ) (s : Sample) → closed d ≡ false → line_of line ≡ L.Sample s → turn d n line ≡ sample d n s) where
  -- samples, of which none but the last prints anything, make a turn; c lines came before
  pub data Quietly : D → ℕ → List Sample → Turn D → Type 0 where
    one : {d : D} {c : ℕ} {s : Sample} {t : Turn D} → closed d ≡ false → sample d (next c) s ≡ t → Quietly d c (s ∷ []) t
    more : {d d' : D} {c : ℕ} {s : Sample} {ss : List Sample} {t : Turn D} → closed d ≡ false → sample d (next c) s ≡ quiet d' → Quietly d' (next c) ss t → Quietly d c (s ∷ ss) t

  module _ (g : Gatherer) (d : D) (start : Start g) (o : closed d ≡ false) (n : ℕ) (t : List ℕ) (s : Sample) (ss : List Sample) (e : front_samples n (lines_of t) ≡ s ∷ ss) where
    record One : Type 0 where
      line : List ℕ
      rest : List ℕ
      left : ℕ
      lines : lines_of t ≡ line ∷ lines_of rest
      form : t ≡ line ++ (10 ∷ rest)
      fed : feed_of turn closed g d t ≡ onward turn closed (past_of 1 g) (sample d (next g.count) s) (length line + 1) rest
      then-samples : front_samples left (lines_of rest) ≡ ss

    one-sample : One
    one-sample =
        let b = begins n (lines_of t) s ss e in
        let f = leads (written t) b.line b.lines b.form in
        let w = says d (next g.count) b.line s o b.given.says in
        record {
          line = b.line;
          rest = f.rest;
          left = b.left;
          lines = b.form ∙ ap (λ (ls : List (List ℕ)). b.line ∷ ls) (sym f.then_lines);
          form = f.form;
          fed = ap (feed_of turn closed g d) f.form ∙ whole-line turn closed g d f.rest o start f.no-lf (not-overlong b.line s b.given.says)
              ∙ ap (λ (x : Turn D). onward turn closed (past_of 1 g) x (length b.line + 1) f.rest) w;
          then-samples = ap (front_samples b.left) f.then_lines ∙ b.more;
        }

  -- past a line
  drop-line : (line rest : List ℕ) (n : ℕ) → drop ((length line + 1) + n) (line ++ (10 ∷ rest)) ≡ drop n rest
  drop-line line rest n = let e : (length line + 1) + n ≡ length line + suc n = omega arith in ap (λ (k : ℕ). drop k (line ++ (10 ∷ rest))) e ∙ drop-append-add line (10 ∷ rest) (suc n)

  abbrev used : List ℕ → List Sample → ℕ
  used t ss = bytes_of (take (length ss) (lines_of t))

  used-more : (t line rest : List ℕ) (s : Sample) (ss : List Sample) → lines_of t ≡ line ∷ lines_of rest → used t (s ∷ ss) ≡ (length line + 1) + used rest ss
  unfolding bytes_of
  used-more t line rest s ss e = ap (λ (ls : List (List ℕ)). bytes_of (take (suc (length ss)) ls)) e

  drop_more : (t line rest : List ℕ) (s : Sample) (ss : List Sample) → lines_of t ≡ line ∷ lines_of rest → t ≡ line ++ (10 ∷ rest) → drop (used t (s ∷ ss)) t ≡ drop (used rest ss) rest
  drop_more t line rest s ss e f =
      ap (λ (k : ℕ). drop k t) (used-more t line rest s ss e) ∙ ap (drop ((length line + 1) + used rest ss)) f ∙ drop-line line rest (used rest ss)

  -- A STRETCH AT A TIME
  pub by-stretch : {ss : List Sample} {x : Turn D} (g : Gatherer) (d : D) (c : ℕ) (n : ℕ) (t : List ℕ) → Quietly d c ss x → Start g → g.count ≡ c → front_samples n (lines_of t) ≡ ss
      → feed_of turn closed g d t ≡ onward turn closed (past_of (length ss) g) x (used t ss) (drop (used t ss) t)
  unfolding bytes_of past_of
  by-stretch g d c n t (one {s = s} {t = x} o q) start e h =
      let f = one-sample g d start o n t s [] h in
      let w : sample d (next g.count) s ≡ x = ap (λ (k : ℕ). sample d (next k) s) e ∙ q in
      let u : length f.line + 1 ≡ used t (s ∷ []) = sym (used-more t f.line f.rest s [] f.lines ∙ add-zero (length f.line + 1)) in
      f.fed
      ∙ ap (λ (y : Turn D). onward turn closed (past_of 1 g) y (length f.line + 1) f.rest) w
      ∙ ap (λ (k : ℕ). onward turn closed (past_of 1 g) x k f.rest) u
      ∙ ap (λ (l : List ℕ). onward turn closed (past_of 1 g) x (used t (s ∷ [])) l) (sym (drop_more t f.line f.rest s [] f.lines f.form))
  by-stretch g d c n t (more {d' = d'} {s = s} {ss = ss} {t = x} o q r) start e h =
      let f = one-sample g d start o n t s ss h in
      let w : sample d (next g.count) s ≡ quiet d' = ap (λ (k : ℕ). sample d (next k) s) e ∙ q in
      let p : past_of (length ss) (past_of 1 g) ≡ past_of (suc (length ss)) g = past-past 1 (length ss) g ∙ ap (λ (k : ℕ). past_of k g) (one-add (length ss)) in
      f.fed
      ∙ ap (λ (y : Turn D). onward turn closed (past_of 1 g) y (length f.line + 1) f.rest) w
      ∙ ap (forth (length f.line + 1)) (by-stretch (past_of 1 g) d' (next c) f.left f.rest r (past-start 1 g) (ap next e) f.then-samples)
      ∙ forth-turn (length f.line + 1) (past_of (length ss) (past_of 1 g)) x (used f.rest ss) _
      ∙ ap (λ (y : Gatherer). onward turn closed y x ((length f.line + 1) + used f.rest ss) (drop (used f.rest ss) f.rest)) p
      ∙ ap (λ (k : ℕ). onward turn closed (past_of (suc (length ss)) g) x k (drop (used f.rest ss) f.rest)) (sym (used-more t f.line f.rest s ss f.lines))
      ∙ ap (λ (l : List ℕ). onward turn closed (past_of (suc (length ss)) g) x (used t (s ∷ ss)) l) (sym (drop_more t f.line f.rest s ss f.lines f.form))
