-- A block for a desk of any kind: a line at a time, and a stretch of samples at a time.
use Rattle.std.proofs.Common.{◌≡◌, ℕ, suc, ◌+◌, ◌%◌, ◌^◌, ◌≤◌, Bool, true, false, cond, List, [], ◌∷◌, ◌++◌, length, take, drop, replicate, sym, refl, ap, ◌∙◌, subst, append_assoc, append-nil, one-add, arith, eq-eqb, ne_eqb, eqb-true}
use native.Mathlib.Decide.{ℕ_discrete}
use native.Mathlib.Nat.{mod-add-mod}
use lib.Seq.{drop-append-add}
use Rattle.lines.specs.Lines.{kept_of}
use Rattle.lines.specs.Handing.{held_by}
use Rattle.lines.proofs.Held.{Holds, longer-holds, same_count, kept_whole}
use Rattle.lines.proofs.LineLaws.{NoLf, none, another}
use Rattle.lines.specs.Gathering.{Starts, fresh_of, past_of, longer_by, completed, further, gathered_of}
use Rattle.lines.specs.declared.Gatherer.{Gatherer}
use Rattle.lines.specs.declared.Gathered.{Gathered}
use Rattle.lines.proofs.Reading.{ends, goes_on_lem}
use Rattle.lines.specs.Turns.{Turn}
use Rattle.lines.specs.Feed.{Start, Outcome, stay, forth, is_none, on_turn, line_at, feed_of, onward}

-- further on, and further on again
pub forth-forth : {D : Type 0} (m n : ℕ) (o : Outcome D) → forth m (forth n o) ≡ forth (m + n) o
forth-forth m n o = λ i. record { gatherer = o.gatherer; desk = o.desk; used = sums i; text = o.text }
  where
    sums : m + (n + o.used) ≡ m + n + o.used
    sums = omega arith

pub forth-none : {D : Type 0} (o : Outcome D) → o ≡ forth 0 o
forth-none o = λ i. record { gatherer = o.gatherer; desk = o.desk; used = sums i; text = o.text }
  where
    sums : o.used ≡ 0 + o.used
    sums = omega arith

pub forth-turn : {D : Type 0} (m : ℕ) (g : Gatherer) (t : Turn D) (n : ℕ) (next : Outcome D) → forth m (on_turn g t n next) ≡ on_turn g t (m + n) next
forth-turn m g t n next = by-text t.text
  where
    by-text : (text : List ℕ) → forth m (cond (is_none text) (forth n next) (record { gatherer = g; desk = t.desk; used = n; text = text }))
        ≡ cond (is_none text) (forth (m + n) next) (record { gatherer = g; desk = t.desk; used = m + n; text = text })
    by-text [] = forth-forth m n next
    by-text (x ∷ xs) = refl

module _ {D : Type 0} (turn : D → ℕ → List ℕ → Turn D) (closed : D → Bool) where
  module _ (g : Gatherer) (d : D) (o : closed d ≡ false) where
    pub at-lf : (byte : ℕ) (bytes : List ℕ) → byte ≡ 10
        → feed_of turn closed g d (byte ∷ bytes) ≡ onward turn closed (fresh_of (completed g)) (line_at turn d (completed g)) 1 bytes
    unfolding feed_of
    at-lf byte bytes e = rw (o, eq-eqb byte 10 e)

    pub at_other : (byte : ℕ) (bytes : List ℕ) → (byte ≡ 10 → ⊥) → feed_of turn closed g d (byte ∷ bytes) ≡ forth 1 (feed_of turn closed (longer_by g byte) d bytes)
    unfolding feed_of
    at_other byte bytes e = rw (o, ne_eqb byte 10 e)

  pub closed-stays : (g : Gatherer) (d : D) (t : List ℕ) → closed d ≡ true → feed_of turn closed g d t ≡ stay g d
  unfolding feed_of
  closed-stays g d [] e = refl
  closed-stays g d (x ∷ xs) e = rw e

  -- what follows n bytes that were gathered: a complete line makes its turn
  abbrev gathered : D → Gatherer → ℕ → List ℕ → Bool → Outcome D
  gathered d g n rest complete =
      cond complete (onward turn closed (fresh_of g) (line_at turn d g) n rest) (record { gatherer = g; desk = d; used = n; text = [] })

  -- what follows a call of `gather`
  abbrev pub on_gathered : D → List ℕ → Gathered → Outcome D
  on_gathered d block r = gathered d r.gatherer r.used (drop r.used block) r.complete

  one_further : (d : D) (byte : ℕ) (bytes : List ℕ) (r : Gathered) → forth 1 (on_gathered d bytes r) ≡ on_gathered d (byte ∷ bytes) (further 1 r)
  one_further d byte bytes r = by_end r.complete
    where
      by_end : (b : Bool) → forth 1 (gathered d r.gatherer r.used (drop r.used bytes) b) ≡ gathered d r.gatherer (1 + r.used) (drop (1 + r.used) (byte ∷ bytes)) b
      by_end true = forth-turn 1 (fresh_of r.gatherer) (line_at turn d r.gatherer) r.used _ ∙ rw (one-add r.used)
      by_end false = refl

  -- A LINE AT A TIME
  pub by-line : (block : List ℕ) (g : Gatherer) (d : D) → closed d ≡ false → feed_of turn closed g d block ≡ on_gathered d block (gathered_of g block)
  unfolding feed_of gathered_of
  by-line [] g d o = refl
  by-line (byte ∷ bytes) g d o =
      elim (ℕ_discrete byte 10) [
        | yes lf ↦ at-lf g d o byte bytes lf ∙ ap (on_gathered d (byte ∷ bytes)) (sym (ends g byte bytes lf))
        | no other ↦
            at_other g d o byte bytes other
            ∙ ap (forth 1) (by-line bytes (longer_by g byte) d o)
            ∙ one_further d byte bytes (gathered_of (longer_by g byte) bytes)
            ∙ ap (on_gathered d (byte ∷ bytes)) (sym (goes_on_lem g byte bytes other))
      ]

-- a line that is gathered from its start
pub record Line (g : Gatherer) (begun line rest : List ℕ) : Type 0 where
  pub at-hand : Gatherer
  pub gathered : gathered_of g (line ++ (10 ∷ rest)) ≡ record { gatherer = completed at-hand; used = length line + 1; complete = true }
  pub holds : Holds at-hand (begun ++ line)
  pub count : at-hand.count ≡ g.count

pub a-line : (g : Gatherer) (begun : List ℕ) {line : List ℕ} (rest : List ℕ) → Holds g begun → NoLf line → Line g begun line rest
a-line g begun rest h none =
    record {
      at-hand = g;
      gathered = ends g 10 rest refl;
      holds = subst (Holds g) (sym (append-nil begun)) h;
      count = refl;
    }
a-line g begun rest h (another {byte} {bytes} n r) =
    let q = a-line (longer_by g byte) (begun ++ (byte ∷ [])) rest (longer-holds byte h) r in
    record {
      at-hand = q.at-hand;
      gathered = goes_on_lem g byte (bytes ++ (10 ∷ rest)) n ∙ ap (further 1) q.gathered ∙ one_more q.at-hand (length bytes);
      holds = subst (Holds q.at-hand) (append_assoc begun (byte ∷ []) bytes) q.holds;
      count = q.count ∙ same_count g byte;
    }
  where
    one_more : (g : Gatherer) (n : ℕ)
        → ◌≡◌ {A = Gathered} (record { gatherer = completed g; used = 1 + (n + 1); complete = true }) (record { gatherer = completed g; used = suc n + 1; complete = true })
    one_more g n = let e : 1 + (n + 1) ≡ suc n + 1 = omega arith in rw e

-- where a line starts
pub start_of : {g : Gatherer} {r : Bool} → Starts g r → r ≡ true → Start g
start_of {g} s e = record { room = s.room; nothing = eqb-true g.length 0 (sym s.is ∙ e) }

pub start-holds : {g : Gatherer} → Start g → Holds g []
unfolding kept_of
start-holds {g} s = record { room = s.room; size = s.nothing; held = ap (λ (n : ℕ). take n g.bytes) s.nothing }

-- past a line and its LF
pub past-line : (line rest : List ℕ) → drop (length line + 1) (line ++ (10 ∷ rest)) ≡ rest
past-line line rest = let e : length line + 1 ≡ length line + suc 0 = omega arith in ap (λ (k : ℕ). drop k (line ++ (10 ∷ rest))) e ∙ drop-append-add line (10 ∷ rest) 1

pub past-start : (n : ℕ) (g : Gatherer) → Start (past_of n g)
unfolding past_of
past-start n g = record { room = refl; nothing = refl }

pub past-past : (m n : ℕ) (g : Gatherer) → past_of n (past_of m g) ≡ past_of (m + n) g
unfolding past_of
past-past m n g = λ i. record { bytes = replicate 81 0; length = 0; count = sums i }
  where
    sums : ((g.count + m) % 2 ^ 64 + n) % 2 ^ 64 ≡ (g.count + (m + n)) % 2 ^ 64
    sums = mod-add-mod (g.count + m) (2 ^ 64) n ∙ (let e : g.count + m + n ≡ g.count + (m + n) = omega arith in ap (λ (k : ℕ). k % 2 ^ 64) e)

module _ {D : Type 0} (turn : D → ℕ → List ℕ → Turn D) (closed : D → Bool) where
  -- ONE LINE OF AT MOST 80 BYTES, FROM ITS START
  pub whole-line : {line : List ℕ} (g : Gatherer) (d : D) (rest : List ℕ) → closed d ≡ false → Start g → NoLf line → length line ≤ 80
      → feed_of turn closed g d (line ++ (10 ∷ rest)) ≡ onward turn closed (past_of 1 g) (turn d ((g.count + 1) % 2 ^ 64) line) (length line + 1) rest
  unfolding completed fresh_of past_of
  whole-line {line} g d rest o s n few =
      let q = a-line g [] rest (start-holds s) n in
      let h : held_by q.at-hand ≡ line = q.holds.held ∙ kept_whole line (omega arith) in
      by-line turn closed (line ++ (10 ∷ rest)) g d o
      ∙ ap (on_gathered turn closed d (line ++ (10 ∷ rest))) q.gathered
      ∙ ap (λ (c : ℕ). onward turn closed (at c) (turn d ((c + 1) % 2 ^ 64) (held_by q.at-hand)) (length line + 1) (drop (length line + 1) (line ++ (10 ∷ rest)))) q.count
      ∙ rw (h, past-line line rest)
    where
      at : ℕ → Gatherer
      at c = record { bytes = replicate 81 0; length = 0; count = (c + 1) % 2 ^ 64 }
