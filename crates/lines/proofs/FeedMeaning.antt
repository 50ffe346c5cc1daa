-- THE PROMISES OF A FEEDING, for a desk of any kind: it goes on where it stopped, with what it printed before what follows; and it stops only at the
-- block's end, after something was printed, or at a closed desk.
use Rattle.std.proofs.Common.{◌≡◌, ℕ, suc, ◌+◌, ◌<◌, Bool, true, false, cond, ◌⊎◌, List, [], ◌∷◌, ◌++◌, length, drop, sym, refl, ap, ◌∙◌, subst, inl, inr, ⊎_elim, append-nil, one-add, arith}
use native.Mathlib.Decide.{ℕ_discrete}
use Rattle.lines.specs.Gathering.{fresh_of, longer_by, completed}
use Rattle.lines.specs.Handing.{Progress, after_bytes}
use Rattle.lines.specs.declared.Gatherer.{Gatherer}
use Rattle.lines.proofs.Calls.{after-end, after-other}
use Rattle.lines.specs.Turns.{Turn}
use Rattle.lines.specs.Feed.{Outcome, stay, forth, is_none, line_at, feed_of}
use Rattle.lines.proofs.FeedLaws.{at-lf, at_other, closed-stays}

-- a test is true or false
pub told : (b : Bool) → (b ≡ true) ⊎ (b ≡ false)
told true = inl refl
told false = inr refl

-- a line, handed to a desk after what was printed before: its text comes after that
abbrev pub handle_by : {D : Type 0} → (D → ℕ → List ℕ → Turn D) → Turn D → Gatherer → Turn D
handle_by turn so g = record { desk = (line_at turn so.desk g).desk; text = so.text ++ (line_at turn so.desk g).text }

-- where a reading stands
abbrev pub at : {D : Type 0} → Gatherer → D → List ℕ → Progress (Turn D)
at g d so = record { gatherer = g; state = record { desk = d; text = so } }

module _ {D : Type 0} (turn : D → ℕ → List ℕ → Turn D) (closed : D → Bool) where
  abbrev handle : Turn D → Gatherer → Turn D
  handle = handle_by turn

  -- what is to be shown of an outcome
  abbrev pub Goes : Gatherer → D → List ℕ → List ℕ → List ℕ → Outcome D → Type 0
  Goes g d so block rest o = after_bytes handle (at g d so) (block ++ rest) ≡ after_bytes handle (at o.gatherer o.desk (so ++ o.text)) (drop o.used block ++ rest)

  pub stays : (g : Gatherer) (d : D) (so block rest : List ℕ) → Goes g d so block rest (stay g d)
  stays g d so block rest = ap (λ (l : List ℕ). after_bytes handle (at g d l) (block ++ rest)) (sym (append-nil so))

  -- a byte more was used
  pub one_byte : (so : List ℕ) (byte : ℕ) (bytes rest : List ℕ) (o : Outcome D)
      → after_bytes handle (at o.gatherer o.desk (so ++ o.text)) (drop o.used bytes ++ rest)
      ≡ after_bytes handle (at o.gatherer o.desk (so ++ o.text)) (drop (1 + o.used) (byte ∷ bytes) ++ rest)
  one_byte so byte bytes rest o = ap (λ (n : ℕ). after_bytes handle (at o.gatherer o.desk (so ++ o.text)) (drop n (byte ∷ bytes) ++ rest)) (sym (one-add o.used))

  on_line_lem : (g : Gatherer) (d : D) (so bytes rest : List ℕ) (byte : ℕ) (t : Turn D) (next : Outcome D) (text : List ℕ) → t.text ≡ text
      → after_bytes handle (at g d so) ((byte ∷ bytes) ++ rest) ≡ after_bytes handle (at (fresh_of (completed g)) t.desk (so ++ text)) (bytes ++ rest)
      → Goes (fresh_of (completed g)) t.desk so bytes rest next
      → Goes g d so (byte ∷ bytes) rest (cond (is_none text) (forth 1 next) (record { gatherer = fresh_of (completed g); desk = t.desk; used = 1; text = text }))
  on_line_lem g d so bytes rest byte t next [] e p q =
      p ∙ ap (λ (l : List ℕ). after_bytes handle (at (fresh_of (completed g)) t.desk l) (bytes ++ rest)) (append-nil so)
      ∙ q
      ∙ one_byte so byte bytes rest next
  on_line_lem g d so bytes rest byte t next (x ∷ xs) e p q = p

  pub as-outcome : (g : Gatherer) (d : D) (so block rest : List ℕ) {o o' : Outcome D} → o ≡ o' → Goes g d so block rest o' → Goes g d so block rest o
  as-outcome g d so block rest e q = subst (λ (o : Outcome D). Goes g d so block rest o) (sym e) q

  -- WHAT FOLLOWS THE BLOCK CHANGES NOTHING, AND IS READ FROM WHERE THE FEEDING STOPPED
  pub goes-on-after : (block rest : List ℕ) (g : Gatherer) (d : D) (so : List ℕ) → Goes g d so block rest (feed_of turn closed g d block)
  unfolding feed_of
  goes-on-after [] rest g d so = stays g d so [] rest
  goes-on-after (byte ∷ bytes) rest g d so =
      ⊎_elim
      (λ e. as-outcome g d so (byte ∷ bytes) rest (closed-stays turn closed g d (byte ∷ bytes) e) (stays g d so (byte ∷ bytes) rest))
      (λ o. elim (ℕ_discrete byte 10) [
        | yes lf ↦
            as-outcome g d so (byte ∷ bytes) rest (at-lf turn closed g d o byte bytes lf)
            (on_line_lem g d so bytes rest byte (line_at turn d (completed g)) _ (line_at turn d (completed g)).text refl
            (after-end handle byte (bytes ++ rest) (at g d so) lf)
            (goes-on-after bytes rest (fresh_of (completed g)) (line_at turn d (completed g)).desk so))
        | no other ↦
            as-outcome g d so (byte ∷ bytes) rest (at_other turn closed g d o byte bytes other)
            (after-other handle byte (bytes ++ rest) (at g d so) other
            ∙ goes-on-after bytes rest (longer_by g byte) d so
            ∙ one_byte so byte bytes rest (feed_of turn closed (longer_by g byte) d bytes))
      ])
      (told (closed d))

  -- why a feeding stopped
  pub data Stopped (block : List ℕ) (o : Outcome D) : Type 0 where
    ended : o.used ≡ length block → Stopped block o
    printed : 0 < length o.text → Stopped block o
    shut : closed o.desk ≡ true → Stopped block o

  one_further : (byte : ℕ) (bytes : List ℕ) (o : Outcome D) → Stopped bytes o → Stopped (byte ∷ bytes) (forth 1 o)
  one_further byte bytes o (ended e) = ended (one-add o.used ∙ ap suc e)
  one_further byte bytes o (printed h) = printed h
  one_further byte bytes o (shut e) = shut e

  on-turn : (byte : ℕ) (bytes : List ℕ) (g : Gatherer) (t : Turn D) (next : Outcome D) (text : List ℕ) → Stopped bytes next
      → Stopped (byte ∷ bytes) (cond (is_none text) (forth 1 next) (record { gatherer = g; desk = t.desk; used = 1; text = text }))
  on-turn byte bytes g t next [] s = one_further byte bytes next s
  on-turn byte bytes g t next (x ∷ xs) s = printed (omega arith)

  -- IT STOPS ONLY ON THESE GROUNDS
  pub stopped : (block : List ℕ) (g : Gatherer) (d : D) → Stopped block (feed_of turn closed g d block)
  unfolding feed_of
  stopped [] g d = ended refl
  stopped (byte ∷ bytes) g d =
      ⊎_elim
      (λ e. subst (Stopped (byte ∷ bytes)) (sym (closed-stays turn closed g d (byte ∷ bytes) e)) (shut e))
      (λ o. elim (ℕ_discrete byte 10) [
        | yes lf ↦
            subst (Stopped (byte ∷ bytes)) (sym (at-lf turn closed g d o byte bytes lf))
            (on-turn byte bytes (fresh_of (completed g)) (line_at turn d (completed g)) _ (line_at turn d (completed g)).text
            (stopped bytes (fresh_of (completed g)) (line_at turn d (completed g)).desk))
        | no other ↦
            subst (Stopped (byte ∷ bytes)) (sym (at_other turn closed g d o byte bytes other)) (one_further byte bytes _ (stopped bytes (longer_by g byte) d))
      ])
      (told (closed d))
