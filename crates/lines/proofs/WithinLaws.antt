-- A block for a desk that prints for most of its lines: a line at a time; and it goes on where it stopped, with what it printed before what follows.
-- Assumes nothing.
use Rattle.std.proofs.Common.{◌≡◌, ℕ, ◌+◌, ◌-◌, ◌%◌, ◌^◌, ◌<◌, ◌≤◌, Bool, true, false, cond, List, [], ◌∷◌, ◌++◌, length, drop, replicate, sym, refl, ap, ◌∙◌, subst, ⊎_elim, append_assoc, one-add, arith, eq-eqb, ne_eqb}
use native.Mathlib.Decide.{ℕ_discrete}
use Rattle.lines.specs.Gathering.{fresh_of, past_of, longer_by, completed, further, gathered_of}
use Rattle.lines.specs.Handing.{held_by, after_bytes}
use Rattle.lines.specs.declared.Gatherer.{Gatherer}
use Rattle.lines.specs.declared.Gathered.{Gathered}
use Rattle.lines.specs.Turns.{Turn}
use Rattle.lines.specs.Feed.{Start, Outcome, stay, forth, line_at}
use Rattle.lines.specs.Within.{and_then, rests, feed_within}
use Rattle.lines.proofs.Reading.{ends, goes_on_lem}
use Rattle.lines.proofs.Calls.{after-end, after-other}
use Rattle.lines.proofs.Held.{kept_whole}
use Rattle.lines.proofs.LineLaws.{NoLf}
use Rattle.lines.proofs.FeedLaws.{a-line, start-holds, past-line}
use Rattle.lines.proofs.FeedMeaning.{told, handle_by, at, Goes, stays, one_byte, as-outcome}

-- further on to a turn
forth-then : {D : Type 0} (m : ℕ) (text : List ℕ) (n : ℕ) (o : Outcome D) → forth m (and_then text n o) ≡ and_then text (m + n) o
forth-then m text n o = λ i. record { gatherer = o.gatherer; desk = o.desk; used = sums i; text = text ++ o.text }
  where
    sums : m + (n + o.used) ≡ m + n + o.used
    sums = omega arith

module _ {D : Type 0} (turn : D → ℕ → List ℕ → Turn D) (closed : D → Bool) (most : ℕ) where
  abbrev fed : ℕ → Gatherer → D → List ℕ → Outcome D
  fed = feed_within turn closed most

  -- the turn of a complete line, and what follows it
  abbrev pub line_then : ℕ → D → Gatherer → ℕ → List ℕ → Outcome D
  line_then room d g n rest =
      and_then (line_at turn d g).text n (fed (room - length (line_at turn d g).text) (fresh_of g) (line_at turn d g).desk rest)

  module _ (room : ℕ) (g : Gatherer) (d : D) (o : rests turn closed most d room ≡ false) where
    at-lf : (byte : ℕ) (bytes : List ℕ) → byte ≡ 10 → fed room g d (byte ∷ bytes) ≡ line_then room d (completed g) 1 bytes
    unfolding feed_within
    at-lf byte bytes e = rw (o, eq-eqb byte 10 e)

    at_other : (byte : ℕ) (bytes : List ℕ) → (byte ≡ 10 → ⊥) → fed room g d (byte ∷ bytes) ≡ forth 1 (fed room (longer_by g byte) d bytes)
    unfolding feed_within
    at_other byte bytes e = rw (o, ne_eqb byte 10 e)

  -- nothing is read
  pub rests-there : (room : ℕ) (g : Gatherer) (d : D) (block : List ℕ) → rests turn closed most d room ≡ true → fed room g d block ≡ stay g d
  unfolding feed_within
  rests-there room g d [] e = refl
  rests-there room g d (x ∷ xs) e = rw e

  pub none_left : (room : ℕ) (g : Gatherer) (d : D) (block : List ℕ) → block ≡ [] → fed room g d block ≡ stay g d
  unfolding feed_within
  none_left room g d block e = rw e

  -- what follows n bytes that were gathered: a complete line makes its turn
  abbrev gathered : ℕ → D → Gatherer → ℕ → List ℕ → Bool → Outcome D
  gathered room d g n rest complete = cond complete (line_then room d g n rest) (record { gatherer = g; desk = d; used = n; text = [] })

  -- what follows a call of `gather`
  abbrev pub on_gathered : ℕ → D → List ℕ → Gathered → Outcome D
  on_gathered room d block r = gathered room d r.gatherer r.used (drop r.used block) r.complete

  one_further : (room : ℕ) (d : D) (byte : ℕ) (bytes : List ℕ) (r : Gathered) → forth 1 (on_gathered room d bytes r) ≡ on_gathered room d (byte ∷ bytes) (further 1 r)
  one_further room d byte bytes r = by_end r.complete
    where
      by_end : (b : Bool) → forth 1 (gathered room d r.gatherer r.used (drop r.used bytes) b)
          ≡ gathered room d r.gatherer (1 + r.used) (drop (1 + r.used) (byte ∷ bytes)) b
      by_end true = forth-then 1 (line_at turn d r.gatherer).text r.used _ ∙ rw (one-add r.used)
      by_end false = refl

  -- A LINE AT A TIME
  pub by-line : (block : List ℕ) (room : ℕ) (g : Gatherer) (d : D) → rests turn closed most d room ≡ false → fed room g d block ≡ on_gathered room d block (gathered_of g block)
  unfolding feed_within gathered_of
  by-line [] room g d o = refl
  by-line (byte ∷ bytes) room g d o =
      elim (ℕ_discrete byte 10) [
        | yes lf ↦ at-lf room g d o byte bytes lf ∙ ap (on_gathered room d (byte ∷ bytes)) (sym (ends g byte bytes lf))
        | no other ↦
            at_other room g d o byte bytes other
            ∙ ap (forth 1) (by-line bytes room (longer_by g byte) d o)
            ∙ one_further room d byte bytes (gathered_of (longer_by g byte) bytes)
            ∙ ap (on_gathered room d (byte ∷ bytes)) (sym (goes_on_lem g byte bytes other))
      ]

  -- ONE LINE OF AT MOST 80 BYTES, FROM ITS START
  abbrev turn_from : D → Gatherer → List ℕ → Turn D
  turn_from d g line = turn d ((g.count + 1) % 2 ^ 64) line

  pub whole-line : {line : List ℕ} (room : ℕ) (g : Gatherer) (d : D) (rest : List ℕ) → rests turn closed most d room ≡ false → Start g → NoLf line → length line ≤ 80
      → fed room g d (line ++ (10 ∷ rest))
      ≡ and_then (turn_from d g line).text (length line + 1) (fed (room - length (turn_from d g line).text) (past_of 1 g) (turn_from d g line).desk rest)
  unfolding completed fresh_of past_of
  whole-line {line} room g d rest o s n few =
      let q = a-line g [] rest (start-holds s) n in
      let h : held_by q.at-hand ≡ line = q.holds.held ∙ kept_whole line (omega arith) in
      by-line (line ++ (10 ∷ rest)) room g d o
      ∙ ap (on_gathered room d (line ++ (10 ∷ rest))) q.gathered
      ∙ ap (λ (c : ℕ). then c (held_by q.at-hand) (drop (length line + 1) (line ++ (10 ∷ rest)))) q.count
      ∙ rw (h, past-line line rest)
    where
      at_count : ℕ → Gatherer
      at_count c = record { bytes = replicate 81 0; length = 0; count = (c + 1) % 2 ^ 64 }

      then : ℕ → List ℕ → List ℕ → Outcome D
      then c held left =
          let t = turn d ((c + 1) % 2 ^ 64) held in
          and_then t.text (length line + 1) (fed (room - length t.text) (at_count c) t.desk left)

  -- WHAT FOLLOWS THE BLOCK CHANGES NOTHING, AND IS READ FROM WHERE THE FEEDING STOPPED
  pub goes-on-within : (block rest : List ℕ) (room : ℕ) (g : Gatherer) (d : D) (so : List ℕ) → Goes turn closed g d so block rest (fed room g d block)
  unfolding feed_within
  goes-on-within [] rest room g d so = stays turn closed g d so [] rest
  goes-on-within (byte ∷ bytes) rest room g d so =
      ⊎_elim
      (λ e. as-outcome turn closed g d so (byte ∷ bytes) rest (rests-there room g d (byte ∷ bytes) e) (stays turn closed g d so (byte ∷ bytes) rest))
      (λ o. elim (ℕ_discrete byte 10) [
        | yes lf ↦
            let t : Turn D = line_at turn d (completed g) in
            let next : Outcome D = fed (room - length t.text) (fresh_of (completed g)) t.desk bytes in
            as-outcome turn closed g d so (byte ∷ bytes) rest (at-lf room g d o byte bytes lf)
            (after-end (handle_by turn) byte (bytes ++ rest) (at g d so) lf
            ∙ goes-on-within bytes rest (room - length t.text) (fresh_of (completed g)) t.desk (so ++ t.text)
            ∙ ap (λ (l : List ℕ). after_bytes (handle_by turn) (at next.gatherer next.desk l) (drop next.used bytes ++ rest)) (append_assoc so t.text next.text)
            ∙ one_byte turn closed so byte bytes rest (record { gatherer = next.gatherer; desk = next.desk; used = next.used; text = t.text ++ next.text }))
        | no other ↦
            as-outcome turn closed g d so (byte ∷ bytes) rest (at_other room g d o byte bytes other)
            (after-other (handle_by turn) byte (bytes ++ rest) (at g d so) other
            ∙ goes-on-within bytes rest room (longer_by g byte) d so
            ∙ one_byte turn closed so byte bytes rest (fed room (longer_by g byte) d bytes))
      ])
      (told (rests turn closed most d room))

  -- how many bytes a feeding uses: some where it reads and there are any, and no more than there are
  pub used-some : (block : List ℕ) (room : ℕ) (g : Gatherer) (d : D) → rests turn closed most d room ≡ false → 0 < length block → 0 < (fed room g d block).used
  used-some [] room g d o h = absurd (omega arith)
  used-some (byte ∷ bytes) room g d o h =
      elim (ℕ_discrete byte 10) [
        | yes lf ↦ subst (λ (x : Outcome D). 0 < x.used) (sym (at-lf room g d o byte bytes lf)) (omega arith)
        | no other ↦ subst (λ (x : Outcome D). 0 < x.used) (sym (at_other room g d o byte bytes other)) (omega arith)
      ]

  pub used-within : (block : List ℕ) (room : ℕ) (g : Gatherer) (d : D) → (fed room g d block).used ≤ length block
  unfolding feed_within
  used-within [] room g d = omega arith
  used-within (byte ∷ bytes) room g d =
      ⊎_elim
      (λ e. subst (λ (x : Outcome D). x.used ≤ length (byte ∷ bytes)) (sym (rests-there room g d (byte ∷ bytes) e)) (omega arith))
      (λ o. elim (ℕ_discrete byte 10) [
        | yes lf ↦
            let t : Turn D = line_at turn d (completed g) in
            subst (λ (x : Outcome D). x.used ≤ length (byte ∷ bytes)) (sym (at-lf room g d o byte bytes lf))
            (omega (arith, used-within bytes (room - length t.text) (fresh_of (completed g)) t.desk))
        | no other ↦
            subst (λ (x : Outcome D). x.used ≤ length (byte ∷ bytes)) (sym (at_other room g d o byte bytes other)) (omega (arith, used-within bytes room (longer_by g byte) d))
      ])
      (told (rests turn closed most d room))
