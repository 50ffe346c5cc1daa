-- A block is read a line at a time.
-- Assumes nothing.
use Prim.Native.Nat.{ℕ, ◌+◌, ◌-◌, ◌≤◌, ◌<◌}
use mathlib.Core.Path.{◌≡◌, refl, sym, ap, subst, ◌∙◌}
use mathlib.Core.Bool.{Bool, true, false, cond}
use mathlib.Core.List.{List, [], ◌∷◌}
use native.Mathlib.Omega.{arith}
use native.Mathlib.Decide.{ℕ_discrete}
use native.Mathlib.Numerals.{one-add}
use lib.ListN.{length, take, drop, length-drop, drop_of_length-le}
use lib.Seq.{drop-drop}
use Rattle.fields.proofs.DigitLaws.{to_end}
use Rattle.lines.specs.Gathering.{fresh_of, longer_by, further, gathered_of}
use Rattle.lines.specs.Handing.{Progress, held_by, handed, after_bytes}
use Rattle.lines.specs.declared.Gatherer.{Gatherer}
use Rattle.lines.specs.declared.Gathered.{Gathered}
use Rattle.lines.proofs.Reading.{ends, goes_on_lem}
use Rattle.lines.proofs.Calls.{used_all, used-some, used-within, after-end, after-other}
use Rattle.checking.specs.Checker.{Standing, line_turn}
use Rattle.sharefeed.specs.Reader.{handled, feed_of, after_part, Moves}

module _ {S : Type 0} (handle : S → Gatherer → S) where
  -- what follows a call of `gather`: a complete line is handed out, and the rest of the block is read
  abbrev on : S → List ℕ → Gatherer → Bool → Progress S
  on s rest g complete = cond complete (after_bytes handle (handed handle s g) rest) (record { gatherer = g; state = s })

  abbrev on_part : S → List ℕ → Gathered → Progress S
  on_part s block r = on s (drop r.used block) r.gatherer r.complete

  -- a byte more was used
  one_further : (byte : ℕ) (bytes : List ℕ) (r : Gathered) (s : S) → on_part s bytes r ≡ on_part s (byte ∷ bytes) (further 1 r)
  one_further byte bytes r s = ap (λ (n : ℕ). on s (drop n (byte ∷ bytes)) r.gatherer r.complete) (sym (one-add r.used))

  pub by-line : (block : List ℕ) (g : Gatherer) (s : S)
      → after_bytes handle (record { gatherer = g; state = s }) block ≡ on_part s block (gathered_of g block)
  unfolding after_bytes gathered_of
  by-line [] g s = refl
  by-line (byte ∷ bytes) g s =
      elim (ℕ_discrete byte 10) [
        | yes lf ↦ after-end handle byte bytes (record { gatherer = g; state = s }) lf ∙ sym (ap (on_part s (byte ∷ bytes)) (ends g byte bytes lf))
        | no other ↦
            after-other handle byte bytes (record { gatherer = g; state = s }) other
            ∙ by-line bytes (longer_by g byte) s
            ∙ one_further byte bytes (gathered_of (longer_by g byte) bytes) s
            ∙ sym (ap (on_part s (byte ∷ bytes)) (goes_on_lem g byte bytes other))
      ]

-- after the last byte nothing changes
pub at-end : (g : Gatherer) (s : Standing) (rest : List ℕ) → rest ≡ [] → feed_of (record { gatherer = g; state = s }) rest ≡ record { gatherer = g; state = s }
unfolding after_bytes
at-end g s rest e = rw e

module _ (g : Gatherer) (s : Standing) (block : List ℕ) (at : ℕ) (part : Gathered) (h : at < length block)
    (gathered : part ≡ gathered_of g (take (length block - at) (drop at block))) where
  is-gathered : part ≡ gathered_of g (drop at block)
  is-gathered = gathered ∙ ap (gathered_of g) (to_end block at)

  left : length (drop at block) ≡ length block - at
  left = length-drop at block

  used-is : part.used ≡ (gathered_of g (drop at block)).used
  used-is = ap (λ (r : Gathered). r.used) is-gathered

  some-used : 0 < part.used
  some-used = omega (arith, left, used-is, used-some (drop at block) g (omega (arith, left)))

  used-in : at + part.used ≤ length block
  used-in = omega (arith, left, used-is, used-within (drop at block) g)

  read : feed_of (record { gatherer = g; state = s }) (drop at block) ≡ on_part handled s (drop at block) part
  read = by-line handled (drop at block) g s ∙ sym (ap (on_part handled s (drop at block)) is-gathered)

  -- no line was complete: the whole block was read
  rest-of-block : part.complete ≡ false → Moves (record { gatherer = g; state = s }) block at part.used (record { gatherer = part.gatherer; state = s })
  rest-of-block e =
      let u : part.used ≡ length (drop at block) = used-is ∙ used_all (drop at block) g (sym (ap (λ (r : Gathered). r.complete) is-gathered) ∙ e) in
      let w : length block ≤ at + part.used = omega (arith, left) in
      record {
        some = some-used;
        within = used-in;
        is = read
            ∙ ap (on handled s (drop part.used (drop at block)) part.gatherer) e
            ∙ sym (at-end part.gatherer s (drop (at + part.used) block) (drop_of_length-le block w));
      }

  -- the line at hand was complete, and the checker took it
  line-of-block : {next : Standing} {fresh : Gatherer} → part.complete ≡ true → fresh ≡ fresh_of part.gatherer → line_turn s part.gatherer.count (held_by part.gatherer) ≡ next
      → Moves (record { gatherer = g; state = s }) block at part.used (record { gatherer = fresh; state = next })
  line-of-block e f t =
      record {
        some = some-used;
        within = used-in;
        is = read
            ∙ ap (on handled s (drop part.used (drop at block)) part.gatherer) e
            ∙ rw (← f, t, drop-drop part.used at block);
      }

  -- either way
  part-as : (b : Bool) → part.complete ≡ b
      → Moves (record { gatherer = g; state = s }) block at part.used (cond b (handed handled s part.gatherer) (record { gatherer = part.gatherer; state = s }))
  part-as true e = line-of-block e refl refl
  part-as false e = rest-of-block e

  pub part-of-block : {next : Progress Standing} → after_part s part ≡ next → Moves (record { gatherer = g; state = s }) block at part.used next
  part-of-block e = subst (λ (p : Progress Standing). Moves (record { gatherer = g; state = s }) block at part.used p) e (part-as part.complete refl)
