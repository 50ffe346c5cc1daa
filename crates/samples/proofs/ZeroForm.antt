-- The number 0: it stands alone.
use Rattle.std.specs.Prelude.{Some, None}
use Rattle.std.proofs.Common.{◌≡◌, ℕ, ◌+◌, ◌<◌, true, false, List, ◌∷◌, length, get_or, sym, refl, ap, ◌∙◌, add-zero, arith, lt_of_not-le}
use native.Mathlib.Decide.{dec_le}
use Rattle.fields.specs.Numbers.{is_digit}
use Rattle.samples.specs.Scan.{Ended, Counted, Unsigned}
use Rattle.samples.proofs.DigitScan.{digit, below-digits, above-digits, none_yet, one_more, stopped}
use Rattle.samples.proofs.UnsignedForm.{plain_of, at_first_lem, no_digit, in-form}
use Rattle.samples.proofs.FieldScan.{beyond, head_at}

module _ {s : List ℕ} {from : ℕ} (e : Ended s from) where
  none : is_digit (get_or s from 0) ≡ false → Counted s from (record { value = 0; to = from })
  none d = rw (add-zero from) at (stopped (none_yet s from e) (omega arith) (rw (add-zero from) d))

  -- 0, and another digit behind it
  pub zero-then-digit : get_or s from 0 ≡ 48 → is_digit (get_or s (from + 1) 0) ≡ true → Unsigned s from None
  zero-then-digit z d =
      record {
        sound = λ d e. absurd (let q : ◌≡◌ {A = ℕ} 0 1 = cc in (omega arith));
        complete = λ {n} a.
            (let p = plain_of a.bytes n a.says in
            let one : length a.bytes ≡ 1 = p.zero-alone (sym (at_first_lem s from a.bytes (a.byte ∷ a.rest) a.form p.some) ∙ z) in
            let next : get_or s (from + 1) 0 ≡ a.byte = rw one at (head_at s (from + length a.bytes) a.byte _ (beyond s from a.bytes _ a.form)) in
            absurd (let t : true ≡ false = sym d ∙ ap is_digit next ∙ a.stop in let q : ◌≡◌ {A = ℕ} 0 1 = cc in (omega arith)));
      }

  -- 0 alone
  pub zero-alone : get_or s from 0 ≡ 48 → is_digit (get_or s (from + 1) 0) ≡ false → Unsigned s from (Some (record { value = 0; to = from + 1 }))
  zero-alone z d =
      let stands : is_digit (get_or s (from + 0) 0) ≡ true = rw (add-zero from, z) (digit {x = 48} (omega arith) (omega arith)) in
      let more = one_more (none_yet s from e) (omega arith) {d = 0} stands (rw (add-zero from, z) refl) (omega arith) in
      in-form (stopped more (omega arith) d) (λ k. omega arith) (omega arith) (λ k. refl)

  -- neither 0 nor another digit
  pub no-zero : (48 < get_or s from 0 → 57 < get_or s from 0) → (get_or s from 0 ≡ 48 → ⊥) → Unsigned s from None
  no-zero far other =
      no_digit
      (none
      (elim (dec_le 48 (get_or s from 0)) [
        | yes k ↦ above-digits (far (let q : get_or s from 0 ≡ 48 → ⊥ = other in omega arith))
        | no k ↦ below-digits (lt_of_not-le k)
      ])) refl
