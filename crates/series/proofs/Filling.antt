-- A loop that writes the values of a function into an array, place after place.
-- Assumes nothing.
use Rattle.std.proofs.Common.{◌≡◌, ℕ, zero, suc, ◌+◌, ◌<◌, ◌≤◌, List, ◌++◌, length, get_or, take, drop, set, ℤ, pos, sym, refl, ap, ◌∙◌, ⊎_elim, lt_irrefl, eq-or-lt_of_le, add-one, arith, length-append, length-set, take-append-drop, get_or-set_other, get_or-set_same, take-suc-set}
use lib.ListN.{get_or-append}
use lib.Seq.{get_or_at}
use Rattle.series.specs.Places.{Fills, table}
use Rattle.series.proofs.Scanned.{drop-set-more}

module _ (f : ℕ → ℤ) (low : ℕ) where
  pub fills-none : (high : ℕ) (ys : List ℤ) → high ≤ low → Fills f low high ys
  fills-none high ys h = record { at = λ k a b. absurd (lt_irrefl k (omega arith)) }

  pub fills-more : (i : ℕ) (ys : List ℤ) (v : ℤ) → i < length ys → v ≡ f i → Fills f low i ys → Fills f low (i + 1) (set ys i v)
  fills-more i ys v room e t =
      record {
        at = λ k a b.
            ⊎_elim
            (λ (q : k ≡ i). ap (λ (n : ℕ). get_or (set ys i v) n (pos 0)) q ∙ get_or-set_same ys i v (pos 0) room ∙ e ∙ sym (ap f q))
            (λ (q : k < i). get_or-set_other ys i k v (pos 0) (λ p. lt_irrefl k (omega arith)) ∙ t.at k a q)
            (eq-or-lt_of_le (omega arith));
      }

  pub fills-less : (high less : ℕ) (ys : List ℤ) → less ≤ high → Fills f low high ys → Fills f low less ys
  fills-less high less ys h t = record { at = λ k a b. t.at k a (omega arith) }

  -- a place past them, written to
  pub fills-past : (high i : ℕ) (ys : List ℤ) (v : ℤ) → high ≤ i → Fills f low high ys → Fills f low high (set ys i v)
  fills-past high i ys v h t =
      record { at = λ k a b. get_or-set_other ys i k v (pos 0) (λ p. lt_irrefl k (omega arith)) ∙ t.at k a b }

  -- by another function that agrees there
  pub fills_same : (g : ℕ → ℤ) (high : ℕ) (ys : List ℤ) → ((k : ℕ) → low ≤ k → k < high → g k ≡ f k) → Fills g low high ys → Fills f low high ys
  fills_same g high ys e t = record { at = λ k a b. t.at k a b ∙ e k a b }

-- ---- the whole array: a table of f, then what was there before

module _ (f : ℕ → ℤ) where
  pub table-length : (n : ℕ) → length (table f n) ≡ n
  unfolding table
  table-length zero = refl
  table-length (suc n) = rw (length-append, table-length n) (omega arith)

  pub table_at : (n k : ℕ) → k < n → get_or (table f n) k (pos 0) ≡ f k
  unfolding table
  table_at zero k h = absurd (omega arith)
  table_at (suc n) k h =
      ⊎_elim
      (λ (q : k ≡ n). rw q (get_or_at (table f n) (f n) _ (pos 0) n (table-length n)))
      (λ (q : k < n). get_or-append (table f n) _ (pos 0) k (omega (arith, table-length n)) ∙ table_at n k q)
      (eq-or-lt_of_le (omega arith))

  module _ (blank : List ℤ) where
    -- where the loop stands after k places
    pub record Tabled (ys : List ℤ) (k : ℕ) : Type 0 where
      pub sized : length ys ≡ length blank
      pub written : take k ys ≡ table f k
      pub rest : drop k ys ≡ drop k blank

    pub tabled-none : Tabled blank 0
    unfolding table
    tabled-none = record { sized = refl; written = refl; rest = refl }

    pub tabled-more : (ys : List ℤ) (k : ℕ) (v : ℤ) → k < length blank → v ≡ f k → Tabled ys k → Tabled (set ys k v) (k + 1)
    unfolding table
    tabled-more ys k v room e t =
        record {
          sized = length-set ys k v ∙ t.sized;
          written = rw (add-one, take-suc-set ys k v (omega (arith, t.sized)), t.written, e);
          rest = drop-set-more ys blank k v t.rest;
        }

    pub tabled-all : (ys : List ℤ) (k : ℕ) → Tabled ys k → ys ≡ table f k ++ drop k blank
    tabled-all ys k t = sym (take-append-drop k ys) ∙ rw (t.written, t.rest)
