-- What is missing up to a place: the marks and samples that are put so far, and those that are left.
use Rattle.std.proofs.Common.{◌≡◌, ℕ, zero, suc, ◌+◌, ◌-◌, ◌*◌, ◌<◌, ◌≤◌, List, [], ◌∷◌, ◌++◌, length, sym, refl, ap, ◌∙◌, append_assoc, append-nil, arith}
use Rattle.print.specs.Print.{last}
use Rattle.sheets.specs.Putting.{WroteUpTo}
use Rattle.sheets.proofs.Fields.{both, nothing}
use Rattle.vocabulary.specs.declared.sample.Sample.{Sample}
use Rattle.mending.specs.Mending.{Item, filled, seconds_of, filled_from, item_text, items_text}
use Rattle.mending.specs.declared.grid.Grid.{Grid}

pub items-append : (xs ys : List Item) → items_text (xs ++ ys) ≡ items_text xs ++ items_text ys
unfolding items_text
items-append [] ys = refl
items-append (x ∷ xs) ys = ap (λ (l : List ℕ). item_text x ++ l) (items-append xs ys) ∙ sym (append_assoc (item_text x) (items_text xs) (items_text ys))

pub one-item : (x : Item) → items_text (x ∷ []) ≡ item_text x
unfolding items_text
one-item x = append-nil (item_text x)

module _ (t : Grid) (x : Sample) where
  next_one : (n k : ℕ) → items_text (filled_from t x n (suc k)) ≡ item_text (filled (n * seconds_of t) x) ++ items_text (filled_from t x (n + 1) k)
  unfolding items_text filled_from
  next_one n k = refl

  -- the first of those that are left
  one_more : (place until : ℕ) → place < until
      → items_text (filled_from t x place (until - place)) ≡ item_text (filled (place * seconds_of t) x) ++ items_text (filled_from t x (place + 1) (until - (place + 1)))
  one_more place until h =
      let e : until - place ≡ suc (until - (place + 1)) = omega arith in
      ap (λ (k : ℕ). items_text (filled_from t x place k)) e ∙ next_one place (until - (place + 1))

  pub record PutUpTo (from until : ℕ) (d : List ℕ) (at place r : ℕ) (d' : List ℕ) : Type 0 where
    pub text : List ℕ
    pub put : WroteUpTo (69 * (place - from)) d at text r d'
    pub reached : from ≤ place
    pub within : place - from ≤ until - from
    pub whole : text ++ items_text (filled_from t x place (until - place)) ≡ items_text (filled_from t x from (until - from))

  pub none-put : {d : List ℕ} {at : ℕ} (from until : ℕ) → at ≤ last → length d ≤ last → PutUpTo from until d at from at d
  none-put from until h l =
      let e : 69 * (from - from) ≡ 0 = omega arith in
      record { text = []; put = rw e (nothing h l); reached = omega arith; within = omega arith; whole = refl }

  pub one-put : {d d' d'' : List ℕ} {at r r' : ℕ} (from until place : ℕ) → place < until → PutUpTo from until d at place r d'
      → WroteUpTo 69 d' r (item_text (filled (place * seconds_of t) x)) r' d'' → PutUpTo from until d at (place + 1) r' d''
  one-put from until place some p q =
      let reached = p.reached in
      let more : 69 * (place + 1 - from) ≡ 69 * (place - from) + 69 = omega arith in
      let mark = item_text (filled (place * seconds_of t) x) in
      record {
        text = p.text ++ mark;
        put = rw more (both p.put q);
        reached = omega arith;
        within = omega arith;
        whole =
            append_assoc p.text mark (items_text (filled_from t x (place + 1) (until - (place + 1))))
            ∙ ap (λ (l : List ℕ). p.text ++ l) (sym (one_more place until some))
            ∙ p.whole;
      }

  nothing_left : (place n : ℕ) → n ≡ 0 → items_text (filled_from t x place n) ≡ []
  unfolding items_text filled_from
  nothing_left place zero e = refl
  nothing_left place (suc n) e = absurd (omega arith)

  pub all-put : {d d' : List ℕ} {at r : ℕ} (from until place : ℕ) → until ≤ place → until - from ≤ 60 → PutUpTo from until d at place r d'
      → WroteUpTo 4140 d at (items_text (filled_from t x from (until - from))) r d'
  all-put from until place h few p =
      let none : until - place ≡ 0 = omega arith in
      rw (← p.whole, nothing_left place (until - place) none, append-nil p.text)
      (record { wrote = p.put.wrote; short = omega (arith, p.put.short, p.within) })
