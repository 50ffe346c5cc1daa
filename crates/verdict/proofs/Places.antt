-- The U line that the checker wants next, by its number, is the next of those that are wanted.
-- Assumes nothing.
use Prim.Native.Nat.{ℕ, zero, suc, ◌+◌, ◌*◌, ◌-◌, ◌/◌, ◌%◌, ◌≤◌, ◌<◌}
use mathlib.Core.Path.{◌≡◌, refl, sym, ap, ◌∙◌}
use mathlib.Core.Bool.{true, ◌&&◌}
use mathlib.Core.List.{List, [], ◌∷◌, ◌++◌}
use native.Mathlib.Omega.{arith}
use native.Mathlib.Nat.{zero-mul, suc-mul, mul-add-div_right, mul-add-mod_self_right, div-eq_of_lt, mod-eq_of_lt, add-zero}
use native.Mathlib.Decide.{dec_lt}
use lib.Dec.{eqb, ltb}
use lib.IntN.{pos}
use lib.ListN.{length, drop, get_or, length-append, drop_of_length-le}
use lib.Seq.{drop-cons, drop-append-le, drop-append-add, get_or-take}
use borrow.Author.Tests.{lt-ltb, le-ltb}
use Rattle.arithmetic.specs.Whole.{least_of}
use Rattle.series.specs.Scan.{each}
use Rattle.series.proofs.Scanned.{each-length, each_at}
use Rattle.vocabulary.specs.declared.direction.Direction.{Direction}
use Rattle.vocabulary.specs.declared.direction.Direction.TheVariants.{Positive, Negative}
use Rattle.contracts.specs.Identifier.{well_formed, kept_length, padded_of, same_bytes}
use Rattle.contracts.specs.Book.{listed, held_of, no_contract, names_at}
use Rattle.contracts.specs.Books.{book_in}
use Rattle.contracts.specs.declared.book.Awarded.{Awarded}
use Rattle.contracts.specs.declared.book.Book.{Book}
use Rattle.contracts.specs.declared.books.Books.{Books}
use Rattle.contracts.proofs.Identifiers.{same-padded, same-sym}
use Rattle.sheets.specs.Sheet.{letter_of}
use Rattle.reading.specs.declared.share.Share.{Share}
use Rattle.meaning.specs.Given.{Deal, Given, deals_in, quarters_in}
use Rattle.meaning.specs.Endings.{Proper}
use Rattle.meaning.proofs.Deals.{kept, Well, none, more, count_of}
use Rattle.meaning.proofs.Figures.{few-deals}
use Rattle.meaning.proofs.Standing.{BookMeets, BooksMeet}
use Rattle.judging.specs.declared.wanted.Place.{Place}
use Rattle.judging.specs.Wanted.{contracts_in, place_of, is_quarter, same_direction, says_place, is_wanted}
use Rattle.verdict.specs.Wanted.{Wanted, wanted_of, wanted_side, wanted_up_to, wanted_in, per_quarter_hour}
use Rattle.verdict.specs.Checked.{says_for, is_next}
use Rattle.judging.specs.Wanted as C

abbrev no_deal : Deal
no_deal = record { identifier = []; award = 0; price = pos 0 }

-- what a place wants
abbrev wanted_at : Given → Place → Wanted
wanted_at g place = wanted_of place.quarter place.direction (get_or (deals_in place.direction g) place.contract no_deal)

-- the nth of some lists' elements
at_front : {A : Type 0} (a b : List A) (n : ℕ) (x : A) → suc n ≤ length a → drop n a ≡ x ∷ drop (suc n) a → drop n (a ++ b) ≡ x ∷ drop (suc n) (a ++ b)
at_front a b n x h e = rw (drop-append-le n a b (omega arith), e, drop-append-le (suc n) a b h)

at_back : {A : Type 0} (a b : List A) (k n : ℕ) (x : A) → n ≡ length a + k → drop k b ≡ x ∷ drop (suc k) b → drop n (a ++ b) ≡ x ∷ drop (suc n) (a ++ b)
at_back a b k n x h e =
    let s : suc n ≡ length a + suc k = omega arith in
    rw (s, h, drop-append-add a b k, drop-append-add a b (suc k)) e

at_side : (q : ℕ) (d : Direction) (xs : List Deal) (k : ℕ) → k < length xs → drop k (each (wanted_of q d) xs) ≡ wanted_of q d (get_or xs k no_deal) ∷ drop (suc k) (each (wanted_of q d) xs)
at_side q d xs k h =
    let l : k < length (each (wanted_of q d) xs) = omega (arith, each-length (wanted_of q d) xs) in
    drop-cons (each (wanted_of q d) xs) k (wanted_of q d no_deal) l ∙ ap (λ (w : Wanted). w ∷ drop (suc k) (each (wanted_of q d) xs)) (each_at (wanted_of q d) xs k no_deal)

module _ (g : Given) where
  abbrev p : ℕ
  p = length g.positives

  abbrev m : ℕ
  m = length g.negatives

  sides-length : (q : ℕ) → length (wanted_side q Positive g ++ wanted_side q Negative g) ≡ per_quarter_hour g
  sides-length q = length-append (wanted_side q Positive g) (wanted_side q Negative g) ∙ rw (each-length (wanted_of q Positive) g.positives, each-length (wanted_of q Negative) g.negatives)

  pub wanted-length : (n : ℕ) → length (wanted_up_to g n) ≡ n * per_quarter_hour g
  unfolding wanted_up_to
  wanted-length zero = sym (zero-mul (per_quarter_hour g))
  wanted-length (suc q) =
      length-append (wanted_up_to g q) (wanted_side q Positive g ++ wanted_side q Negative g) ∙ omega (arith, wanted-length q, sides-length q, suc-mul q (per_quarter_hour g))

  record Next (Q n : ℕ) (place : Place) : Type 0 where
    inside : place.contract < length (deals_in place.direction g)
    follows : drop n (wanted_up_to g Q) ≡ wanted_at g place ∷ drop (suc n) (wanted_up_to g Q)

  -- line q × (U lines of a quarter hour) + r
  module _ (q r n : ℕ) (is : n ≡ q * per_quarter_hour g + r) (few : r < per_quarter_hour g) where
    quarter-is : n / per_quarter_hour g ≡ q
    quarter-is =
        let some : 0 < per_quarter_hour g = omega arith in
        rw is (mul-add-div_right some q r ∙ rw (div-eq_of_lt few) (add-zero q))

    rest-is : n % per_quarter_hour g ≡ r
    rest-is = rw is (mul-add-mod_self_right q (per_quarter_hour g) r ∙ mod-eq_of_lt few)

    place-positive : r < p → place_of p m n ≡ record { quarter = q; direction = Positive; contract = r }
    unfolding place_of
    place-positive h = rw (quarter-is, rest-is, lt-ltb r p h)

    place-negative : p ≤ r → place_of p m n ≡ record { quarter = q; direction = Negative; contract = r - p }
    unfolding place_of
    place-negative h = rw (quarter-is, rest-is, le-ltb r p h)

    last-next : Next (suc q) n (place_of p m n)
    unfolding wanted_up_to
    last-next = go (dec_lt r p)
      where
        there : n ≡ length (wanted_up_to g q) + r
        there = omega (arith, wanted-length q)

        side-one : length (wanted_side q Positive g) ≡ p
        side-one = each-length (wanted_of q Positive) g.positives

        go : Dec (r < p) → Next (suc q) n (place_of p m n)
        go (yes h) =
            rw (place-positive h) (record {
              inside = h;
              follows = at_back (wanted_up_to g q) (wanted_side q Positive g ++ wanted_side q Negative g) r n (wanted_of q Positive (get_or g.positives r no_deal)) there
                  (at_front (wanted_side q Positive g) (wanted_side q Negative g) r (wanted_of q Positive (get_or g.positives r no_deal)) (omega (arith, side-one))
                  (at_side q Positive g.positives r h));
            })
        go (no h) =
            let l : p ≤ r = omega arith in
            let k : r - p < m = omega arith in
            rw (place-negative l) (record {
              inside = k;
              follows = at_back (wanted_up_to g q) (wanted_side q Positive g ++ wanted_side q Negative g) r n (wanted_of q Negative (get_or g.negatives (r - p) no_deal)) there
                  (at_back (wanted_side q Positive g) (wanted_side q Negative g) (r - p) r (wanted_of q Negative (get_or g.negatives (r - p) no_deal)) (omega (arith, side-one))
                  (at_side q Negative g.negatives (r - p) k));
            })

  earlier-next : (q n : ℕ) → n < q * per_quarter_hour g → Next q n (place_of p m n) → Next (suc q) n (place_of p m n)
  unfolding wanted_up_to
  earlier-next q n l x =
      record {
        inside = x.inside;
        follows = at_front (wanted_up_to g q) (wanted_side q Positive g ++ wanted_side q Negative g) n (wanted_at g (place_of p m n)) (omega (arith, wanted-length q)) x.follows;
      }

  next_of : (Q n : ℕ) → n < Q * per_quarter_hour g → Next Q n (place_of p m n)
  next_of zero n h = absurd (omega (arith, zero-mul (per_quarter_hour g)))
  next_of (suc q) n h = go (dec_lt n (q * per_quarter_hour g)) (next_of q n)
    where
      go : Dec (n < q * per_quarter_hour g) → (n < q * per_quarter_hour g → Next q n (place_of p m n)) → Next (suc q) n (place_of p m n)
      go (yes l) before = earlier-next q n l (before l)
      go (no l) before = last-next q (n - q * per_quarter_hour g) n (omega arith) (omega (arith, suc-mul q (per_quarter_hour g)))

-- ---- as the run's contract lists say it

well-at : {xs : List Deal} → Well xs → (k : ℕ) → k < length xs → well_formed (get_or xs k no_deal).identifier ≡ true
well-at none k h = absurd (omega arith)
well-at (more w ws) zero h = w
well-at (more w ws) (suc k) h = well-at ws k (omega arith)

kept-none : kept no_deal ≡ no_contract
unfolding padded_of kept_length least_of no_contract
kept-none = refl

module _ (xs : List Deal) (book : Book) (b : BookMeets xs book) (few : length xs ≤ 32) where
  pub held_all : held_of book ≡ length xs
  unfolding held_of least_of
  held_all = omega (arith, count_of book xs b.sound b.listed)

  held_at : (k : ℕ) → k < length xs → get_or book.contracts k no_contract ≡ kept (get_or xs k no_deal)
  unfolding listed
  held_at k h =
      sym (get_or-take book.count book.contracts k no_contract (omega (arith, count_of book xs b.sound b.listed)))
      ∙ ap (λ (l : List Awarded). get_or l k no_contract) b.listed
      ∙ rw kept-none at (each_at kept xs k no_deal)

  names-is : (k : ℕ) (identifier : List ℕ) → k < length xs → well_formed identifier ≡ true → names_at book k identifier ≡ same_bytes identifier (get_or xs k no_deal).identifier
  unfolding names_at
  names-is k identifier h w =
      rw (held_all, lt-ltb k (length xs) h, held_at k h)
      (same-padded (get_or xs k no_deal).identifier identifier (well-at b.well k h) w ∙ same-sym (get_or xs k no_deal).identifier identifier)

letters-are : (c d : Direction) → same_direction c d ≡ eqb (letter_of c) (letter_of d)
letters-are Positive Positive = refl
letters-are Positive Negative = refl
letters-are Negative Positive = refl
letters-are Negative Negative = refl

module _ (g : Given) (pr : Proper g) (books : Books) (b : BooksMeet g books) where
  pub count-is : (d : Direction) → contracts_in d books ≡ length (deals_in d g)
  count-is d = held_all (deals_in d g) (book_in d books) (b d) (few-deals g pr d)

  says_same : (place : Place) (share : Share) (identifier : List ℕ) → well_formed identifier ≡ true → place.contract < length (deals_in place.direction g)
      → says_place books place share identifier ≡ says_for (wanted_at g place) share identifier
  unfolding says_place is_quarter says_for
  says_same place share identifier w h =
      rw (
        names-is (deals_in place.direction g) (book_in place.direction books) (b place.direction) (few-deals g pr place.direction) place.contract identifier h w,
        letters-are share.direction place.direction,
      )

  pub wanted-count : (quarters : ℕ) → C.wanted_in books quarters ≡ quarters * per_quarter_hour g
  unfolding C.wanted_in
  wanted-count quarters = rw (count-is Positive, count-is Negative)

  -- THE NEXT ONE
  pub next-same : (n : ℕ) (share : Share) (identifier : List ℕ) → well_formed identifier ≡ true
      → is_wanted books (quarters_in g) n share identifier ≡ is_next (drop n (wanted_in g)) share identifier
  unfolding is_wanted
  next-same n share identifier w = rw (wanted-count (quarters_in g), count-is Positive, count-is Negative) (go (dec_lt n (quarters_in g * per_quarter_hour g)))
    where
      go : Dec (n < quarters_in g * per_quarter_hour g)
          → (ltb n (quarters_in g * per_quarter_hour g) && says_place books (place_of (length g.positives) (length g.negatives) n) share identifier) ≡ is_next (drop n (wanted_in g)) share identifier
      go (yes h) =
          let x = next_of g (quarters_in g) n h in
          rw (lt-ltb n (quarters_in g * per_quarter_hour g) h, x.follows) (says_same (place_of (length g.positives) (length g.negatives) n) share identifier w x.inside)
      go (no h) =
          let l : length (wanted_in g) ≤ n = omega (arith, wanted-length g (quarters_in g)) in
          let e : drop n (wanted_in g) ≡ [] = drop_of_length-le (wanted_in g) l in
          rw (le-ltb n (quarters_in g * per_quarter_hour g) (omega arith), e)
