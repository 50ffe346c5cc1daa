-- A line split field by field, and its fields by what is held of them.
use Rattle.std.proofs.Common.{Bor, Option, Some, None, unwrap_or, ⊎_elim, lt_of_not-le}
use Rattle.std.specs.Slice.{IsGetRangeResult}
use native.Mathlib.Decide.{dec_le}
use Prim.Native.Nat.{ℕ, zero, suc, ◌+◌, ◌-◌, ◌≤◌, ◌<◌}
use mathlib.Core.Path.{◌≡◌, refl, sym, ap, ◌∙◌}
use mathlib.Core.List.{List, [], ◌∷◌}
use native.Mathlib.Omega.{arith}
use native.Mathlib.Numerals.{add-one}
use native.Mathlib.Decide.{ℕ_discrete}
use borrow.Author.Tests.{le-leb, lt-leb}
use lib.ListN.{length, get_or, set, take, drop, length-set, length-drop, length-replicate, get_or-replicate}
use lib.Seq.{sets, length-take-le, set_out, get_or-set_same, get_or-set_other}
use Rattle.fields.specs.Fields.{fields, field_at}
use Rattle.fields.specs.Split.{Ends, nowhere, no_places, places_from, split_of, bytes_at, held_at}
use Rattle.fields.specs.declared.split.Place.{Place}
use Rattle.fields.specs.declared.split.Split.{Split}
use Rattle.fields.proofs.FieldLaws.{rest_of, rest-none, rest_more, rest_all, ends_at}

no-places : length no_places ≡ 16
unfolding no_places
no-places = length-replicate 16 nowhere

unkept : (k : ℕ) → k < 16 → get_or no_places k nowhere ≡ nowhere
unfolding no_places
unkept k h = get_or-replicate 16 k nowhere nowhere h

-- a field that starts at a and ends at e stands there, and the next starts after its tab
module _ {s : List ℕ} {a e : ℕ} (ends : Ends s a e) where
  places-more : places_from a (rest_of a s) ≡ record { from = a; to = e } ∷ places_from (e + 1) (rest_of (e + 1) s)
  unfolding places_from
  places-more =
      let k : a + length (take (e - a) (drop a s)) ≡ e = rw (length-take-le (e - a) (drop a s) (simp length-drop (omega arith))) (omega arith) in
      rw (rest_more ends, k, add-one e)

-- after some fields: what is held with those to come is what is to be held of the line
pub record Splitting (line : List ℕ) (from n : ℕ) (places : List Place) : Type 0 where
  pub within : from ≤ suc (length line)
  pub few : n ≤ from
  pub kept : length places ≡ 16
  pub count : n + length (rest_of from line) ≡ length (fields line)
  pub held : sets places n (places_from from (rest_of from line)) ≡ sets no_places 0 (places_from 0 (fields line))

pub split-none : (line : List ℕ) → Splitting line 0 0 no_places
split-none line =
    record {
      within = omega arith;
      few = omega arith;
      kept = no-places;
      count = omega (arith, ap length (rest_all line));
      held = rw (rest_all line);
    }

pub split-more : {line : List ℕ} {from to n : ℕ} {places : List Place} → Ends line from to → Splitting line from n places
    → Splitting line (to + 1) (n + 1) (set places n (record { from = from; to = to }))
split-more {line} {from} {to} {n} {places} ends so =
    record {
      within = omega arith;
      few = omega arith;
      kept = length-set places n _ ∙ so.kept;
      count = omega (arith, so.count, ap length (rest_more ends));
      held = rw (add-one n) (sym (ap (sets places n) (places-more ends)) ∙ so.held);
    }

pub split-counted : {line : List ℕ} {from to n : ℕ} {places : List Place} → Ends line from to → Splitting line from n places → 16 ≤ n
    → Splitting line (to + 1) (n + 1) places
split-counted {from = from} {to} {n} {places} ends so full =
    rw (set_out places n (record { from = from; to = to }) (omega (arith, so.kept))) at (split-more ends so)

pub split-all : {line : List ℕ} {from n : ℕ} {places : List Place} → length line < from → Splitting line from n places
    → ◌≡◌ {A = Split} (record { count = n; places = places }) (split_of line)
unfolding split_of places_from
split-all {line} {from} {n} {places} past so =
    let none = rest-none from line past in
    let c : n ≡ length (fields line) = omega (arith, so.count, ap length none) in
    let h : places ≡ sets no_places 0 (places_from 0 (fields line)) = rw none at so.held in
    rw (c, h)

-- what is stored from i on is found there, and nothing before it changes
before-stored : (vs l : List Place) (i k : ℕ) → k < i → get_or (sets l i vs) k nowhere ≡ get_or l k nowhere
before-stored [] l i k h = refl
before-stored (v ∷ vs) l i k h =
    before-stored vs (set l i v) (suc i) k (omega arith) ∙ get_or-set_other l i k v nowhere (λ e. omega arith)

stored : (vs l : List Place) (i k : ℕ) → i + k < length l → get_or l (i + k) nowhere ≡ nowhere
    → get_or (sets l i vs) (i + k) nowhere ≡ get_or vs k nowhere
stored [] l i k h e = e
stored (v ∷ vs) l i zero h e =
    let z : i + 0 ≡ i = omega arith in
    rw z (before-stored vs (set l i v) (suc i) i (omega arith) ∙ get_or-set_same l i v nowhere (omega arith))
stored (v ∷ vs) l i (suc k) h e =
    let n : i + suc k ≡ suc i + k = omega arith in
    rw n
    (stored vs (set l i v) (suc i) k (rw (length-set l i v) (omega arith))
    (get_or-set_other l i (suc i + k) v nowhere (λ q. omega arith) ∙ ap (λ (m : ℕ). get_or l m nowhere) (sym n) ∙ e))

-- the fields from a place on stand where they are said to, and no others do
Stand : List ℕ → ℕ → ℕ → Type 0
Stand s a k = bytes_at (get_or (places_from a (rest_of a s)) k nowhere) s ≡ field_at k (rest_of a s)

none-stands : (s : List ℕ) (a k : ℕ) → length s < a → Stand s a k
unfolding Stand field_at places_from bytes_at
none-stands s a k past = rw (rest-none a s past, le-leb 0 (length s) (omega arith))

module _ {s : List ℕ} {a e : ℕ} (ends : Ends s a e) where
  first-stands : Stand s a 0
  unfolding Stand field_at bytes_at
  first-stands = rw (places-more ends, rest_more ends, le-leb e (length s) ends.to)

  next-stands : (k : ℕ) → Stand s (e + 1) k → Stand s a (suc k)
  unfolding Stand field_at
  next-stands k next = rw (places-more ends, rest_more ends) next

stands : (k : ℕ) (s : List ℕ) (a : ℕ) → Stand s a k
stands zero s a =
    elim (ℕ_discrete (suc (length s) - a) 0) [
      | yes past ↦ none-stands s a 0 (omega arith)
      | no n ↦ first-stands (ends_at s a (omega arith))
    ]
stands (suc k) s a =
    elim (ℕ_discrete (suc (length s) - a) 0) [
      | yes past ↦ none-stands s a (suc k) (omega arith)
      | no n ↦ next-stands (ends_at s a (omega arith)) k (stands k s _)
    ]

-- so each field that is kept is the line's
pub field-held : (line : List ℕ) (k : ℕ) → k < 16 → held_at (split_of line) k line ≡ field_at k (fields line)
unfolding held_at split_of Stand
field-held line k h =
    let z : 0 + k ≡ k = omega arith in
    let blank : get_or no_places (0 + k) nowhere ≡ nowhere = rw z (unkept k h) in
    let found : get_or (sets no_places 0 (places_from 0 (fields line))) k nowhere ≡ get_or (places_from 0 (fields line)) k nowhere =
    rw z at (stored (places_from 0 (fields line)) no_places 0 k (omega (arith, no-places)) blank) in
    rw found (rw (rest_all line) at (stands k line 0))

pub split-count : (line : List ℕ) {split : Split} → split ≡ split_of line → split.count ≡ length (fields line)
unfolding split_of
split-count line same = ap (λ (s : Split). s.count) same

-- a part of a line that may be lent: nothing where the line is shorter, or the part ends before it begins
pub lent-part : (r : Option (Bor (List ℕ))) (d : Bor (List ℕ)) (place : Place) (line : List ℕ) → d.now ≡ []
    → IsGetRangeResult line place.from place.to r → (unwrap_or r d).now ≡ bytes_at place line
unfolding bytes_at
lent-part (Some x) d place line e h = rw (le-leb _ _ h.0.1) h.0.2
lent-part None d place line e h =
    elim (dec_le place.to (length line)) [
      | yes l ↦ let none : place.to - place.from ≡ 0 = ⊎_elim (λ (a : place.to < place.from). omega arith) (λ (a : length line < place.to). omega arith) h.0 in rw (le-leb _ _ l, none) e
      | no l ↦ rw (lt-leb _ _ (lt_of_not-le l)) e
    ]
