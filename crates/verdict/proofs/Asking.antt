-- A line of an input that is settled is read as when it is settled, and a U line is none.
-- Assumes nothing.
use Prim.Native.Nat.{ℕ}
use mathlib.Core.Path.{◌≡◌, refl}
use mathlib.Core.Bool.{Bool, true, false, cond, ◌&&◌}
use mathlib.Core.List.{List}
use lib.Dec.{eqb, ltb}
use lib.IntN.{ℤ}
use lib.ListN.{length, get_or}
use borrow.Author.Tests.{eqb-true}
use Rattle.std.specs.Prelude.{Option, Some, None}
use Rattle.vocabulary.specs.declared.direction.Direction.{Direction}
use Rattle.fields.specs.Fields.{fields, field_at}
use Rattle.fields.specs.Numbers.{number_of}
use Rattle.reading.specs.Line.{is_letter, kind_of, by_kind, direction_of, line_of}
use Rattle.reading.specs.declared.Line.{Line}
use Rattle.reading.specs.Share.{share_fields, share_of, asked_of}
use Rattle.reading.specs.declared.Kind.TheVariants as K
use Rattle.reading.specs.declared.Line.TheVariants as L
use Rattle.reading.specs.declared.share.Asked.TheVariants as A

-- ---- one letter and no other

other-letter : (a b : ℕ) (field : List ℕ) → is_letter a field ≡ true → eqb a b ≡ false → is_letter b field ≡ false
unfolding is_letter
other-letter a b field e n = go (eqb (length field) 1) (eqb (get_or field 0 0) a) refl e
  where
    go : (s t : Bool) → eqb (get_or field 0 0) a ≡ t → (s && t) ≡ true → (s && eqb (get_or field 0 0) b) ≡ false
    go false t p e = refl
    go true true p e = rw (eqb-true (get_or field 0 0) a p) n
    go true false p e = cc

-- U is no letter of a line that is settled
u-unknown : (field : List ℕ) → is_letter 85 field ≡ true → kind_of field ≡ K.Unknown
unfolding kind_of
u-unknown field e =
    rw (
      other-letter 85 68 field e refl,
      other-letter 85 79 field e refl,
      other-letter 85 66 field e refl,
      other-letter 85 67 field e refl,
      other-letter 85 83 field e refl,
      other-letter 85 69 field e refl,
    )

-- ---- what a share line that is none says: malformed

share-settles : (fs : List (List ℕ)) (said : Line) → share_of fs ≡ A.Settling said → L.Malformed ≡ said
unfolding share_of
share-settles fs said = go (eqb (length fs) 5) (number_of (field_at 1 fs)) (direction_of (field_at 2 fs)) (number_of (field_at 4 fs))
  where
    go : (t : Bool) (q : Option ℤ) (d : Option Direction) (k : Option ℤ) → cond t (share_fields q d k) (A.Settling L.Malformed) ≡ A.Settling said → L.Malformed ≡ said
    go false q d k e = cc
    go true (Some q) (Some d) (Some k) e = cc
    go true (Some q) (Some d) None e = cc
    go true (Some q) None k e = cc
    go true None d k e = cc

-- ---- so

pub settling-line : (line : List ℕ) (said : Line) → asked_of line ≡ A.Settling said → line_of line ≡ said
unfolding asked_of line_of
settling-line line said = go (ltb 80 (length line)) (is_letter 85 (field_at 0 (fields line))) refl
  where
    go : (t u : Bool) → is_letter 85 (field_at 0 (fields line)) ≡ u
        → cond t (A.Settling L.Malformed) (cond u (share_of (fields line)) (A.Settling (cond t L.Malformed (by_kind (kind_of (field_at 0 (fields line))) (fields line))))) ≡ A.Settling said
        → cond t L.Malformed (by_kind (kind_of (field_at 0 (fields line))) (fields line)) ≡ said
    go true u p e = cc
    go false true p e = rw (u-unknown (field_at 0 (fields line)) p) (share-settles (fields line) said e)
    go false false p e = cc

pub line-settling : (line : List ℕ) → (line_of line ≡ L.Malformed → ⊥) → asked_of line ≡ A.Settling (line_of line)
unfolding asked_of line_of
line-settling line = go (ltb 80 (length line)) (is_letter 85 (field_at 0 (fields line))) refl
  where
    go : (t u : Bool) → is_letter 85 (field_at 0 (fields line)) ≡ u → (cond t L.Malformed (by_kind (kind_of (field_at 0 (fields line))) (fields line)) ≡ L.Malformed → ⊥)
        → cond t (A.Settling L.Malformed) (cond u (share_of (fields line)) (A.Settling (cond t L.Malformed (by_kind (kind_of (field_at 0 (fields line))) (fields line)))))
        ≡ A.Settling (cond t L.Malformed (by_kind (kind_of (field_at 0 (fields line))) (fields line)))
    go true u p n = refl
    go false true p n = absurd (n (rw (u-unknown (field_at 0 (fields line)) p)))
    go false false p n = refl
