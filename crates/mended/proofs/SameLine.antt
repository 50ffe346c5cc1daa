-- D and E say in a recording what they say in a settlement.
-- Assumes nothing.
use Prim.Native.Nat.{ℕ}
use mathlib.Core.Path.{◌≡◌, refl}
use mathlib.Core.Bool.{Bool, true, false, cond}
use mathlib.Core.List.{List}
use borrow.Author.Tests.{eqb-true}
use lib.Dec.{eqb, ltb}
use lib.IntN.{ℤ}
use lib.ListN.{length, get_or}
use Rattle.arithmetic.proofs.Booleans.{both}
use Rattle.fields.specs.Fields.{fields, field_at}
use Rattle.std.specs.Prelude.{Option, Some, None}
use Rattle.fields.specs.Numbers.{number_of}
use Rattle.vocabulary.specs.declared.header.Header.{Header}
use Rattle.reading.specs.Line.{is_letter, kind_of, header_of, end_of, by_kind, line_of}
use Rattle.reading.specs.Entry.{entry_kind_of, entry_by, recorded_fields, recorded_of, by_entry_kind, entry_of}
use Rattle.reading.specs.declared.Line.{Line}
use Rattle.reading.specs.declared.Line.TheVariants as L
use Rattle.reading.specs.declared.entry.Entry.{Entry}
use Rattle.reading.specs.declared.entry.Entry.TheVariants as E

-- a D or an E line, as either program reads it
data Alike : Entry → Line → Type 0 where
  headers : (h : Header) → Alike (E.Header h) (L.Header h)
  ends : Alike E.End L.End
  recorded : {entry : Entry} {line : Line} → ((h : Header) → entry ≡ E.Header h → ⊥) → (entry ≡ E.End → ⊥) → Alike entry line

malformed : {line : Line} → Alike E.Malformed line
malformed = recorded (λ h e. cc) (λ e. cc)

alike-by : (line : Line) → Alike (entry_by line) line
alike-by (L.Header h) = headers h
alike-by (L.Bounds bounds) = malformed
alike-by (L.Setpoint s) = malformed
alike-by (L.Contract c) = malformed
alike-by (L.Sample x) = malformed
alike-by L.End = ends
alike-by L.Malformed = malformed

-- a G line is neither
recorded-fields : (a b c : Option ℤ) {line : Line} → Alike (recorded_fields a b c) line
recorded-fields (Some second) (Some setpoint) (Some actual) = recorded (λ h e. cc) (λ e. cc)
recorded-fields (Some second) (Some setpoint) None = malformed
recorded-fields (Some second) None actual = malformed
recorded-fields None setpoint actual = malformed

recorded-of : (fs : List (List ℕ)) {line : Line} → Alike (recorded_of fs) line
unfolding recorded_of
recorded-of fs {line} = go (eqb (length fs) 4)
  where
    go : (b : Bool) → Alike (cond b (recorded_fields (number_of (field_at 1 fs)) (number_of (field_at 2 fs)) (number_of (field_at 3 fs))) E.Malformed) line
    go true = recorded-fields (number_of (field_at 1 fs)) (number_of (field_at 2 fs)) (number_of (field_at 3 fs))
    go false = malformed

-- the letter E is no other
letter-e : (field : List ℕ) → is_letter 69 field ≡ true → by_kind (kind_of field) ≡ end_of
unfolding is_letter kind_of
letter-e field e =
    let t = both (eqb (length field) 1) (eqb (get_or field 0 0) 69) e in
    rw (t.0, eqb-true (get_or field 0 0) 69 t.1)

letter-d : (field : List ℕ) → is_letter 68 field ≡ true → by_kind (kind_of field) ≡ header_of
unfolding kind_of
letter-d field e = rw e

alike-kinds : (field : List ℕ) (fs : List (List ℕ)) → Alike (by_entry_kind (entry_kind_of field) fs) (by_kind (kind_of field) fs)
unfolding entry_kind_of
alike-kinds field fs = go (is_letter 71 field) (is_letter 68 field) (is_letter 69 field) refl refl refl
  where
    go : (g d x : Bool) → is_letter 71 field ≡ g → is_letter 68 field ≡ d → is_letter 69 field ≡ x → Alike (by_entry_kind (entry_kind_of field) fs) (by_kind (kind_of field) fs)
    go true d x eg ed ex = rw eg (recorded-of fs)
    go false true x eg ed ex = rw (eg, ed, letter-d field ed) (alike-by (header_of fs))
    go false false true eg ed ex = rw (eg, ed, ex, letter-e field ex) (alike-by (end_of fs))
    go false false false eg ed ex = rw (eg, ed, ex) malformed

alike-lines : (line : List ℕ) → Alike (entry_of line) (line_of line)
unfolding entry_of line_of
alike-lines line = go (ltb 80 (length line))
  where
    go : (b : Bool) → Alike (cond b E.Malformed (by_entry_kind (entry_kind_of (field_at 0 (fields line))) (fields line)))
        (cond b L.Malformed (by_kind (kind_of (field_at 0 (fields line))) (fields line)))
    go true = malformed
    go false = alike-kinds (field_at 0 (fields line)) (fields line)

header-by : {entry : Entry} {line : Line} (h : Header) → Alike entry line → entry ≡ E.Header h → line ≡ L.Header h
header-by h (headers k) e = cc
header-by h ends e = cc
header-by h (recorded n m) e = absurd (n h e)

end_by : {entry : Entry} {line : Line} → Alike entry line → entry ≡ E.End → line ≡ L.End
end_by (headers k) e = cc
end_by ends e = refl
end_by (recorded n m) e = absurd (m e)

-- D
pub same-header : (line : List ℕ) (h : Header) → entry_of line ≡ E.Header h → line_of line ≡ L.Header h
same-header line h e = header-by h (alike-lines line) e

-- E
pub same_end : (line : List ℕ) → entry_of line ≡ E.End → line_of line ≡ L.End
same_end line e = end_by (alike-lines line) e
