-- A line is put field by field, and its length stays within the sum of the fields' bounds.
use Prim.Native.Nat.{ℕ, ◌+◌, ◌≤◌}
use mathlib.Core.List.{List, [], ◌∷◌, ◌++◌, append_assoc}
use native.Mathlib.Omega.{arith}
use lib.ListN.{length, length-append}
use Rattle.print.specs.Print.{Wrote, last}
use Rattle.print.specs.Decimal.{tab, line_end}
use Rattle.print.proofs.Writing.{join, wrote_nothing}
use Rattle.print.specs.Fields.{tabbed}
use Rattle.print.proofs.FieldLaws.{tabbed-append, tabbed-one}
use Rattle.sheets.specs.Sheet.{line_text}
use Rattle.sheets.specs.Putting.{WroteUpTo, FieldsUpTo}

-- one text after another, in the room of both
pub both : {m n : ℕ} {d d' d'' : List ℕ} {at r r' : ℕ} {xs ys : List ℕ} → WroteUpTo m d at xs r d' → WroteUpTo n d' r ys r' d'' → WroteUpTo (m + n) d at (xs ++ ys) r' d''
both {xs = xs} {ys = ys} p q = record { wrote = join p.wrote q.wrote; short = omega (arith, length-append xs ys) }

-- nothing takes no room
pub nothing : {d : List ℕ} {at : ℕ} → at ≤ last → length d ≤ last → WroteUpTo 0 d at [] at d
nothing h l = record { wrote = wrote_nothing h l; short = omega arith }

-- a field is put after its tab
one_field : (most : ℕ) {d d' : List ℕ} {at r : ℕ} {x : List ℕ} → Wrote d at (tab ++ x) r d' → length x ≤ most → FieldsUpTo (most + 1) d at [] (x ∷ []) r d'
one_field most {x = x} p h = record { text = rw (tabbed-one x) (record { wrote = p; short = omega arith }) }

pub field : (most : ℕ) {d d' d'' : List ℕ} {at r r' : ℕ} {x : List ℕ} → Wrote d at tab r d' → Wrote d' r x r' d'' → length x ≤ most → FieldsUpTo (most + 1) d at [] (x ∷ []) r' d''
field most p q h = one_field most (join p q) h

-- a number or an amount of money, and several numbers
pub number : {d d' : List ℕ} {at r : ℕ} {x : List ℕ} → Wrote d at (tab ++ x) r d' × (length x ≤ 20) → FieldsUpTo 21 d at [] (x ∷ []) r d'
number p = one_field 20 p.0 p.1

pub numbers : {most : ℕ} {d d' : List ℕ} {at r : ℕ} {xs : List (List ℕ)} → Wrote d at (tabbed xs) r d' × (length (tabbed xs) ≤ most) → FieldsUpTo most d at [] xs r d'
numbers p = record { text = record { wrote = p.0; short = p.1 } }

-- further fields
pub further : {m n : ℕ} {d d' d'' : List ℕ} {at r r' : ℕ} {letter : List ℕ} {xs ys : List (List ℕ)} → FieldsUpTo m d at letter xs r d'
    → FieldsUpTo n d' r [] ys r' d'' → FieldsUpTo (m + n) d at letter (xs ++ ys) r' d''
further {letter = letter} {xs = xs} {ys = ys} p q =
    record { text = rw (tabbed-append xs ys, ← append_assoc letter (tabbed xs) (tabbed ys)) (both p.text q.text) }

-- a line begins with the letter of its kind
pub begun : {kind : ℕ} {d d' : List ℕ} {at r : ℕ} → Wrote d at (kind ∷ []) r d' → FieldsUpTo 1 d at (kind ∷ []) [] r d'
unfolding tabbed
begun p = record { text = record { wrote = p; short = omega arith } }

-- and ends with LF
pub ended : {m kind : ℕ} {d d' d'' : List ℕ} {at r r' : ℕ} {xs : List (List ℕ)} → FieldsUpTo m d at (kind ∷ []) xs r d' → Wrote d' r line_end r' d'' → WroteUpTo (m + 1) d at (line_text kind xs) r' d''
unfolding line_text
ended p q = both p.text (record { wrote = q; short = omega arith })
