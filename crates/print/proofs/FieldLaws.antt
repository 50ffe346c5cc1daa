-- Fields, one after the other.
use Prim.Native.Nat.{ℕ, ◌+◌, ◌*◌, ◌≤◌, ◌<◌}
use mathlib.Core.Path.{◌≡◌, refl, sym, ap, ◌∙◌}
use mathlib.Core.List.{List, [], ◌∷◌, ◌++◌, map, map-append, append_assoc, append-nil}
use native.Mathlib.Omega.{arith}
use native.Mathlib.Numerals.{add-one}
use lib.ListN.{length, take, get_or, length-append}
use lib.Seq.{take-suc}
use Rattle.print.specs.Print.{Wrote, last}
use Rattle.print.specs.Decimal.{tab, digits}
use Rattle.print.specs.Fields.{tabbed}
use Rattle.print.proofs.Writing.{join, wrote_nothing}

pub tabbed-append : (xs ys : List (List ℕ)) → tabbed (xs ++ ys) ≡ tabbed xs ++ tabbed ys
unfolding tabbed
tabbed-append [] ys = refl
tabbed-append (x ∷ xs) ys =
    ap (λ (l : List ℕ). tab ++ x ++ l) (tabbed-append xs ys) ∙ ap (λ (l : List ℕ). tab ++ l) (sym (append_assoc x (tabbed xs) (tabbed ys)))

pub tabbed-one : (x : List ℕ) → tabbed (x ∷ []) ≡ tab ++ x
unfolding tabbed
tabbed-one x = rw (append-nil x)

-- the first i of some numbers, each after its tab, in at most 21 bytes each
pub record Numbered (numbers : List ℕ) (d : List ℕ) (at : ℕ) (i r : ℕ) (d' : List ℕ) : Type 0 where
  pub within : i ≤ length numbers
  pub wrote : Wrote d at (tabbed (map digits (take i numbers))) r d'
  pub short : length (tabbed (map digits (take i numbers))) ≤ 21 * i

-- none yet, and one more
pub no-numbers : {d : List ℕ} {at : ℕ} (numbers : List ℕ) → at ≤ last → length d ≤ last → Numbered numbers d at 0 at d
unfolding tabbed
no-numbers numbers h l = record { within = omega arith; wrote = wrote_nothing h l; short = omega arith }

pub number_more : {d d' d'' : List ℕ} {at e e' : ℕ} (numbers : List ℕ) (i : ℕ) → i < length numbers → Numbered numbers d at i e d'
    → Wrote d' e (tab ++ digits (get_or numbers i 0)) e' d'' → length (digits (get_or numbers i 0)) ≤ 20 → Numbered numbers d at (i + 1) e' d''
number_more numbers i h p q s =
    let x = digits (get_or numbers i 0) in
    let fields : map digits (take (i + 1) numbers) ≡ map digits (take i numbers) ++ (x ∷ []) =
    rw (add-one i, take-suc numbers i 0 h) (map-append digits (take i numbers) (get_or numbers i 0 ∷ [])) in
    let e : tabbed (map digits (take (i + 1) numbers)) ≡ tabbed (map digits (take i numbers)) ++ (tab ++ x) =
    ap tabbed fields ∙ tabbed-append (map digits (take i numbers)) (x ∷ []) ∙ ap (λ (l : List ℕ). tabbed (map digits (take i numbers)) ++ l) (tabbed-one x) in
    record {
      within = omega arith;
      wrote = rw e (join p.wrote q);
      short = rw e (omega (arith, p.short, s, length-append (tabbed (map digits (take i numbers))) (tab ++ x)));
    }
