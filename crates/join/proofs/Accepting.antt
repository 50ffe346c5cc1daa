-- Lines that are accepted one after the other.
-- Assumes nothing.
use Prim.Native.Nat.{ℕ}
use mathlib.Core.Path.{◌≡◌, sym, ap, ◌∙◌}
use mathlib.Core.Bool.{true}
use mathlib.Core.List.{List, [], ◌∷◌, ◌++◌}
use native.Mathlib.Omega.{arith}
use lib.ListN.{length}
use Rattle.series.specs.Scan.{each}
use Rattle.vocabulary.specs.Refusals.{accepted}
use Rattle.reading.specs.Line.{line_of, identifier_of}
use Rattle.reading.specs.declared.Line.{Line}
use Rattle.reading.specs.declared.Line.TheVariants as L
use Rattle.meaning.specs.Meaning.{SoFar, ground, after}
use Rattle.meaning.specs.Endings.{Accepts, none, more}

-- a line by what it says, and those after it
pub accept : (so : SoFar) (line : List ℕ) (said : Line) {lines : List (List ℕ)} {last : SoFar} → line_of line ≡ said → accepted (ground so (identifier_of line) said) ≡ true
    → (said ≡ L.End → ⊥) → Accepts (after so (identifier_of line) said) lines last → Accepts so (line ∷ lines) last
accept so line said {lines} {last} e a n r = more {so = so} {last = last} {line = line} {lines = lines} (rw e a) (λ f. n (sym e ∙ f)) (rw e r)

-- some lines, and others after them
pub accept-both : {so middle last : SoFar} {xs ys : List (List ℕ)} → Accepts so xs middle → Accepts middle ys last → Accepts so (xs ++ ys) last
accept-both none r = r
accept-both (more e n l) r = more e n (accept-both l r)

-- ---- lines that say something of one kind each

pub data SaysEach {X : Type 0} (kind : X → Line) : List (List ℕ) → List X → Type 0 where
  no_line_lem : SaysEach kind [] []
  a-line : {line : List ℕ} {lines : List (List ℕ)} {x : X} {xs : List X} → line_of line ≡ kind x → SaysEach kind lines xs → SaysEach kind (line ∷ lines) (x ∷ xs)

-- two lists that are one: their first, and the rest
pub first-same : {A : Type 0} {x y : A} {xs ys : List A} → (x ∷ xs) ≡ (y ∷ ys) → x ≡ y
first-same e = cc

pub rest-same : {A : Type 0} {x y : A} {xs ys : List A} → (x ∷ xs) ≡ (y ∷ ys) → xs ≡ ys
rest-same e = cc

-- lines say each of some things where they read as those
pub says-each : {X : Type 0} (kind : X → Line) (lines : List (List ℕ)) (xs : List X) → each line_of lines ≡ each kind xs → SaysEach kind lines xs
unfolding each
says-each kind [] [] e = no_line_lem
says-each kind [] (x ∷ xs) e = absurd (omega (arith, ap length e))
says-each kind (line ∷ lines) [] e = absurd (omega (arith, ap length e))
says-each kind (line ∷ lines) (x ∷ xs) e = a-line (first-same e) (says-each kind lines xs (rest-same e))
