-- How the fields of a line are held once they are found: how many there are, and where each of the first sixteen stands.
use Rattle.std.specs.Prelude.{ℕ, suc, ◌+◌, ◌-◌, ◌≤◌, cond, List, [], ◌∷◌, ◌≡◌, length, get_or, take, drop, replicate, eqb, leb}
use Rattle.std.proofs.lemmas.List.Edits.{sets}
use Rattle.fields.specs.Fields.{fields}
use Rattle.fields.specs.declared.split.Place.{Place}
use Rattle.fields.specs.declared.split.Split.{Split}

-- what stands before the first tab
unfoldable pub until_tab : List ℕ → List ℕ
until_tab [] = []
until_tab (x ∷ xs) = cond (eqb x 9) [] (x ∷ until_tab xs)

-- the field that starts at a ends at e
pub record Ends (s : List ℕ) (a e : ℕ) : Type 0 where
  pub at : e ≡ a + length (until_tab (drop a s))
  pub from : a ≤ e
  pub to : e ≤ length s

-- the place of a field that a line does not have: it has no bytes
abbrev pub nowhere : Place
nowhere = record { from = 0; to = 0 }

unfoldable pub no_places : List Place
no_places = replicate 16 nowhere

-- where fields stand of which the first starts at a: one tab after each
unfoldable pub places_from : ℕ → List (List ℕ) → List Place
places_from a [] = []
places_from a (f ∷ fs) = record { from = a; to = a + length f } ∷ places_from (suc (a + length f)) fs

unfoldable pub split_of : List ℕ → Split
split_of line = record { count = length (fields line); places = sets no_places 0 (places_from 0 (fields line)) }

-- the bytes at a place of a line; none where the line is shorter
unfoldable pub bytes_at : Place → List ℕ → List ℕ
bytes_at place line = cond (leb place.to (length line)) (take (place.to - place.from) (drop place.from line)) []

-- field k by what is held of a line
unfoldable pub held_at : Split → ℕ → List ℕ → List ℕ
held_at split k line = bytes_at (get_or split.places k nowhere) line
