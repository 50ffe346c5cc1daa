-- What it is to write text into a lent buffer.
use Rattle.std.specs.Prelude.{ℕ, ◌+◌, ◌-◌, ◌≤◌, List, ◌≡◌, length}
use Rattle.std.proofs.lemmas.List.Edits.{sets}

-- the largest place that there is a number for; no buffer reaches it
abbrev pub last : ℕ
last = 18446744073709551615

-- the place after n bytes from place at on; the last place stands for all that lie past it
abbrev pub after : ℕ → ℕ → ℕ
after at n = at + n - (at + n - last)

-- d' is d with the bytes xs from place at on, as far as d reaches, and r is the place after xs
pub record Wrote (d : List ℕ) (at : ℕ) (xs : List ℕ) (r : ℕ) (d' : List ℕ) : Type 0 where
  pub next : r ≡ after at (length xs)
  pub bytes : d' ≡ sets d at xs
  -- so it is with every buffer
  pub reach : length d ≤ last
