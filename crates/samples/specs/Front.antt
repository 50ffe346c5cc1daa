-- What the private functions say of the front of a sample line, which may stand as on the line before: bytes as one number, a setpoint that is kept.
use Rattle.std.specs.Prelude.{◌≡◌, ℕ, zero, suc, ◌+◌, ◌-◌, ◌*◌, ◌<◌, ◌≤◌, Bool, true, cond, leb, List, drop, length, pos, slice_index, slice_index_or, Option, Some, option_map}
use Rattle.lines.specs.Lines.{lines_of}
use Rattle.samples.specs.Scan.{Field, first_of}
use Rattle.samples.specs.declared.Row.{Row}
use Rattle.samples.specs.declared.Front.{Front}

-- n bytes from a place on as one number, the first of them lowest
unfoldable pub packed : ℕ → List ℕ → ℕ → ℕ
packed zero s at = 0
packed (suc n) s at = slice_index s at + packed n s (at + 1) * 256

pub record Packed (s : List ℕ) (at n word : ℕ) : Type 0 where
  pub is : word ≡ packed n s at
  pub bytes : (i : ℕ) → slice_index s i < 256

-- how wide a setpoint is that eight bytes hold with the tab behind it; of as many bytes as there are, any other is as wide as all
unfoldable pub width_in : ℕ → ℕ → ℕ → ℕ
width_in all from tab = cond (leb 7 tab) (cond (leb (tab - from) 7) (tab - from) all) all

abbrev pub no_front : ℕ → Front
no_front all = record { from = 0; setpoint = pos 0; tab = 0; width = all }

-- the front of a line before this one, whose setpoint stands at `from`; one whose tab has less than seven bytes before it says nothing
pub record Kept (s : List ℕ) (from : ℕ) (former : Front) : Type 0 where
  pub earlier : former.from ≤ from
  pub field : 7 ≤ former.tab → Field s former.from 9 (record { value = former.setpoint; to = former.tab })
  pub width : former.width ≡ width_in (length s) former.from former.tab

-- where the answer is yes, the same setpoint stands here
pub record Same (s : List ℕ) (from : ℕ) (former : Front) (r : Bool) : Type 0 where
  pub wide : r ≡ true → former.from ≤ former.tab
  pub width : r ≡ true → former.width ≡ former.tab - former.from
  pub few : r ≡ true → (7 ≤ former.tab) × (former.width ≤ 7)
  pub field : r ≡ true → Field s from 9 (record { value = former.setpoint; to = from + (former.tab - former.from) })

-- S, a tab, a setpoint in range and a tab at a place
pub record Heads (s : List ℕ) (at : ℕ) (front : Front) : Type 0 where
  pub letter : slice_index_or s at 0 ≡ 83
  pub first_tab : slice_index_or s (at + 1) 0 ≡ 9
  pub from : front.from ≡ at + 2
  pub field : Field s (at + 2) 9 (record { value = front.setpoint; to = front.tab })
  pub width : front.width ≡ width_in (length s) (at + 2) front.tab

pub record Fronted (s : List ℕ) (at : ℕ) (r : Option Front) : Type 0 where
  pub sound : (f : Front) → r ≡ Some f → Heads s at f
  pub complete : {f : Front} → Heads s at f → r ≡ Some f

-- what the first line at a place says, and the front that it then has
pub record Sampled (s : List ℕ) (at : ℕ) (r : Option (Front × Row)) : Type 0 where
  pub is : first_of at (lines_of (drop at s)) ≡ option_map (λ (p : Front × Row). p.1) r
  pub front : (f : Front) (row : Row) → r ≡ Some (f, row) → Heads s at f
