-- What the private functions say of the bytes that they scan: digits, numbers, a line.
use Rattle.std.specs.Prelude.{◌≡◌, ℕ, zero, suc, ◌+◌, ◌-◌, ◌*◌, ◌<◌, ◌≤◌, true, false, cond, ◌&&◌, List, [], ◌∷◌, ◌++◌, length, drop, ℤ, slice_index, slice_index_or, Option, Some, None}
use Rattle.fields.specs.Numbers.{is_digit, unsigned_of, number_of}
use Rattle.lines.specs.Lines.{lines_of}
use Rattle.reading.specs.Line.{line_of}
use Rattle.reading.specs.declared.Line.{Line}
use Rattle.reading.specs.declared.Line.TheVariants as L
use Rattle.vocabulary.specs.Sample.{power_in_range}
use Rattle.samples.specs.declared.Digits.{Digits}
use Rattle.samples.specs.declared.Found.{Found}
use Rattle.samples.specs.declared.Row.{Row}

-- a place of some bytes, of which the last is an LF
pub record Ended (s : List ℕ) (at : ℕ) : Type 0 where
  pub within : at < length s
  pub ended : slice_index_or s (length s - 1) 0 ≡ 10

-- the complete lines of a block end at e: what follows has no LF
pub record Cut (s : List ℕ) (e : ℕ) : Type 0 where
  pub within : e ≤ length s
  pub none : lines_of (drop e s) ≡ []
  pub ended : 0 < e → slice_index s (e - 1) ≡ 10

-- the value v with the digits at the front of some bytes, which start at `at`, n of them at most
unfoldable pub digits_from : ℕ → ℕ → ℕ → List ℕ → Digits
digits_from zero at v xs = record { value = v; to = at }
digits_from (suc n) at v [] = record { value = v; to = at }
digits_from (suc n) at v (x ∷ xs) = cond (is_digit x) (digits_from n (at + 1) (v * 10 + (x - 48)) xs) (record { value = v; to = at })

pub record Counted (s : List ℕ) (from : ℕ) (r : Digits) : Type 0 where
  pub is : r ≡ digits_from 7 from 0 (drop from s)
  pub stands : Ended s r.to

-- the bytes before `to` are a number of no sign in range
pub record Spells (s : List ℕ) (from : ℕ) (r : Digits) : Type 0 where
  pub bytes : List ℕ
  pub rest : List ℕ
  pub form : drop from s ≡ bytes ++ rest
  pub says : unsigned_of 9 bytes ≡ Some r.value
  pub small : r.value ≤ 2000000
  pub place : r.to ≡ from + length bytes
  pub stands : Ended s r.to

-- n stands there, before a byte that is no digit
pub record Standing (s : List ℕ) (from n : ℕ) : Type 0 where
  pub bytes : List ℕ
  pub byte : ℕ
  pub rest : List ℕ
  pub form : drop from s ≡ bytes ++ (byte ∷ rest)
  pub stop : is_digit byte ≡ false
  pub says : unsigned_of 9 bytes ≡ Some n
  pub small : n ≤ 2000000

-- what is found is such a number, and each that stands there is found
pub record Unsigned (s : List ℕ) (from : ℕ) (r : Option Digits) : Type 0 where
  pub sound : (d : Digits) → r ≡ Some d → Spells s from d
  pub complete : {n : ℕ} (a : Standing s from n) → r ≡ Some (record { value = n; to = from + length a.bytes })

-- the same under either sign
pub record Names (s : List ℕ) (from : ℕ) (r : Found) : Type 0 where
  pub bytes : List ℕ
  pub rest : List ℕ
  pub form : drop from s ≡ bytes ++ rest
  pub says : number_of bytes ≡ Some r.value
  pub ranged : power_in_range r.value ≡ true
  pub place : r.to ≡ from + length bytes
  pub stands : Ended s r.to

pub record Written (s : List ℕ) (from : ℕ) (z : ℤ) : Type 0 where
  pub bytes : List ℕ
  pub byte : ℕ
  pub rest : List ℕ
  pub form : drop from s ≡ bytes ++ (byte ∷ rest)
  pub stop : is_digit byte ≡ false
  pub says : number_of bytes ≡ Some z
  pub ranged : power_in_range z ≡ true

pub record Powered (s : List ℕ) (from : ℕ) (r : Option Found) : Type 0 where
  pub sound : (f : Found) → r ≡ Some f → Names s from f
  pub complete : {z : ℤ} (a : Written s from z) → r ≡ Some (record { value = z; to = from + length a.bytes })

-- a power that a byte ends
pub record Field (s : List ℕ) (from byte : ℕ) (f : Found) : Type 0 where
  pub bytes : List ℕ
  pub rest : List ℕ
  pub form : drop from s ≡ bytes ++ (byte ∷ rest)
  pub says : number_of bytes ≡ Some f.value
  pub ranged : power_in_range f.value ≡ true
  pub place : f.to ≡ from + length bytes

pub record Fielded (s : List ℕ) (from byte : ℕ) (r : Option Found) : Type 0 where
  pub sound : (f : Found) → r ≡ Some f → Field s from byte f
  pub complete : {f : Found} → Field s from byte f → r ≡ Some f

-- the row of a setpoint z: a power and an LF stand after the tab behind it
pub record Closes (s : List ℕ) (tab : ℕ) (z : ℤ) (row : Row) : Type 0 where
  pub end : ℕ
  pub setpoint : row.setpoint ≡ z
  pub actual : Field s (tab + 1) 10 (record { value = row.actual; to = end })
  pub place : row.to ≡ end + 1

pub record Closed (s : List ℕ) (tab : ℕ) (z : ℤ) (r : Option Row) : Type 0 where
  pub sound : (row : Row) → r ≡ Some row → Closes s tab z row
  pub complete : {row : Row} → Closes s tab z row → r ≡ Some row

-- a power, a tab, a power and an LF at a place: the end of a sample's line
pub record Pair (s : List ℕ) (from : ℕ) (row : Row) : Type 0 where
  pub a : List ℕ
  pub b : List ℕ
  pub rest : List ℕ
  pub form : drop from s ≡ a ++ (9 ∷ (b ++ (10 ∷ rest)))
  pub setpoint : number_of a ≡ Some row.setpoint
  pub actual : number_of b ≡ Some row.actual
  pub setpoint_ranged : power_in_range row.setpoint ≡ true
  pub actual_ranged : power_in_range row.actual ≡ true
  pub place : row.to ≡ from + length a + 1 + length b + 1

pub record Paired (s : List ℕ) (from : ℕ) (r : Option Row) : Type 0 where
  pub sound : (row : Row) → r ≡ Some row → Pair s from row
  pub complete : {row : Row} → Pair s from row → r ≡ Some row

-- a line that ends before `to`
abbrev pub row_of : ℕ → Line → Option Row
row_of to (L.Sample s) =
    cond (power_in_range s.setpoint && power_in_range s.actual) (Some (record { setpoint = s.setpoint; actual = s.actual; to = to })) None
row_of to (L.Header h) = None
row_of to (L.Bounds b) = None
row_of to (L.Setpoint s) = None
row_of to (L.Contract c) = None
row_of to L.End = None
row_of to L.Malformed = None

-- the first of some lines, which start at `at`
unfoldable pub first_of : ℕ → List (List ℕ) → Option Row
first_of at [] = None
first_of at (line ∷ lines) = row_of (at + (length line + 1)) (line_of line)
