-- Numbers and dates as bytes (docs/RULES.md, 'The sheet').
use Rattle.std.specs.Prelude.{ℕ, zero, suc, ◌+◌, ◌/◌, ◌%◌, cond, List, [], ◌∷◌, ◌++◌, ltb, ℤ, pos, negsuc}
use Rattle.arithmetic.specs.declared.date.Date.{Date}

abbrev pub tab : List ℕ
tab = 9 ∷ []

abbrev pub line_end : List ℕ
line_end = 10 ∷ []

abbrev pub hyphen : List ℕ
hyphen = 45 ∷ []

-- the last digit of n
abbrev pub last_digit : ℕ → List ℕ
last_digit n = (48 + n % 10) ∷ []

-- the digits of n, at most f of them
unfoldable pub digits_in : ℕ → ℕ → List ℕ
digits_in zero n = []
digits_in (suc f) n = cond (ltb n 10) (last_digit n) (digits_in f (n / 10) ++ last_digit n)

-- as many digits as n needs, with no leading zero: n has at most n + 1
unfoldable pub digits : ℕ → List ℕ
digits n = digits_in (suc n) n

-- a minus before a negative number, and no minus zero
unfoldable pub number_text : ℤ → List ℕ
number_text (pos n) = digits n
number_text (negsuc n) = hyphen ++ digits (suc n)

-- the last two and the last four digits of n, with leading zeros
unfoldable pub two_digits : ℕ → List ℕ
two_digits n = last_digit (n / 10) ++ last_digit n

unfoldable pub four_digits : ℕ → List ℕ
four_digits n = two_digits (n / 100) ++ two_digits n

-- four, two and two digits with hyphens between
unfoldable pub date_text : Date → List ℕ
date_text date = four_digits date.year ++ (hyphen ++ two_digits date.month) ++ (hyphen ++ two_digits date.day)
