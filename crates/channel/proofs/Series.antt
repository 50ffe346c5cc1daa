-- Series of setpoints, newest first: what is added to them, what lies k samples back, and the first of them.
-- Assumes nothing.
use Prim.Native.Nat.{ℕ, zero, suc, ◌+◌, ◌≤◌, ◌<◌}
use mathlib.Core.Path.{◌≡◌, refl, sym, ap, ◌∙◌}
use mathlib.Core.List.{List, [], ◌∷◌, ◌++◌, append_assoc}
use native.Mathlib.Omega.{arith}
use lib.IntN.{ℤ}
use lib.ListN.{length, length-append, get_or-eq_default}
use Rattle.channel.specs.Backward.{series_after, first, past}

-- ---- setpoints added to a series

pub series-append : (h ss : List ℤ) → series_after h ss ≡ series_after [] ss ++ h
unfolding series_after
series-append h [] = refl
series-append h (s ∷ ss) =
    series-append (s ∷ h) ss
    ∙ sym (append_assoc (series_after [] ss) (s ∷ []) h)
    ∙ ap (λ (l : List ℤ). l ++ h) (sym (series-append (s ∷ []) ss))

pub series-length : (h ss : List ℤ) → length (series_after h ss) ≡ length ss + length h
unfolding series_after
series-length h [] = omega arith
series-length h (s ∷ ss) = omega (arith, series-length (s ∷ h) ss)

-- some, and then others
pub series-on : (h a b : List ℤ) → series_after h (a ++ b) ≡ series_after (series_after h a) b
unfolding series_after
series-on h [] b = refl
series-on h (s ∷ a) b = series-on (s ∷ h) a b

pub series-end : (h a : List ℤ) (s : ℤ) → series_after h (a ++ (s ∷ [])) ≡ s ∷ series_after h a
unfolding series_after
series-end h a s = series-on h a (s ∷ [])

-- ---- the first of a series, and what lies before it

first-append : (b t : List ℤ) → 0 < length t → first (b ++ t) ≡ first t
unfolding first
first-append [] t h = refl
first-append (s ∷ []) [] h = absurd (omega arith)
first-append (s ∷ []) (u ∷ t) h = refl
first-append (s ∷ (r ∷ b)) t h = first-append (r ∷ b) t h

pub past-older : (s : ℤ) (l : List ℤ) (k : ℕ) → 0 < length l → past (s ∷ l) (suc k) ≡ past l k
unfolding past
past-older s l k h = rw (first-append (s ∷ []) l h)

-- two pasts that agree so far back agree so far back behind the same setpoints
pub past-behind : (b t u : List ℤ) (n : ℕ) → 0 < length t → 0 < length u → ((j : ℕ) → j < n → past t j ≡ past u j)
    → (k : ℕ) → k < length b + n → past (b ++ t) k ≡ past (b ++ u) k
unfolding past
past-behind [] t u n ht hu e k l = e k (omega arith)
past-behind (s ∷ b) t u n ht hu e zero l = refl
past-behind (s ∷ b) t u n ht hu e (suc k) l =
    past-older s (b ++ t) k (omega (arith, length-append b t))
    ∙ past-behind b t u n ht hu e k (omega arith)
    ∙ sym (past-older s (b ++ u) k (omega (arith, length-append b u)))

-- before the first of a series, what lies back is equal to it
pub past-before : (h : List ℤ) (k : ℕ) → length h ≤ k → past h k ≡ first h
unfolding past
past-before h k l = get_or-eq_default h (first h) l
