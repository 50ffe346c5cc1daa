-- A contract's slice depends on the awards up to its own, and on nothing else: no price, no later contract (demand 3).
-- Assumes nothing.
use Rattle.std.proofs.Common.{◌≡◌, ℕ, ◌+◌, ◌*◌, List, [], ◌∷◌, take, refl, ap, ◌∙◌}
use Rattle.series.specs.Scan.{outputs, each}
use Rattle.contracts.specs.declared.terms.Terms.{Terms}
use Rattle.series.specs.Cuts.{cut, highest, cuts_of}
use Rattle.contracts.specs.Terms.{upper_of, limits_of}
use Rattle.series.proofs.Scanned.{take-outputs}

abbrev pub award_in : Terms → ℕ
award_in t = t.award

abbrev pub raised : ℕ → ℕ → ℕ
raised low award = low + award * 5400

-- limits are sums of awards alone
by-awards : (low : ℕ) (ts : List Terms) → outputs upper_of upper_of low ts ≡ outputs raised raised low (each award_in ts)
unfolding outputs each upper_of
by-awards low [] = refl
by-awards low (t ∷ ts) = rw (by-awards (low + t.award * 5400) ts)

-- the first k slices by the first k awards
pub cuts_first : (ts : List Terms) (k : ℕ) → take k (cuts_of (limits_of ts)) ≡ cuts_of (outputs raised raised 0 (each award_in (take k ts)))
cuts_first ts k = take-outputs highest cut 0 (limits_of ts) k ∙ ap cuts_of (take-outputs upper_of upper_of 0 ts k ∙ by-awards 0 (take k ts))
