-- `settle::turn` meets its contract: what is fed and what is left make what was at hand.
-- Assumes nothing.
use Rattle.std.proofs.Common.{◌≡◌, ℕ, ◌-◌, ◌≤◌, List, Some, length, take, drop, ap, ◌∙◌, subst, arith}
use lib.Seq.{length-take-le}
use Rattle.feed.specs.Feeding.{Through}
use Rattle.settle.proofs.turn.Goals as goal

-- what is within the bytes at hand is within the block
few : (all n : ℕ) (block : List ℕ) → all ≤ length block → n ≤ length (take all block) → (n ≤ all) × (n ≤ length block)
few all n block h l = let e : length (take all block) ≡ all = length-take-le all block h in (omega arith, omega arith)

same_left : (a b : ℕ) → Some a ≡ Some b → a ≡ b
same_left a b e = cc

pub returns-clause-fed : goal.returns-clause-fed
returns-clause-fed g c = λ left e.
    let in_all = few _ _ _ c.requires.all_in_bounds c.fed_length-end.ensures.0 in
    let end_is : c.fed_length-end.result ≡ c.args.all - left = omega (arith, in_all.0, c.left_over.ensures.0, same_left _ _ e) in
    subst (λ (n : ℕ). Through c.args.reader.now.0 (take n c.args.block.now) c.fed.new.self.0) end_is (c.fed.ensures c.if-not-fed.false)

pub returns-clause-kept : goal.returns-clause-kept
returns-clause-kept g c = λ left e.
    let in_all = few _ _ _ c.requires.all_in_bounds c.fed_length-end.ensures.0 in
    let end_is : c.fed_length-end.result ≡ c.args.all - c.left_over.result = omega (arith, in_all.0, c.left_over.ensures.0) in
    subst (λ (n : ℕ). take n c.left_over.new.block ≡ take n (drop (c.args.all - n) c.args.block.now)) (same_left _ _ e)
    (c.left_over.ensures.1 ∙ ap (λ (n : ℕ). take c.left_over.result (drop n c.args.block.now)) end_is)
