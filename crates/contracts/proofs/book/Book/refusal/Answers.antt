-- `contracts::book::Book::refusal` meets its contract: each test of the code is a ground of the cascade, in its order.
-- Assumes nothing.
use borrow.Author.Tests.{le-leb, lt-leb}
use mathlib.Core.Bool.{true, false}
use mathlib.Core.Path.{◌≡◌, sym, ◌∙◌}
use mir.Facts.{to_z-of_z}
use Rattle.contracts.specs.Identifier.{well_formed}
use Rattle.contracts.specs.Book.{listed, full, taken, award_in_range, awards_too_high, price_in_range, below_last, contract_refusal}
use Rattle.contracts.proofs.book.Book.refusal.Goals.{After-awards_too_high, After-below_last, After-within, After-within-2, Else-awards_too_high, Else-holds-2, Else-not-well_formed, Else-not-within, Else-not-within-2, Else-self-ge32, then-holds-via-then-holds, then-holds-via-else-holds+then-holds-2}
use Rattle.contracts.proofs.book.Book.refusal.Goals as goal

-- ---- what the calls tell

told-9 : (c : After-within) → c.within.result ≡ award_in_range c.args.award
unfolding award_in_range
told-9 c = c.within.ensures ∙ rw (to_z-of_z c.ranges.award)

told-10 : (c : After-awards_too_high) → c.awards_too_high.result ≡ awards_too_high c.args.award (listed c.args.self)
told-10 c = c.awards_too_high.ensures ∙ rw (to_z-of_z c.ranges.award)

told-11 : (c : After-within-2) → c.within-2.result ≡ price_in_range c.args.price
unfolding price_in_range
told-11 c = c.within-2.ensures ∙ rw (to_z-of_z c.ranges.price)

told-12 : (c : After-below_last) → c.below_last.result ≡ below_last c.args.price (listed c.args.self)
told-12 c = c.below_last.ensures ∙ rw (to_z-of_z c.ranges.price)

-- ---- what holds past each ground

past-6 : (c : Else-self-ge32) → full c.args.self ≡ false
unfolding full
past-6 c = lt-leb _ _ c.if-self-ge32.false

past-7 : (c : Else-not-well_formed) → well_formed c.args.identifier.now ≡ true
past-7 c = sym c.well_formed-2.ensures ∙ c.if-not-well_formed.false

past-8 : (c : Else-holds-2) → taken c.args.identifier.now c.args.self c.args.other ≡ false
unfolding taken
past-8 c =
    let own = c in
    rw (← own.padded-bytes.ensures, sym own.holds.ensures ∙ own.if-holds.false, sym c.holds-else-holds.ensures ∙ c.if-holds-2.false)

past-9 : (c : Else-not-within) → award_in_range c.args.award ≡ true
unfolding award_in_range
past-9 c = sym (c.within.ensures ∙ rw (to_z-of_z c.ranges.award)) ∙ c.if-not-within.false

past-10 : (c : Else-awards_too_high) → awards_too_high c.args.award (listed c.args.self) ≡ false
past-10 c = sym (c.awards_too_high.ensures ∙ rw (to_z-of_z c.ranges.award)) ∙ c.if-awards_too_high.false

past-11 : (c : Else-not-within-2) → price_in_range c.args.price ≡ true
unfolding price_in_range
past-11 c = sym (c.within-2.ensures ∙ rw (to_z-of_z c.ranges.price)) ∙ c.if-not-within-2.false

-- ---- each answer

pub returns-then-self-ge32 : goal.returns-then-self-ge32
unfolding contract_refusal full
returns-then-self-ge32 c = rw (le-leb _ _ c.if-self-ge32.true)

pub returns-then-not-well_formed : goal.returns-then-not-well_formed
unfolding contract_refusal
returns-then-not-well_formed c =
    let at = goal.at.returns-then-not-well_formed c in
    rw (past-6 at.Else-self-ge32, sym c.well_formed-2.ensures ∙ c.if-not-well_formed.true)

pub returns-then-holds : goal.returns-then-holds
unfolding contract_refusal taken
returns-then-holds c =
    let at = goal.at.returns-then-holds c in
    let found : taken c.args.identifier.now c.args.self c.args.other ≡ true =
    elim c.then-holds.branch [
      | then-holds-via-then-holds w ↦ rw (← c.padded-bytes.ensures, sym c.holds.ensures ∙ w.if-holds.true)
      | then-holds-via-else-holds+then-holds-2 w ↦ rw (← c.padded-bytes.ensures, sym c.holds.ensures ∙ w.if-holds.false, sym w.holds-else-holds.ensures ∙ w.if-holds-2.true)
    ] in
    rw (past-6 at.Else-self-ge32, past-7 at.Else-not-well_formed, found)

pub returns-then-not-within : goal.returns-then-not-within
unfolding contract_refusal
returns-then-not-within c =
    let at = goal.at.returns-then-not-within c in
    rw (past-6 at.Else-self-ge32, past-7 at.Else-not-well_formed, past-8 at.Else-holds-2, sym (told-9 at.After-within) ∙ c.if-not-within.true)

pub returns-then-awards_too_high : goal.returns-then-awards_too_high
unfolding contract_refusal
returns-then-awards_too_high c =
    let at = goal.at.returns-then-awards_too_high c in
    rw (past-6 at.Else-self-ge32, past-7 at.Else-not-well_formed, past-8 at.Else-holds-2, past-9 at.Else-not-within, sym (told-10 at.After-awards_too_high) ∙ c.if-awards_too_high.true)

pub returns-then-not-within-2 : goal.returns-then-not-within-2
unfolding contract_refusal
returns-then-not-within-2 c =
    let at = goal.at.returns-then-not-within-2 c in
    rw (past-6 at.Else-self-ge32, past-7 at.Else-not-well_formed, past-8 at.Else-holds-2, past-9 at.Else-not-within, past-10 at.Else-awards_too_high, sym (told-11 at.After-within-2) ∙ c.if-not-within-2.true)

pub returns-then-below_last : goal.returns-then-below_last
unfolding contract_refusal
returns-then-below_last c =
    let at = goal.at.returns-then-below_last c in
    rw (
      past-6 at.Else-self-ge32,
      past-7 at.Else-not-well_formed,
      past-8 at.Else-holds-2,
      past-9 at.Else-not-within,
      past-10 at.Else-awards_too_high,
      past-11 at.Else-not-within-2,
      sym (told-12 at.After-below_last) ∙ c.if-below_last.true,
    )

pub returns : goal.returns
unfolding contract_refusal
returns c =
    let at = goal.at.returns c in
    rw (
      past-6 at.Else-self-ge32,
      past-7 at.Else-not-well_formed,
      past-8 at.Else-holds-2,
      past-9 at.Else-not-within,
      past-10 at.Else-awards_too_high,
      past-11 at.Else-not-within-2,
      sym (told-12 at.After-below_last) ∙ c.if-below_last.false,
    )
