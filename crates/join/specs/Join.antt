-- Two runs of which the second starts from the block that the first hands on, and the one run over both (docs/RULES.md, 'The start').
use Rattle.std.specs.Prelude.{ℕ, ◌+◌, ◌<◌, ◌≡◌, List, ◌++◌, ℤ, ◌+ℤ◌, length, Ok}
use Rattle.vocabulary.specs.declared.header.Header.{Header}
use Rattle.sheets.specs.Sheet.{closing_text}
use Rattle.channel.specs.Start.{carried}
use Rattle.meaning.specs.Given.{Given, headed, interval_in, lot_in, quarters_in, block_in, lines_up_to, sum_over, fee_in, penalty_in}
use Rattle.meaning.specs.Meaning.{all_samples, header_ground, header_text, settled}
use Rattle.meaning.specs.Endings.{quarters_text, AcceptedInput}

-- one quarter hour or more, with all samples
pub record Whole (g : Given) : Type 0 where
  pub some : 0 < quarters_in g
  pub complete : length g.samples ≡ all_samples g

-- the same contracts, lot and interval
pub record Alike (g h : Given) : Type 0 where
  pub interval : interval_in g ≡ interval_in h
  pub lot : lot_in g ≡ lot_in h
  pub positives : g.positives ≡ h.positives
  pub negatives : g.negatives ≡ h.negatives

-- g is a, and then b, which starts from the block that a hands on
pub record Joins (a b g : Given) : Type 0 where
  pub first : Alike g a
  pub second : Alike g b
  pub start : g.start ≡ a.start
  pub block : b.start ≡ carried (block_in a)
  pub samples : g.samples ≡ a.samples ++ b.samples
  pub quarters : quarters_in g ≡ quarters_in a + quarters_in b

-- the sums of T
abbrev pub fees_of : Given → ℤ
fees_of g = sum_over fee_in (lines_up_to g (quarters_in g))

abbrev pub penalties_of : Given → ℤ
penalties_of g = sum_over penalty_in (lines_up_to g (quarters_in g))

-- THE SHEETS of both and of the one: its quarter hours are those of the first and then those of the second, numbered on; its T has the sums of both; it hands on the
-- block that the second does
pub record JoinedSheets (a b g : Given) : Type 0 where
  pub quarters : quarters_text 0 g (quarters_in g) ≡ quarters_text 0 a (quarters_in a) ++ quarters_text (quarters_in a) b (quarters_in b)
  pub fees : fees_of g ≡ fees_of a +ℤ fees_of b
  pub penalties : penalties_of g ≡ penalties_of a +ℤ penalties_of b
  pub block : block_in g ≡ block_in b

-- ---- over inputs

-- A HEADER FOR BOTH: in range, with their interval and lot, and as many quarter hours as both have
pub record HeaderForBoth (a b : Given) (h : Header) : Type 0 where
  pub good : header_ground h ≡ Ok tt
  pub interval : interval_in (headed h) ≡ interval_in a
  pub lot : lot_in (headed h) ≡ lot_in a
  pub quarters : quarters_in (headed h) ≡ quarters_in a + quarters_in b

-- what both say, under such a header: the start and the contracts of the first, and the samples of both
abbrev pub both_given : Header → Given → Given → Given
both_given h a b = record { header = h; start = a.start; positives = a.positives; negatives = a.negatives; samples = a.samples ++ b.samples }

-- T of both, and the block of the second
abbrev pub both_closing : Given → Given → List ℕ
both_closing a b = closing_text (quarters_in a + quarters_in b) (record { 0 = fees_of a +ℤ fees_of b }) (record { 0 = penalties_of a +ℤ penalties_of b }) (block_in b)

-- AN INPUT OVER BOTH: it is accepted; it is the two joined; and what it prints is V, their quarter hours, T of both, and the block of the second
pub record JoinedInput (a b g : Given) (input : List ℕ) : Type 0 where
  pub accepted : AcceptedInput input g
  pub joins : Joins a b g
  pub sheets : JoinedSheets a b g
  pub text : settled input ≡ header_text g ++ ((quarters_text 0 a (quarters_in a) ++ quarters_text (quarters_in a) b (quarters_in b)) ++ both_closing a b)
