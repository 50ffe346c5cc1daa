-- The sheet of a run and that of its mirror (docs/RULES.md, 'One rule for both directions').
use Rattle.std.specs.Prelude.{ℕ, zero, suc, ◌+◌, ◌≡◌, List, [], ◌++◌, Err}
use Rattle.vocabulary.specs.Direction.{mirror_of}
use Rattle.vocabulary.specs.declared.direction.Direction.{Direction}
use Rattle.vocabulary.specs.declared.direction.Direction.TheVariants.{Positive, Negative}
use Rattle.vocabulary.specs.Refusals.{Ruling}
use Rattle.vocabulary.specs.declared.refusal.Refusal.TheVariants.{NoEnd}
use Rattle.channel.specs.Mirror.{mirrored_block}
use Rattle.sheets.specs.Sheet.{pool_text, total_text, block_text, refusal_text}
use Rattle.meaning.specs.Given.{Given, deals_in, pool_in, lines_in, quarters_in, block_in}
use Rattle.meaning.specs.Meaning.{SoFar, nothing, these, side_text, deals_text, header_text, settled}
use Rattle.meaning.specs.Endings.{complete_in, AcceptedInput, RefusedInput, ShortInput}
use Rattle.meaning.specs.Mirror.{mirror_given, mirror_so}
use Rattle.join.specs.Join.{fees_of, penalties_of}
use Rattle.mirror.specs.Bytes.{mirror_input}

-- the Q and K lines of a direction d in quarter hour q, under number n, but with the letter of direction l
unfoldable pub side_as : ℕ → Direction → Direction → Given → ℕ → List ℕ
side_as n l d g q = pool_text n l (pool_in d g q) ++ deals_text n l (deals_in d g) (lines_in d g q)

-- the first q quarter hours, numbered from n on, with P and N exchanged: under P what is N's, under N what is P's
unfoldable pub quarters_exchanged : ℕ → Given → ℕ → List ℕ
quarters_exchanged n g zero = []
quarters_exchanged n g (suc q) = quarters_exchanged n g q ++ (side_as (n + q) Positive Negative g q ++ side_as (n + q) Negative Positive g q)

-- V, and the quarter hours that are complete, with P and N exchanged
abbrev pub printed_exchanged : SoFar → List ℕ
printed_exchanged nothing = []
printed_exchanged (these g) = header_text g ++ quarters_exchanged 0 g (complete_in g)

-- T: the quarter hours, and the sums of fees and penalties
abbrev pub total_of : Given → List ℕ
total_of g = total_text (quarters_in g) (record { 0 = fees_of g }) (record { 0 = penalties_of g })

-- A QUARTER HOUR OF A DIRECTION in the mirror: the contracts, the pool's figures and those of each contract, in order, are the other direction's; printed they differ in the letter alone
pub record SideMirrored (d : Direction) (g : Given) (q : ℕ) : Type 0 where
  pub contracts : deals_in d (mirror_given g) ≡ deals_in (mirror_of d) g
  pub pool : pool_in d (mirror_given g) q ≡ pool_in (mirror_of d) g q
  pub lines : lines_in d (mirror_given g) q ≡ lines_in (mirror_of d) g q
  pub text : (n : ℕ) → side_text n d (mirror_given g) q ≡ side_as n d (mirror_of d) g q

-- THE MIRROR OF AN ACCEPTED INPUT is accepted, with the mirror of what was given: V and T are the same, so is each quarter hour with P and N exchanged; the block that is handed on
-- is the mirrored one
pub record MirrorAccepted (input : List ℕ) (g : Given) : Type 0 where
  pub accepted : AcceptedInput (mirror_input input) (mirror_given g)
  pub header : header_text (mirror_given g) ≡ header_text g
  pub sides : (d : Direction) (q : ℕ) → SideMirrored d g q
  pub total : total_of (mirror_given g) ≡ total_of g
  pub block : block_in (mirror_given g) ≡ mirrored_block (block_in g)
  pub text : settled (mirror_input input) ≡ header_text g ++ (quarters_exchanged 0 g (quarters_in g) ++ (total_of g ++ block_text (mirrored_block (block_in g))))

-- THE MIRROR OF A REFUSED INPUT is refused at the same line with the same number; what was printed before is the same with P and N exchanged
pub record MirrorRefused (input : List ℕ) (so : SoFar) (n : ℕ) (refusal : Ruling) : Type 0 where
  pub refused : RefusedInput (mirror_input input) (mirror_so so) n refusal
  pub text : settled (mirror_input input) ≡ printed_exchanged so ++ refusal_text n refusal

-- THE MIRROR OF AN INPUT THAT STOPS SHORT stops short after as many lines
pub record MirrorShort (input : List ℕ) (so : SoFar) (n : ℕ) : Type 0 where
  pub short : ShortInput (mirror_input input) (mirror_so so) n
  pub text : settled (mirror_input input) ≡ printed_exchanged so ++ refusal_text n (Err NoEnd)
