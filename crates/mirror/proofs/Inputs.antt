-- POSITIVE AND NEGATIVE ARE ONE RULE, over whole inputs.
-- Assumes nothing.
use Prim.Native.Nat.{ℕ, zero, suc, ◌+◌, ◌<◌}
use mathlib.Core.Path.{◌≡◌, refl, ap, ap₂, ◌∙◌}
use mathlib.Core.List.{List, ◌++◌}
use lib.ListN.{length}
use Rattle.vocabulary.specs.Direction.{mirror_of}
use Rattle.vocabulary.specs.declared.direction.Direction.{Direction}
use Rattle.vocabulary.specs.declared.direction.Direction.TheVariants.{Positive, Negative}
use Rattle.std.specs.Prelude.{Err}
use Rattle.vocabulary.specs.Refusals.{Ruling}
use Rattle.vocabulary.specs.declared.refusal.Refusal.TheVariants.{NoEnd}
use Rattle.series.proofs.Scanned.{each-length}
use Rattle.sheets.specs.Sheet.{refusal_text}
use Rattle.meaning.specs.Given.{Given, deals_in, pool_in, lines_in, quarters_in}
use Rattle.meaning.specs.Meaning.{SoFar, nothing, these, side_text, quarter_text}
use Rattle.meaning.specs.Endings.{quarters_text, printed, AcceptedInput, RefusedInput, ShortInput}
use Rattle.meaning.specs.Mirror.{mirror_sample, mirror_given, mirror_so, mirror_ending}
use Rattle.meaning.proofs.Inputs.{accepted-input, refused-input, short-input}
use Rattle.meaning.proofs.Mirror.{pool-mirrored, lines-mirrored, header-mirrored, total-mirrored, block-mirrored, end-text-mirrored}
use Rattle.join.proofs.BlockAccepted.{accepted-whole}
use Rattle.join.proofs.Sheets.{whole-some}
use Rattle.mirror.specs.Bytes.{mirror_input}
use Rattle.mirror.specs.Exchanged.{side_as, quarters_exchanged, printed_exchanged, SideMirrored, MirrorAccepted, MirrorRefused, MirrorShort}
use Rattle.mirror.proofs.LineMirror.{direction-twice}
use Rattle.mirror.proofs.InputMirror.{input-twice}
use Rattle.mirror.proofs.EndingMirror.{ending-mirrored, refused-ends, short-ends}

-- ---- a quarter hour of a direction

deals-exchanged : (d : Direction) (g : Given) → deals_in d (mirror_given g) ≡ deals_in (mirror_of d) g
deals-exchanged Positive g = refl
deals-exchanged Negative g = refl

module _ (d : Direction) (g : Given) (q : ℕ) where
  pool-exchanged : pool_in d (mirror_given g) q ≡ pool_in (mirror_of d) g q
  pool-exchanged = rw (direction-twice d) at (pool-mirrored g q (mirror_of d))

  lines-exchanged : lines_in d (mirror_given g) q ≡ lines_in (mirror_of d) g q
  lines-exchanged = rw (direction-twice d) at (lines-mirrored g q (mirror_of d))

  side-text : (n : ℕ) → side_text n d (mirror_given g) q ≡ side_as n d (mirror_of d) g q
  unfolding side_text side_as
  side-text n = rw (deals-exchanged d g, pool-exchanged, lines-exchanged)

  pub side-mirrored : SideMirrored d g q
  side-mirrored = record { contracts = deals-exchanged d g; pool = pool-exchanged; lines = lines-exchanged; text = side-text }

-- ---- all of them, and V before them

quarters-mirrored : (n : ℕ) (g : Given) (q : ℕ) → quarters_text n (mirror_given g) q ≡ quarters_exchanged n g q
unfolding quarters_text quarters_exchanged quarter_text
quarters-mirrored n g zero = refl
quarters-mirrored n g (suc q) = ap₂ ◌++◌ (quarters-mirrored n g q) (ap₂ ◌++◌ (side-text Positive g q (n + q)) (side-text Negative g q (n + q)))

printed-mirrored : (so : SoFar) → printed (mirror_so so) ≡ printed_exchanged so
printed-mirrored nothing = refl
printed-mirrored (these g) = rw (each-length mirror_sample g.samples) (ap₂ ◌++◌ (header-mirrored g) (quarters-mirrored 0 g _))

-- ---- THE PROMISES

-- the mirror of an accepted input
pub mirror-accepted : (input : List ℕ) (g : Given) → AcceptedInput input g → MirrorAccepted input g
mirror-accepted input g a =
    let some : 0 < length g.samples = whole-some g (accepted-whole a) in
    let m = accepted-input (mirror_input input) (mirror_given g) (ending-mirrored input ∙ ap mirror_ending a.ends) in
    record {
      accepted = m;
      header = header-mirrored g;
      sides = λ d q. side-mirrored d g q;
      total = total-mirrored g;
      block = block-mirrored g some;
      text = m.text ∙ ap₂ ◌++◌ (header-mirrored g) (ap₂ ◌++◌ (quarters-mirrored 0 g (quarters_in g)) (end-text-mirrored g some));
    }

-- of a refused one
pub mirror-refused : (input : List ℕ) (so : SoFar) (n : ℕ) (refusal : Ruling) → RefusedInput input so n refusal → MirrorRefused input so n refusal
mirror-refused input so n refusal r =
    let m = refused-input (mirror_input input) (mirror_so so) n refusal (ending-mirrored input ∙ ap mirror_ending (refused-ends r)) in
    record { refused = m; text = m.text ∙ ap (λ (l : List ℕ). l ++ refusal_text n refusal) (printed-mirrored so) }

-- and of one that stops short
pub mirror-short : (input : List ℕ) (so : SoFar) (n : ℕ) → ShortInput input so n → MirrorShort input so n
mirror-short input so n s =
    let m = short-input (mirror_input input) (mirror_so so) n (ending-mirrored input ∙ ap mirror_ending (short-ends s)) in
    record { short = m; text = m.text ∙ ap (λ (l : List ℕ). l ++ refusal_text n (Err NoEnd)) (printed-mirrored so) }

-- and the other way round: an input whose mirror is accepted is accepted
pub accepted-back : (input : List ℕ) (g : Given) → AcceptedInput (mirror_input input) g → AcceptedInput input (mirror_given g)
accepted-back input g a = rw (input-twice input) at (mirror-accepted (mirror_input input) g a).accepted
