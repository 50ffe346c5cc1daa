-- `contracts::identifier::padded` meets its contract.
-- Assumes nothing.
use Rattle.std.proofs.Common.{arith, sym, ◌∙◌}
use lib.Seq.{length-take-le}
use Rattle.contracts.specs.Identifier.{kept_length, padded_of}
use Rattle.contracts.proofs.Identifiers.{kept-fits, drop-zeros}
use Rattle.contracts.proofs.identifier.padded.Goals as goal

pub slice_bounds-bytes-end : goal.slice_bounds-bytes-end
slice_bounds-bytes-end c = omega (arith, c.kept_length-kept.ensures, kept-fits c.args.identifier.now)

pub slice_bounds-copy_from_slice-end : goal.slice_bounds-copy_from_slice-end
slice_bounds-copy_from_slice-end c = sym (length-take-le _ _ (omega (arith, c.kept_length-kept.ensures, kept-fits c.args.identifier.now)))

pub slice_bounds-copy_from_slice-end-2 : goal.slice_bounds-copy_from_slice-end-2
slice_bounds-copy_from_slice-end-2 c = sym (length-take-le _ _ (omega (arith, c.kept_length-kept.ensures, kept-fits c.args.identifier.now)))

pub copy_from_slice-requires : goal.copy_from_slice-requires
copy_from_slice-requires c =
    length-take-le _ _ (omega (arith, c.kept_length-kept.ensures, kept-fits c.args.identifier.now))
    ∙ sym (length-take-le _ _ (omega (arith, c.kept_length-kept.ensures, kept-fits c.args.identifier.now)))

pub returns : goal.returns
unfolding padded_of
returns c =
    let k = kept_length c.args.identifier.now in
    rw (c.copy_from_slice.ensures.after, c.kept_length-kept.ensures, drop-zeros 16 k)
