-- The reader of recordings as one of blocks: the text of an input's end finds room in a buffer of the length that is asked for. Assumes nothing.
use Rattle.std.proofs.Common.{◌≡◌, ℕ, Ok, length, ap, refl, arith}
use Rattle.sheets.specs.Buffer.{length_of}
use Rattle.sheets.proofs.Yielding.{answers, same_length}
use Rattle.mendfeed.specs.Reader.{finish_of}
use Rattle.mendfeed.specs.declared.Fed.{Fed}
use Rattle.mend.proofs.MendingBlocks.finish.Goals as goal

pub returns : goal.returns
returns c = record {
  prints =
      let h = c.requires in
      let y = c.finish-ended.ensures in
      let text = (finish_of c.args.self.now.0).text in
      let printed : c.finish-ended.result.printed ≡ Ok (length text) = ap (λ (f : Fed). f.printed) (answers h y) in
      let same : length c.finish-ended.new.out ≡ length c.args.out.now = same_length h y refl in
      (length text, printed, omega (arith, y.room, ap length_of printed, same));
}
