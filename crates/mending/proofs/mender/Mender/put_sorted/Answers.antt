-- `mending::mender::Mender::put_sorted` meets its contract. Assumes nothing.
use Rattle.std.proofs.Common.{to_z-of_z, w32, SFits, arith, rules}
use Rattle.arithmetic.proofs.Signed.{back}
use Rattle.mending.proofs.MenderLaws.{wider, hole-short, stray-text, repeated-text}
use Rattle.mending.proofs.mender.Mender.put_sorted.Goals as goal

pub put_good-requires : goal.put_good-requires
put_good-requires c = hole-short c.args.self _ (rw c.in-Good.is at c.requires)

pub returns-in-Stray : goal.returns-in-Stray
returns-in-Stray c =
    let f : SFits w32 c.args.row.second = search rules in
    rw (c.in-Stray.is, stray-text c.args.row.second)
    (wider 4184 (omega arith) (rw (back {z = c.from.result} c.from.type_inv, c.from.ensures, to_z-of_z f) at c.put_mark.ensures))

pub returns-in-Repeated : goal.returns-in-Repeated
returns-in-Repeated c =
    let f : SFits w32 c.args.row.second = search rules in
    rw (c.in-Repeated.is, repeated-text c.args.row.second)
    (wider 4184 (omega arith) (rw (back {z = c.from-in-Repeated.result} c.from-in-Repeated.type_inv, c.from-in-Repeated.ensures, to_z-of_z f) at c.put_mark-in-Repeated.ensures))
