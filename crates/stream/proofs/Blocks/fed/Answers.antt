-- `Blocks::fed` ends: what is written was printed, so a call that goes on used some bytes. Assumes nothing.
use Rattle.std.proofs.Common.{rules, ◌≡◌, ◌<◌, false, length}
use Rattle.stream.proofs.Blocks.fed.Goals as goal

pub loop-self-smaller : goal.loop-self-smaller
loop-self-smaller g c =
    let printed = c.written.ensures c.if-not-written.false in
    let going : g.Self.Blocks.stopped c.loop-self.self ≡ false = search (rules, c.stopped.ensures, c.if-not-stopped.true) in
    let left : 0 < length c.loop-self.left.now = search (rules, c.is_empty.ensures, c.loop-self-test.true) in
    let used : 0 < c.read-part.result.used = c.read-part.ensures.some printed.0 printed.1 going left in
    search (rules, used)
