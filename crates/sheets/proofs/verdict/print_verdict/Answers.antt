-- `sheets::verdict::print_verdict` meets its contract.
-- Assumes nothing.
use Rattle.sheets.specs.Verdict.{verdict_text}
use native.Mathlib.Omega.{arith}
use Rattle.std.proofs.Common.{rules}
use Rattle.sheets.proofs.verdict.print_verdict.Goals as goal

pub returns : goal.returns
returns c =
    let printed = c.refused_or_written.ensures 25 (verdict_text c.args.verdict) (omega arith) (λ d r d' p. search rules) in
    record { answer = printed.answer; bytes = printed.bytes; room = omega (arith, printed.short) }
