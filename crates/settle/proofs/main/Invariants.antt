use Rattle.std.proofs.Common.{◌≡◌, ◌≤◌, length}
use Rattle.sheets.specs.Buffer.{buffer_length}
use Rattle.settle.proofs.main.Given as goal

-- the bytes that are left are within the block
abbrev pub invariant-loop : goal.invariant-loop
invariant-loop l = (65536 ≡ length l.block) × (buffer_length ≡ length l.out) × (l.left ≤ 65536)
