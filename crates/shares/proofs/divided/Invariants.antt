use Rattle.shares.specs.Shares.{share_floor, remainder, amount}
use Rattle.series.proofs.Scanned.{Mapped}
use Rattle.arithmetic.specs.declared.energy.Kwh.{Kwh}
use Prim.Native.Nat.{ℕ}
use Rattle.shares.proofs.divided.Given as goal

-- the share rounded down, and the remainder, of a gap in kWh
abbrev pub down : ℕ → ℕ → Kwh → ℕ
down handed total gap = share_floor handed total (amount gap)

abbrev pub rest : ℕ → ℕ → Kwh → ℕ
rest handed total gap = remainder handed total (amount gap)

abbrev pub invariant-loop-k : goal.invariant-loop-k
invariant-loop-k l =
    Mapped (down l.handed l.total) l.fn.gaps l.initial.floors l.floors l.k × Mapped (rest l.handed l.total) l.fn.gaps l.initial.rests l.rests l.k
