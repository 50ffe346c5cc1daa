-- THE SHEET EXPLAINS ITSELF (request L9): of every accepted input, and of every quarter hour that a call took.
-- Assumes nothing.
use Prim.Native.Nat.{ℕ}
use mathlib.Core.List.{List}
use native.Mathlib.Omega.{arith}
use lib.ListN.{take}
use Rattle.series.specs.Scan.{each}
use Rattle.vocabulary.specs.declared.direction.Direction.{Direction}
use Rattle.vocabulary.specs.declared.direction.Direction.TheVariants.{Positive, Negative}
use Rattle.quarter.specs.declared.sheet.Sheet.{Sheet}
use Rattle.quarter.specs.Quarter.{figures_in, sheet_for}
use Rattle.settlement.specs.declared.run.Taken.{Taken}
use Rattle.meaning.specs.Given.{Given, lines_in, pool_in}
use Rattle.meaning.specs.Endings.{Proper, AcceptedInput}
use Rattle.meaning.specs.Promises.{SheetOf, TakenSo}
use Rattle.meaning.proofs.Figures.{few-deals, lines-count}
use Rattle.explain.specs.Explained.{Column, Explained}
use Rattle.explain.proofs.Added.{apart}

-- with what was given in range, so with 32 lines at most
explained : (g : Given) → Proper g → (q : ℕ) (d : Direction) (c : Column) → Explained c (pool_in d g q) (lines_in d g q)
explained g p q d c =
    record {
      near = omega (arith, apart c d g q);
      less = apart c d g q;
      most = omega (arith, apart c d g q, lines-count g p q d, few-deals g p d);
    }

-- THE SECOND FACT of request L9: every quarter hour of an accepted input, in each direction and each column
pub accepted-explained : (input : List ℕ) (g : Given) → AcceptedInput input g → (q : ℕ) (d : Direction) (c : Column) → Explained c (pool_in d g q) (lines_in d g q)
accepted-explained input g a q d c = explained g a.proper q d c

-- and of a sheet as calls hand it out: its first `count` lines
sheet-explained : (g : Given) → Proper g → (q : ℕ) (d : Direction) (c : Column) (sheet : Sheet) → SheetOf d g q sheet → Explained c sheet.pool (each figures_in (take sheet.count sheet.lines))
sheet-explained g p q d c sheet s = rw (s.pool, s.count, s.figures) (explained g p q d c)

pub taken-explained : (g : Given) → Proper g → (t : ℕ) (r : Taken) → TakenSo g t r → (d : Direction) (c : Column)
    → Explained c (sheet_for d r.sheets).pool (each figures_in (take (sheet_for d r.sheets).count (sheet_for d r.sheets).lines))
taken-explained g p t r s Positive c = sheet-explained g p t Positive c r.sheets.positive s.positive
taken-explained g p t r s Negative c = sheet-explained g p t Negative c r.sheets.negative s.negative
