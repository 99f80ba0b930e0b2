-- `cpu::fill_column` meets its contract: one row's dot a turn. Assumes nothing.
use mathlib.Core.Path.{◌≡◌}
use Prim.Native.Nat.{◌*◌}
use Rattle.memory.specs.Lists.{part}
use Rattle.sums_lanes.specs.Lanes.{products}
use Rattle.sums.specs.Rows.{row_sum}
use Rattle.layers_cpu.specs.Columns.{column}
use Rattle.layers_cpu.proofs.cpu.fill_column.Given as goal

abbrev pub invariant-loop-b : goal.invariant-loop-b
invariant-loop-b l = l.y ≡ column (λ k. row_sum (products (part l.x (k * l.n) l.n) l.row) l.n) l.outs l.o l.initial.y l.b
