-- `cpu::all_columns` meets its contract: a row of weights is decoded, and its column filled, a turn. Assumes nothing.
use mathlib.Core.Path.{◌≡◌}
use Rattle.layers_shape.specs.Shapes.{reading_row}
use Rattle.layers_cpu.specs.Says.{decoded_dot_at}
use Rattle.layers_cpu.specs.Columns.{columns, scratch_of}
use Rattle.layers_cpu.proofs.cpu.all_columns.Given as goal

abbrev pub invariant-loop-o : goal.invariant-loop-o
invariant-loop-o l =
    (l.y ≡ columns (λ b r. decoded_dot_at l.format (reading_row l.x l.s b) l.w l.n r) l.s.batch l.s.out_feat l.initial.y l.o)
    × (l.scratch ≡ scratch_of l.format l.w l.n l.initial.scratch l.o)
