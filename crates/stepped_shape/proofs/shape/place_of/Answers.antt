-- `shape::place_of` meets its contract. Assumes nothing.
use native.Mathlib.Omega.{arith}
use Rattle.stepped_shape.specs.Layer.{place}
use Rattle.stepped_shape.proofs.Shapes.{place_within, few_pieces}
use Rattle.stepped_shape.proofs.shape.place_of.Goals as goal

pub overflow_mul-result : goal.overflow_mul-result
unfolding place
overflow_mul-result c = rw c.chunks_of.ensures (omega (arith, place_within _ _ _ c.requires.1, few_pieces _ c.requires.0))

pub overflow_add-result : goal.overflow_add-result
unfolding place
overflow_add-result c = rw c.chunks_of.ensures (omega (arith, place_within _ _ _ c.requires.1, few_pieces _ c.requires.0))

pub returns : goal.returns
unfolding place
returns c = rw c.chunks_of.ensures (omega (arith, place_within _ _ _ c.requires.1))
