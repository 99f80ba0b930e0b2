-- `shape::chunks_of` meets its contract. Assumes nothing.
use Rattle.stepped_shape.proofs.Shapes.{shaped}
use Rattle.stepped_shape.proofs.shape.chunks_of.Goals as goal

pub chunks_in-requires : goal.chunks_in-requires
chunks_in-requires c = (shaped _ c.requires).inputs
