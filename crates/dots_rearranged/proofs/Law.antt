-- The law, of every format and every rearrangement inside its runs. Assumes nothing.
use Rattle.dots_rearranged.specs.Laws.{RearrangementLaw}
use Rattle.dots_rearranged.proofs.Gathered.{sum_rearranged}
use Rattle.dots_rearranged.proofs.Weights.{weights_moved}
use Rattle.dots_rearranged.proofs.Small.{weights_bytes}
use Rattle.dots_rearranged.proofs.Blocks.{block_dots}
use Rattle.dots_rearranged.proofs.Activations.{activations}
use Rattle.dots_rearranged.proofs.Rows.{row_dots}
use Rattle.dots_rearranged.proofs.Layers.{layers}

pub rearranged : RearrangementLaw
rearranged = record {
  sums = sum_rearranged;
  kept = λ f orders each. record {
    blocks = λ w m b h enough. weights_moved f orders m w each b h enough;
    bytes = weights_bytes f orders;
    block_dots = block_dots f orders each;
    activations = activations f orders each;
    row_dots = row_dots f orders each;
    layers = layers f orders each;
  };
}
