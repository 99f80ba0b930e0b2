-- `blocks::decode_block` meets its contract: each family of formats its own. Assumes nothing.
use mathlib.Core.Path.{sym, ap, ◌∙◌}
use Rattle.memory.specs.Lists.{table}
use Rattle.layouts.specs.Formats.{block_bytes, block_values}
use Rattle.layouts.specs.Weights.{value_in}
use Rattle.layouts.specs.declared.format.Format.{Format}
use Rattle.decoders.proofs.blocks.decode_block.Goals as goal

pub decode_32-requires : goal.decode_32-requires
decode_32-requires c = (c.requires.0 ∙ ap block_bytes c.in-Of32.is, c.requires.1 ∙ ap block_values c.in-Of32.is)

pub decode_k-requires : goal.decode_k-requires
decode_k-requires c = (c.requires.0 ∙ ap block_bytes c.in-OfK.is, c.requires.1 ∙ ap block_values c.in-OfK.is)

pub returns-in-Of32 : goal.returns-in-Of32
returns-in-Of32 c = c.decode_32.ensures ∙ ap (λ (f : Format). table (value_in f c.args.block.now) (block_values f)) (sym c.in-Of32.is)

pub returns-in-OfK : goal.returns-in-OfK
returns-in-OfK c = c.decode_k.ensures ∙ ap (λ (f : Format). table (value_in f c.args.block.now) (block_values f)) (sym c.in-OfK.is)
