-- Document 01's bench card, all twelve rows, by computing. Assumes nothing.
use mathlib.Core.Path.{◌≡◌, refl}
use mathlib.Core.List.{map}
use lib.Ieee.{of_bits, of_fields, odd, size, span, climb, units, round, sum, add, mul, div, neg, lt, le, eq, of_int, to_bits, to_signed}
use Rattle.refusals.specs.Refusals.{given, or_else, carried_out}
use Rattle.memory.specs.Lists.{table}
use Rattle.halves.specs.Binary16.{widened, narrowed}
use Rattle.readings.specs.Readings.{largest, largest_value, quant_q8, quant_q40}
use Rattle.quantizers.specs.Blocks.{scale_of, stored_scale, scaled_reading, quant_of, quant_byte, byte_at}
use Rattle.quantizers.specs.Says.{packed_at, quantize_refusal, quantize_says}
use Rattle.sums_tree.specs.Tree.{pair_up, met, tree}
use Rattle.sums_lanes.specs.Lanes.{add_to, lanes_from, lanes, chunk_sum}
use Rattle.sums.specs.Rows.{chunk_at, row_sum}
use Rattle.sums.specs.Says.{sum_says}
use Rattle.dots_activation.specs.Blocks.{block_of, block_says}
use Rattle.bench_rows.specs.Card.{Row, answer, card}

-- what the definitions answer to each row is what the card says
pub card_holds : map (λ (r : Row). answer r.asks) card ≡ map (λ (r : Row). r.says) card
unfolding card answer widened narrowed quantize_says quantize_refusal given or_else carried_out packed_at byte_at quant_byte quant_of scaled_reading stored_scale scale_of largest_value largest quant_q40 quant_q8 sum_says row_sum chunk_at chunk_sum lanes lanes_from add_to tree met pair_up block_says block_of table of_bits of_fields odd size span climb units round sum add mul div neg lt le eq of_int to_bits to_signed
card_holds = refl
