-- `run_only::against_one_block`: the block's values are ones.
use Rattle.std.proofs.Common.{ap, ◌∙◌, Float}
use Rattle.refusals.specs.Said.{Said}
use Rattle.replay_answers.specs.Same.{same_answer}
use Rattle.bench_card.specs.RunOnly.{block_of_ones}
use Rattle.bench_card.proofs.run_only.against_one_block.Goals as goal

pub returns : goal.returns
unfolding block_of_ones
returns c = c.same_answer.ensures ∙ ap (λ (t : Said Float). same_answer t c.args.number c.args.sum) (rw c.copy_from_slice.ensures.after at c.canonical_dot_q4k_fused.ensures)
