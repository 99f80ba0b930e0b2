-- `run_only::against_ones`: the weights are ones.
use Rattle.std.proofs.Common.{ap, ◌∙◌, Float}
use Rattle.refusals.specs.Said.{Said}
use Rattle.replay_answers.specs.Same.{same_answer}
use Rattle.bench_card.specs.RunOnly.{ones}
use Rattle.bench_card.proofs.run_only.against_ones.Goals as goal

pub returns : goal.returns
unfolding ones
returns c = c.same_answer.ensures ∙ ap (λ (t : Said Float). same_answer t c.args.number c.args.sum) c.canonical_dot_pub.ensures
