-- `answers::take_layer`: the weights that are copied to the front are laid there.
use Rattle.std.proofs.Common.{◌≡◌, ◌++◌, ℕ, List, length, drop, sym, ap, ◌∙◌}
use Rattle.fillin_text.specs.Text.{laid}
use Rattle.fillin_text.proofs.Laid.{laid_front}
use Rattle.records.specs.Kinds.{weights_in}
use Rattle.fillin_answer.proofs.answers.take_layer.Goals as goal

-- a text copied to the front is laid there
copied_front : (xs src text ys : List ℕ) → src ≡ text → ys ≡ src ++ drop (length src) xs → ys ≡ laid xs 0 text
copied_front xs src text ys e h = h ∙ sym (laid_front xs src) ∙ ap (laid xs 0) e

pub returns-clause-weights_after : goal.returns-clause-weights_after
returns-clause-weights_after c =
    copied_front c.args.weights.now c.weights.result.now (weights_in c.args.payload.now) c.copy_to_front.new.buf c.weights.ensures c.copy_to_front.ensures.copied
