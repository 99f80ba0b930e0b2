-- `payload::same_bytes` meets its contract. Assumes nothing.
use Rattle.replay_answers.proofs.Means.{begins}
use Rattle.replay_answers.proofs.payload.same_bytes.Goals as goal

pub returns : goal.returns
returns c = begins _ _ _ c.starts_with.ensures.value
