-- `dot::row_dot` meets its contract. Assumes nothing.
use Rattle.std.proofs.Common.{rules}
use Rattle.dots_fused.proofs.dot.row_dot.Goals as goal

pub meet_chunks-requires : goal.meet_chunks-requires
meet_chunks-requires c κs within = (search rules, (c.requires.0, (λ i h _ _ _ _ _ _ _ _ _ _ _. (c.requires.0, c.requires.1, c.requires.2, h), λ i y h e. search rules)))
