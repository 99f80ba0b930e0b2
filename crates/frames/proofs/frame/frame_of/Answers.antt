-- `frame::frame_of` meets its contract: a whole record has its kind. Assumes nothing.
use mathlib.Core.Path.{sym, ◌∙◌}
use native.Mathlib.Omega.{arith}
use Rattle.frames.proofs.Whole.{whole_size}
use Rattle.frames.proofs.frame.frame_of.Goals as goal

pub u16_at-requires : goal.u16_at-requires
u16_at-requires c = omega (arith, whole_size _ (sym c.is_whole.ensures ∙ c.if-not-is_whole.false))
