-- `frame::rest` meets its contract: what follows a whole record. Assumes nothing.
use mathlib.Core.Path.{sym, ap, ◌∙◌}
use Prim.Native.Nat.{ℕ, ◌-◌}
use lib.ListN.{length, drop, length-drop}
use lib.Seq.{take_all}
use native.Mathlib.Omega.{arith}
use Rattle.frames.specs.Frame.{rest_of}
use Rattle.frames.proofs.Whole.{frame_whole, frame_none}
use Rattle.frames.proofs.frame.rest.Goals as goal

pub returns-then-is_whole : goal.returns-then-is_whole
returns-then-is_whole c =
    let s = c.args.s.now in
    let n = c.size_of-from.result in
    take_all (length s - n) (drop n s) (rw length-drop (omega arith))
    ∙ ap (λ (k : ℕ). drop k s) c.size_of-from.ensures.0
    ∙ ap rest_of (sym (frame_whole s (sym c.is_whole.ensures ∙ c.if-is_whole.true)))

pub returns-else-is_whole : goal.returns-else-is_whole
returns-else-is_whole c = sym (frame_none _ (sym c.is_whole.ensures ∙ c.if-is_whole.false)).1
