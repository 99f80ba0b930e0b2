-- What is known where a decoder does not refuse. Assumes nothing.
use mathlib.Core.Path.{◌≡◌}
use Prim.Native.Nat.{ℕ, ◌≤◌}
use borrow.Author.Tests.{ltb-false}
use Rattle.refusals.specs.Said.{done}
use Rattle.refusals.proofs.Laws.{given_passed}
use Rattle.layouts.specs.Weights.{values_of}
use Rattle.decoders.specs.Says.{dequantize_refusal}
use Rattle.layouts.specs.declared.format.Format.{Format}

pub room_for_values : (f : Format) (n room : ℕ) → dequantize_refusal f n room ≡ done → values_of f n ≤ room
unfolding dequantize_refusal
room_for_values f n room e = ltb-false _ _ (given_passed _ _ _ _ (given_passed _ _ _ _ (given_passed _ _ _ _ e).1).1).0
