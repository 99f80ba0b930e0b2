-- As many outputs as the layer has rows. Assumes nothing.
use Prim.Native.Nat.{ℕ}
use mathlib.Core.Path.{◌≡◌}
use mathlib.Core.List.{List}
use lib.ListN.{length}
use lib.Ieee.{Float}
use Rattle.memory.proofs.Filled.{length_table}
use Rattle.stepped_shape.specs.declared.shape.Layer.{Layer}
use Rattle.fillin_window.specs.Windows.{Sound, outputs_of}

pub as_many : (l : Layer) (n : ℕ) → Sound l n → (w : List ℕ) (x : List Float) → length (outputs_of l w x) ≡ l.out_feat
as_many l n s w x = rw s.named (length_table _ _)
