-- A layer that is refused for its weights has fewer whole blocks of them than it needs. Assumes nothing.
use mathlib.Core.Path.{sym, subst}
use Prim.Native.Nat.{ℕ, ◌*◌, ◌/◌, ◌<◌}
use native.Mathlib.Nat.{mul_assoc}
use Rattle.refusals.specs.Said.{found_by}
use Rattle.layouts.specs.Formats.{bytes_k}
use Rattle.layouts.specs.declared.format.FormatK.{FormatK}
use Rattle.layouts.proofs.Short.{short_of_bytes}
use Rattle.layers_shape.specs.Shapes.{weight_bytes, layer_short}

pub short_of_a_layer : (f : FormatK) (in_feat out_feat weights : ℕ) → weights < weight_bytes f in_feat out_feat → found_by (layer_short f in_feat out_feat weights) < out_feat * (in_feat / 256)
short_of_a_layer f in_feat out_feat weights h =
    short_of_bytes f weights (out_feat * (in_feat / 256)) (subst (λ (k : ℕ). weights < k) (sym (mul_assoc out_feat (in_feat / 256) (bytes_k f))) h)
