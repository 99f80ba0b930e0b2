-- A row of weights that are whole blocks. Assumes nothing.
use mathlib.Core.Path.{◌≡◌}
use Prim.Native.Nat.{ℕ, ◌*◌, ◌/◌, ◌%◌, ◌<◌}
use native.Mathlib.Nat.{mul-mod_left, mul-div_cancel}
use native.Mathlib.Omega.{arith}
use Rattle.layouts.specs.Formats.{bytes_k}
use Rattle.layouts.specs.Weights.{values_of}
use Rattle.layouts.specs.declared.format.FormatK.{FormatK}
use Rattle.layouts.specs.declared.format.Format.TheVariants.{OfK}
use Rattle.layouts.proofs.Sizes.{sizes}
use Rattle.layers_shape.specs.Shapes.{row_bytes}

-- the values of a row's bytes are as many as the row has places
pub row_values : (f : FormatK) (n room : ℕ) → n % 256 ≡ 0 → room ≡ row_bytes f n → (room % bytes_k f ≡ 0) × (values_of (OfK f) room ≡ n)
row_values f n room whole e =
    let positive : 0 < bytes_k f = omega (arith, sizes (OfK f)) in
    let back : n / 256 * bytes_k f / bytes_k f ≡ n / 256 = mul-div_cancel (n / 256) positive in
    let all : n / 256 * 256 ≡ n = omega arith in
    (rw e (mul-mod_left (n / 256) (bytes_k f)), rw (e, back) all)
