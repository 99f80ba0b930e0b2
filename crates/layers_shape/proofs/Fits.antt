-- What is known where a layer does not refuse. Assumes nothing.
use mathlib.Core.Path.{◌≡◌, refl}
use mathlib.Core.Bool.{Bool, true, false, ◌||◌, true≢false}
use Prim.Native.Nat.{ℕ, ◌*◌, ◌%◌, ◌≤◌}
use native.Mathlib.Nat.{le_trans, mul-le-mul_right, mul-le-mul_left}
use native.Mathlib.Omega.{arith}
use borrow.Author.Tests.{ltb-false, eqb-true, not-false}
use Rattle.refusals.specs.Said.{done}
use Rattle.refusals.specs.Sizes.{most_in, most_out, most_batch}
use Rattle.refusals.proofs.Laws.{given_passed}
use Rattle.layouts.specs.Formats.{bytes_k}
use Rattle.layouts.specs.declared.format.FormatK.{FormatK}
use Rattle.layouts.specs.declared.format.Format.TheVariants.{OfK}
use Rattle.layouts.proofs.Sizes.{sizes}
use Rattle.layers_shape.specs.declared.Shape.{Shape}
use Rattle.layers_shape.specs.Shapes.{oversize, row_bytes, weight_bytes, layer_refusal}

neither : (a b : Bool) → (a || b) ≡ false → (a ≡ false) × (b ≡ false)
neither true b e = absurd (true≢false e)
neither false b e = (refl, e)

-- no size is over its most
pub record InSizes (s : Shape) : Type 0 where
  pub batch_in : s.batch ≤ most_batch
  pub in_in : s.in_feat ≤ most_in
  pub out_in : s.out_feat ≤ most_out

pub in_sizes : (s : Shape) → oversize s ≡ false → InSizes s
unfolding oversize
in_sizes s e =
    let first = neither _ _ e in
    let second = neither _ _ first.1 in
    record { batch_in = ltb-false _ _ first.0; in_in = ltb-false _ _ second.0; out_in = ltb-false _ _ second.1 }

-- a row's bytes are few
pub row_small : (f : FormatK) (n : ℕ) → n ≤ most_in → row_bytes f n ≤ 107520
row_small f n h =
    let z = sizes (OfK f) in
    le_trans (mul-le-mul_right (bytes_k f) (omega arith)) (mul-le-mul_left 512 z.1)

-- rows of readings, outputs and rows of weights, as many as they may be
pub product_small : (a b A B : ℕ) → a ≤ A → b ≤ B → a * b ≤ A * B
product_small a b A B h k = le_trans (mul-le-mul_right b h) (mul-le-mul_left A k)

-- all that a layer of whole K blocks asks for is there
pub record Fits (f : FormatK) (s : Shape) (readings weights places : ℕ) : Type 0 where
  pub within : InSizes s
  pub whole : s.in_feat % 256 ≡ 0
  pub weighed : weight_bytes f s.in_feat s.out_feat ≤ weights
  pub read : s.batch * s.in_feat ≤ readings
  pub room : s.batch * s.out_feat ≤ places

pub fits : (f : FormatK) (s : Shape) (readings weights places : ℕ) → layer_refusal f s readings weights places ≡ done → Fits f s readings weights places
unfolding layer_refusal
fits f s readings weights places e =
    let g6 = given_passed _ _ _ _ e in
    let g2 = given_passed _ _ _ _ g6.1 in
    let g3 = given_passed _ _ _ _ g2.1 in
    let g4 = given_passed _ _ _ _ g3.1 in
    let g5 = given_passed _ _ _ _ g4.1 in
    record {
      within = in_sizes s g6.0;
      whole = eqb-true _ _ (not-false _ g2.0);
      weighed = ltb-false _ _ g3.0;
      read = ltb-false _ _ g4.0;
      room = ltb-false _ _ g5.0;
    }
