-- What is known where a `_cpu` layer does not refuse. Assumes nothing.
use mathlib.Core.Path.{◌≡◌, sym, ap, ◌∙◌}
use Prim.Native.Nat.{ℕ, ◌*◌, ◌/◌, ◌%◌, ◌≤◌, ◌<◌}
use native.Mathlib.Nat.{mul_assoc, mul-div_cancel}
use native.Mathlib.Omega.{arith}
use borrow.Author.Tests.{ltb-false, eqb-true, not-false}
use Rattle.refusals.specs.Said.{done}
use Rattle.refusals.proofs.Laws.{given_passed}
use Rattle.layouts.specs.Formats.{bytes32}
use Rattle.layouts.specs.Weights.{values_of}
use Rattle.layouts.specs.declared.format.Format32.{Format32}
use Rattle.layouts.specs.declared.format.Format.{Format}
use Rattle.layouts.specs.declared.format.Format.TheVariants.{Of32, OfK}
use Rattle.layouts.proofs.Sizes.{least_32}
use Rattle.layers_shape.specs.declared.Shape.{Shape}
use Rattle.layers_shape.proofs.Fits.{InSizes, in_sizes}
use Rattle.layers_cpu_checks.specs.Refusals.{cpu_refusal}

-- all that a `_cpu` layer asks for is there
pub record CpuFits (f : Format) (s : Shape) (readings weights places scratch : ℕ) : Type 0 where
  pub within : InSizes s
  pub read : readings ≡ s.batch * s.in_feat
  pub room : places ≡ s.batch * s.out_feat
  pub weighed : values_of f weights ≡ s.out_feat * s.in_feat
  pub spare : s.in_feat ≤ scratch

-- rows of whole blocks of 32 have as many values as places
values_32 : (f : Format32) (n rows weights : ℕ) → n % 32 ≡ 0 → weights ≡ rows * (n / 32 * bytes32 f) → values_of (Of32 f) weights ≡ rows * n
values_32 f n rows weights whole e =
    let positive : 0 < bytes32 f = omega (arith, least_32 f) in
    let all : n / 32 * 32 ≡ n = omega arith in
    let count : weights / bytes32 f ≡ rows * (n / 32) = ap (λ (k : ℕ). k / bytes32 f) (e ∙ sym (mul_assoc rows (n / 32) (bytes32 f))) ∙ mul-div_cancel (rows * (n / 32)) positive in
    ap (λ (k : ℕ). k * 32) count ∙ mul_assoc rows (n / 32) 32 ∙ ap (λ (k : ℕ). rows * k) all

pub cpu_fits : (f : Format) (s : Shape) (readings weights places scratch : ℕ) → cpu_refusal f s readings weights places scratch ≡ done → CpuFits f s readings weights places scratch
unfolding cpu_refusal
cpu_fits (OfK f) s readings weights places scratch e =
    let g6 = given_passed _ _ _ _ e in
    let g4 = given_passed _ _ _ _ g6.1 in
    let g5 = given_passed _ _ _ _ g4.1 in
    let g1 = given_passed _ _ _ _ g5.1 in
    let g3 = given_passed _ _ _ _ g1.1 in
    let last = given_passed _ _ _ _ g3.1 in
    record {
      within = in_sizes s g6.0;
      read = eqb-true _ _ (not-false _ g4.0);
      room = eqb-true _ _ (not-false _ g5.0);
      weighed = eqb-true _ _ (not-false _ g3.0);
      spare = ltb-false _ _ last.0;
    }
cpu_fits (Of32 f) s readings weights places scratch e =
    let g6 = given_passed _ _ _ _ e in
    let g2 = given_passed _ _ _ _ g6.1 in
    let g3 = given_passed _ _ _ _ g2.1 in
    let g4 = given_passed _ _ _ _ g3.1 in
    let g5 = given_passed _ _ _ _ g4.1 in
    let last = given_passed _ _ _ _ g5.1 in
    record {
      within = in_sizes s g6.0;
      read = eqb-true _ _ (not-false _ g4.0);
      room = eqb-true _ _ (not-false _ g5.0);
      weighed = values_32 f s.in_feat s.out_feat weights (eqb-true _ _ (not-false _ g2.0)) (eqb-true _ _ (not-false _ g3.0));
      spare = ltb-false _ _ last.0;
    }
