-- The fused dot is decoding the row and taking its dot: the same value, and the same refusals. Assumes nothing.
use Prim.{Unit}
use mathlib.Core.Path.{◌≡◌, sym, ap, ◌∙◌}
use mathlib.Core.List.{List}
use Prim.Native.Nat.{ℕ, ◌%◌, ◌≤◌, ◌<◌}
use native.Mathlib.Nat.{le_refl, le_trans, lt_of_lt_of_le}
use borrow.Author.Tests.{le-ltb, eq-eqb, eqb-true, not-false}
use lib.ListN.{length, get_or, drop, get_or-append}
use lib.Ieee.{Float, nan, binary32, mul}
use Rattle.refusals.specs.Said.{Said, done}
use Rattle.refusals.specs.Refusals.{given}
use Rattle.refusals.proofs.Laws.{given_passed, carried_value, carried_said}
use Rattle.memory.specs.Lists.{table, filled}
use Rattle.memory.proofs.Filled.{length_table, get_or_table, length_filled}
use Rattle.layouts.specs.Formats.{bytes_k}
use Rattle.layouts.specs.Weights.{weight_at, values_of}
use Rattle.layouts.specs.declared.format.FormatK.{FormatK}
use Rattle.layouts.specs.declared.format.Format.TheVariants.{OfK}
use Rattle.decoders.specs.Says.{dequantize_refusal, dequantize_says}
use Rattle.decoders.proofs.Refused.{room_for_values}
use Rattle.sums_lanes.specs.Lanes.{products}
use Rattle.sums.specs.Rows.{row_sum}
use Rattle.sums.specs.Says.{dot_says}
use Rattle.sums.proofs.RowLaws.{row_cong}
use Rattle.dots_fused_block.specs.Terms.{terms}
use Rattle.dots_fused.specs.Says.{fused_says}

-- a decoder that refuses nothing was handed whole blocks
whole_blocks : (f : FormatK) (n room : ℕ) → dequantize_refusal (OfK f) n room ≡ done → n % bytes_k f ≡ 0
unfolding dequantize_refusal
whole_blocks f n room e =
    let later = (given_passed _ _ _ _ e).1 in
    eqb-true _ _ (not-false _ (given_passed _ _ _ _ later).0)

-- y has the row's weights at its first n places
abbrev pub Holds : FormatK → List ℕ → ℕ → List Float → Type 0
Holds f w n y = (n ≤ length y) × ((i : ℕ) → i < n → get_or y i nan ≡ weight_at (OfK f) w i)

module _ (f : FormatK) (x : List Float) (w : List ℕ) (n : ℕ) where
  -- the row's sum is that of the products of the readings and the row decoded
  pub row_decoded : (y : List Float) → Holds f w n y → row_sum (terms f x w) n ≡ row_sum (products x y) n
  row_decoded y h = row_cong _ _ n (λ i u. ap (mul binary32 (get_or x i nan)) (sym (h.1 i u)))

  -- Of whole blocks that have n weights the fused dot says what `canonical_dot_pub` says of the row decoded, y ..
  pub dot_decoded : (y : List Float) → Holds f w n y → length w % bytes_k f ≡ 0 → n ≤ values_of (OfK f) (length w) → fused_says f x w n ≡ dot_says x y n
  unfolding fused_says dot_says given
  dot_decoded y h whole enough = simp (eq-eqb _ _ whole, le-ltb _ _ enough, le-ltb _ _ h.0, row_decoded y h)

  -- .. as the weights one by one ..
  pub dot_of_weights : length w % bytes_k f ≡ 0 → n ≤ values_of (OfK f) (length w) → fused_says f x w n ≡ dot_says x (table (weight_at (OfK f) w) n) n
  dot_of_weights = dot_decoded (table (weight_at (OfK f) w) n) (rw length_table (le_refl n), λ i u. get_or_table (weight_at (OfK f) w) n i nan u)

  -- .. and as `dequantize_q4_k`, `dequantize_q5_k` or `dequantize_q6_k` leaves it in its output
  pub dot_of_output : (out y : List Float) → dequantize_says (OfK f) w out ≡ (done, y) → n ≤ values_of (OfK f) (length w) → fused_says f x w n ≡ dot_says x y n
  unfolding dequantize_says
  dot_of_output out y e enough =
      let v = values_of (OfK f) (length w) in
      let weights = weight_at (OfK f) w in
      let checks = dequantize_refusal (OfK f) (length w) (length out) in
      let no : checks ≡ done = sym (carried_said checks (filled weights out v) out) ∙ ap (λ (q : Said (Unit {0}) × List Float). q.0) e in
      let same : y ≡ filled weights out v = ap (λ (q : Said (Unit {0}) × List Float). q.1) (sym e ∙ carried_value checks (filled weights out v) out _ no) in
      let room = room_for_values (OfK f) (length w) (length out) no in
      let holds : Holds f w n (filled weights out v) = (
        rw (length_filled weights out v room) (le_trans enough room),
        λ i u.
            let k = lt_of_lt_of_le u enough in
            get_or-append (table weights v) (drop v out) nan i (rw length_table k) ∙ get_or_table weights v i nan k,
      ) in
      dot_decoded y (rw same holds) (whole_blocks f (length w) (length out) no) enough
