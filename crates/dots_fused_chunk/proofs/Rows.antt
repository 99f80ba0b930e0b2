-- A row's terms, read in its blocks and in its chunks, and where these lie in the row's bytes. Assumes nothing.
use mathlib.Core.Path.{◌≡◌, sym, ap, ◌∙◌}
use Prim.Native.Nat.{ℕ, ◌+◌, ◌-◌, ◌*◌, ◌/◌, ◌≤◌, ◌<◌}
use native.Mathlib.Nat.{le_refl, one-mul, le-div_iff_mul-le, mul-add-div_right}
use native.Mathlib.Omega.{arith}
use mathlib.Core.List.{List}
use lib.ListN.{length, take, drop, length-drop}
use lib.Seq.{take_all}
use lib.Ieee.{Float, nan}
use Rattle.memory.specs.Lists.{part}
use Rattle.memory.proofs.Filled.{part_at}
use Rattle.memory.proofs.Parts.{within_whole}
use Rattle.layouts.specs.Formats.{bytes_k}
use Rattle.layouts.specs.Weights.{weight_at, values_of}
use Rattle.layouts.specs.declared.format.FormatK.{FormatK}
use Rattle.layouts.specs.declared.format.Format.TheVariants.{OfK}
use Rattle.layouts.proofs.Rows.{weight_skip, weight_front}
use Rattle.layouts.proofs.Sizes.{sizes}
use Rattle.dots_fused_block.specs.Terms.{terms}

module _ (f : FormatK) where
  -- the terms of a part of the readings and of bytes v whose weights are those of w from s on
  terms_part : (x : List Float) (w v : List ℕ) (s k i : ℕ) → i < k → weight_at (OfK f) v i ≡ weight_at (OfK f) w (s + i) → terms f (part x s k) v i ≡ terms f x w (s + i)
  terms_part x w v s k i h e = rw (part_at x s k i nan h, e)

  -- past b blocks, which have s places, the weights go on
  weight_on : (w : List ℕ) (b s size i : ℕ) → size ≡ bytes_k f → s ≡ b * 256 → weight_at (OfK f) (drop (b * size) w) i ≡ weight_at (OfK f) w (s + i)
  weight_on w b s size i e a = rw (e, a) (weight_skip (OfK f) w b i)

  -- the terms of block b, from its own bytes
  pub block_terms : (x : List Float) (w : List ℕ) (b s k size j i : ℕ) → size ≡ bytes_k f → j ≡ size → s ≡ b * 256 → i < k → i < 256
      → terms f (part x s k) (part w (b * size) j) i ≡ terms f x w (s + i)
  block_terms x w b s k size j i e g a h u =
      let v = drop (b * size) w in
      terms_part x w (part w (b * size) j) s k i h
      (ap (λ (n : ℕ). weight_at (OfK f) (take n v) i) (g ∙ e ∙ sym (one-mul (bytes_k f))) ∙ weight_front (OfK f) v 1 i (rw one-mul u) ∙ weight_on w b s size i e a)

  -- the terms from block b on, from all the bytes there
  pub rest_terms : (x : List Float) (w : List ℕ) (b s k size i : ℕ) → size ≡ bytes_k f → s ≡ b * 256 → i < k
      → terms f (part x s k) (part w (b * size) (length w - b * size)) i ≡ terms f x w (s + i)
  rest_terms x w b s k size i e a h =
      let v = drop (b * size) w in
      terms_part x w (part w (b * size) (length w - b * size)) s k i h
      (ap (λ (l : List ℕ). weight_at (OfK f) l i) (take_all (length w - b * size) v (rw length-drop (le_refl _))) ∙ weight_on w b s size i e a)

  -- block b of a row of n places, of which it has some, lies within the bytes
  pub block_room : (b size n room : ℕ) → size ≡ bytes_k f → n ≤ values_of (OfK f) room → 256 * b < n → b * size + size ≤ room
  block_room b size n room e h u =
      let k : b < room / size = rw e (omega arith) in
      within_whole b size room k

  -- the k places that a row of n has from block b on have their weights in the bytes from there on
  pub rest_room : (b size n k room : ℕ) → size ≡ bytes_k f → n ≤ values_of (OfK f) room → 256 * b + k ≤ n → (b * size ≤ room) × (k ≤ values_of (OfK f) (room - b * size))
  rest_room b size n k room e h u =
      let z = bytes_k f in
      let P : 0 < z = omega (arith, sizes (OfK f)) in
      let most : b * z ≤ room = (le-div_iff_mul-le P).0 (omega arith) in
      let split : room ≡ b * z + (room - b * z) = omega arith in
      let rest : room / z ≡ b + (room - b * z) / z = ap (λ (n : ℕ). n / z) split ∙ mul-add-div_right P b (room - b * z) in
      rw e (most, omega arith)
