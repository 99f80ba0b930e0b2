-- Where a row lies, and that the outputs of a row that is kept are those of its readings. Assumes nothing.
use mathlib.Core.Path.{◌≡◌, refl, sym, ap}
use mathlib.Core.List.{List}
use Prim.Native.Nat.{ℕ, ◌+◌, ◌-◌, ◌*◌, ◌/◌, ◌≤◌, ◌<◌}
use native.Mathlib.Omega.{arith}
use lib.ListN.{length, take, drop}
use lib.Ieee.{Float}
use Rattle.memory.specs.Lists.{part, stretch_length}
use Rattle.layouts.specs.Weights.{block}
use Rattle.layouts.specs.Formats.{bytes_k}
use Rattle.layouts.proofs.Sizes.{sizes}
use Rattle.layouts.specs.declared.format.Format.TheVariants.{OfK}
use Rattle.layouts.specs.declared.format.FormatK.{FormatK}
use Rattle.dots_activation.specs.Blocks.{block_of}
use Rattle.dots_integer.specs.Dots.{dot_with}
use Rattle.dots_integer_row.specs.Rows.{block_at}
use Rattle.memory.proofs.Parts.{within}
use Rattle.memory.proofs.Filled.{part_length}
use Rattle.refusals.specs.Said.{done}
use Rattle.layers_shape.specs.declared.Shape.{Shape}
use Rattle.layers_shape.specs.Shapes.{layer_refusal, weight_row}
use Rattle.layers_shape.proofs.Fits.{fits, product_small}
use Rattle.dots_kept_row.specs.declared.kept.KeptBlock.{KeptBlock}
use Rattle.dots_kept_row.specs.declared.meeting.Meeting.{Meeting}
use Rattle.dots_kept_row.specs.Inner.{kept_dot, Keeps}
use Rattle.dots_kept_row.proofs.Meets.{meets_ext}
use Rattle.layers_integer_row.specs.Inner.{kept_row_dot}
use Rattle.layers_integer_row.specs.Outputs.{integer_dot_at}

-- a row of weights has few bytes ..
pub few_bytes : (f : FormatK) {n size : ℕ} → size ≡ bytes_k f → n ≤ 512 → n * size ≤ 107520
few_bytes f e h = product_small _ _ 512 210 h (rw e (sizes (OfK f)).1)

-- .. row o lies within the weights ..
pub weighs : (f : FormatK) (n : ℕ) {o rows room size : ℕ} → size ≡ bytes_k f → rows * (n * bytes_k f) ≤ room → o < rows → o * (n * size) + n * size ≤ room
weighs f n {o} {rows} {room} {size} e r l = within o (n * size) rows room l (rw e r)

-- .. and is lent as long as it is
pub row_lent : (f : FormatK) (w : List ℕ) (n : ℕ) {o rows size : ℕ} → size ≡ bytes_k f → rows * (n * bytes_k f) ≤ length w → o < rows → let k = n * size in length (take (o * k + k - o * k) (drop (o * k) w)) ≡ k
row_lent f w n {o} {rows} {size} e r l = let k = n * size in part_length w (o * k) k (o * k + k) refl (weighs f n e r l)

-- row b lies within the readings ..
pub reads : (f : FormatK) (s : Shape) (x w y : ℕ) {b : ℕ} → layer_refusal f s x w y ≡ done → b < s.batch → b * s.in_feat + s.in_feat ≤ x
reads f s x w y {b} e h = within b s.in_feat s.batch x h (fits f s x w y e).read

-- .. and its outputs within the output
pub writes : (f : FormatK) (s : Shape) (x w y : ℕ) {b : ℕ} → layer_refusal f s x w y ≡ done → b < s.batch → b * s.out_feat + s.out_feat ≤ y
writes f s x w y {b} e h = within b s.out_feat s.batch y h (fits f s x w y e).room

-- a whole block has 256 places
whole_block : (n t : ℕ) → t < n / 256 → stretch_length 256 n t ≡ 256
whole_block n t h = omega arith

module _ (f : FormatK) (x : List Float) (n : ℕ) (kept : List KeptBlock) (h : Keeps x (n / 256) kept) where
  -- the dot of block t is that of the readings
  dot_same : (w : List ℕ) (t : ℕ) → t < n / 256 → kept_dot f w kept t ≡ block_at f x w n t
  dot_same w t l =
      rw (h.at t l) (ap (λ (k : ℕ). dot_with f (block (OfK f) w t) (block_of (part x (256 * t) k)) k) (sym (whole_block n t l)))

  pub row_same : (m : Meeting) (w : List ℕ) (o : ℕ) → kept_row_dot f m w kept (n / 256) o ≡ integer_dot_at f m x w n o
  row_same m w o = meets_ext m (kept_dot f (weight_row f w n o) kept) (block_at f x (weight_row f w n o) n) (n / 256) (dot_same (weight_row f w n o))
