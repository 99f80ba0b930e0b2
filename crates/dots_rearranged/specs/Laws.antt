-- The law: the order inside a sub-block or run does not matter for the integer dots. Definitions only.
use Rattle.std.specs.Prelude.{ℕ, ◌*◌, ◌/◌, ◌≤◌, ◌<◌, ◌≡◌, true, List, T, ℤ, length, get_or, Float}
use Rattle.std.specs.Float.{nan, binary32}
use Rattle.std.specs.Float.Ieee.{fits}
use Rattle.layouts.specs.Formats.{bytes_k, has_minimums, run_length}
use Rattle.layouts.specs.K.{quant_k, scale_in, minimum_q4k, d_of, dmin_of}
use Rattle.layouts.specs.Weights.{block}
use Rattle.layouts.specs.declared.format.Format.TheVariants.{OfK}
use Rattle.layouts.specs.declared.format.FormatK.{FormatK}
use Rattle.dots_activation.specs.declared.block.Q8Block.{Q8Block}
use Rattle.dots_activation.specs.Whole.{sum_ℤ}
use Rattle.dots_activation.specs.Blocks.{block_of}
use Rattle.dots_integer.specs.Dots.{block_dot_says}
use Rattle.dots_integer_row.specs.Rows.{integer_says}
use Rattle.dots_kept_row.specs.declared.meeting.Meeting.{Meeting}
use Rattle.layers_shape.specs.declared.Shape.{Shape}
use Rattle.layers_integer.specs.Says.{integer_layer_says}
use Rattle.dots_rearranged.specs.Orders.{Rearrangement, from}
use Rattle.dots_rearranged.specs.Moved.{run, Rearrangements, of_block, moved_weights, moved_readings, moved_block, every_row}

-- each reading is a float of 32 bits, as every f32 is
pub record Singles (x : List Float) : Type 0 where
  pub single : (i : ℕ) → T (fits binary32 (get_or x i nan))

-- each is a byte
pub record Bytes (bs : List ℕ) : Type 0 where
  pub byte : (i : ℕ) → get_or bs i 0 < 256

-- What of a packed block bs' is as the block bs was moved: place i has the quant that stood at `place i`, and scales,
-- d and, where a format has them, minimums and dmin are those of bs.
pub record Moved (f : FormatK) (place : ℕ → ℕ) (bs bs' : List ℕ) : Type 0 where
  pub quants : (i : ℕ) → i < 256 → quant_k f bs' i ≡ quant_k f bs (place i)
  pub scales : (e : ℕ) → e < 256 / run_length f → scale_in f bs' e ≡ scale_in f bs e
  pub d_same : d_of f bs' ≡ d_of f bs
  pub dmin_same : has_minimums f ≡ true → dmin_of bs' ≡ dmin_of bs
  pub minimums : has_minimums f ≡ true → (j : ℕ) → j < 8 → minimum_q4k bs' j ≡ minimum_q4k bs j

-- The order inside a run does not matter: `≡` says the same bits, or NaN both times, since there is one NaN; or the
-- same refusal.
pub record OrderLaw (f : FormatK) (orders : ℕ → List ℕ) : Type 0 where
  -- of m whole blocks of weights each has exactly the moved quants, and all else of it is kept
  pub blocks : (w : List ℕ) (m b : ℕ) → b < m → m * bytes_k f ≤ length w
      → Moved f (from (run f) (of_block f orders b)) (block (OfK f) w b) (block (OfK f) (moved_weights f orders m w) b)
  -- moved bytes are bytes
  pub bytes : (w : List ℕ) (m : ℕ) → Bytes w → Bytes (moved_weights f orders m w)
  -- the block dots, of any weights and any activation block, where n takes in all 256 places
  pub block_dots : (w : List ℕ) (b : Q8Block) (n : ℕ) → 256 ≤ n
      → block_dot_says f (moved_weights f orders 1 w) (moved_block f orders b) n ≡ block_dot_says f w b n
  -- 256 readings that are moved before they are quantised have their quants moved, and the same scale and sums
  pub activations : (x : List Float) → Singles x → length x ≡ 256
      → block_of (moved_readings f orders 1 x) ≡ moved_block f orders (block_of x)
  -- the integer dot of a row whose full blocks are moved: a last block that is not full stays as it is
  pub row_dots : (x : List Float) (w : List ℕ) (n : ℕ) → Singles x
      → integer_says f (moved_readings f orders (n / 256) x) (moved_weights f orders (n / 256) w) n ≡ integer_says f x w n
  -- the integer layers, and what their memory holds then: every row of readings and of weights is moved alike
  pub layers : (m : Meeting) (s : Shape) (x : List Float) (w : List ℕ) (y : List Float) → Singles x
      → (let rows = every_row f s.in_feat orders in
      let full = s.in_feat / 256 in
      integer_layer_says f m s (moved_readings f rows (s.batch * full) x) (moved_weights f rows (s.out_feat * full) w) y
      ≡ integer_layer_says f m s x w y)

-- Sums of whole numbers, and the integer dots, under every rearrangement inside the runs.
pub record RearrangementLaw : Type 0 where
  pub sums : (R : ℕ) (ps : List ℕ) → Rearrangement R ps → (g : ℕ → ℤ) → sum_ℤ (λ i. g (get_or ps i 0)) R ≡ sum_ℤ g R
  pub kept : (f : FormatK) (orders : ℕ → List ℕ) → Rearrangements f orders → OrderLaw f orders
