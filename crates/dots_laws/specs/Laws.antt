-- Two laws of the fixed-order dot: readings and weights exchanged, and every reading negated. Definitions only.
use Prim.{Unit}
use Rattle.std.specs.Prelude.{ℕ, ◌*◌, ◌≤◌, ◌<◌, ◌≡◌, Bool, ◌&&◌, ◌||◌, List, map, T, length, get_or, drop, Float, Ok, Err}
use Rattle.std.specs.Float.{nan}
use Rattle.std.specs.Float.Ieee.{eq, neg, is_nan}
use Rattle.refusals.specs.declared.refusal.Refusal.{Refusal}
use Rattle.refusals.specs.Said.{Said, done}
use Rattle.numbers.specs.Alike.{Alike}
use Rattle.layouts.specs.declared.format.FormatK.{FormatK}
use Rattle.sums_lanes.specs.Lanes.{products}
use Rattle.sums.specs.Rows.{row_sum}
use Rattle.sums.specs.Says.{dot_says}
use Rattle.dots_fused.specs.Says.{fused_says}
use Rattle.layers_shape.specs.declared.Shape.{Shape}
use Rattle.layers_fused.specs.Says.{fused_layer_says}

-- ---- readings and weights exchanged

-- Exchanging x and w keeps the bits, or NaN both times: `≡` says both, since there is one NaN.
pub record ExchangeLaw : Type 0 where
  -- the sum of a row, whatever the lengths: a place that a list does not have counts as NaN
  pub rows : (x w : List Float) (n : ℕ) → row_sum (products x w) n ≡ row_sum (products w x) n
  -- `canonical_dot_pub`, with at least n values on both sides: short of weights it says 3, and short of readings 4
  pub dots : (x w : List Float) (n : ℕ) → n ≤ length x → n ≤ length w → dot_says x w n ≡ dot_says w x n

-- ---- every reading negated

-- the readings, each negated
abbrev pub negated : List Float → List Float
negated x = map neg x

-- a is b negated, but for the sign of a zero
pub record Turned (a b : Float) : Type 0 where
  pub alike : Alike a (neg b)

-- they compare equal, or both are NaN
abbrev pub agree : Float → Float → Bool
agree a b = eq a b || is_nan a && is_nan b

-- two dots: the values are turned, or both refuse for the same reason
pub data DotTurned : Said Float → Said Float → Type 0 where
  answers : {a b : Float} → Turned a b → DotTurned (Ok a) (Ok b)
  refuses : (why : Refusal) → DotTurned (Err why) (Err why)

-- two layers, and what their memory holds then: the n outputs are turned, each in its place, and the places behind
-- them are the same; or both refuse for the same reason and leave the same
pub data LayerTurned (n : ℕ) : Said (Unit {0}) × List Float → Said (Unit {0}) × List Float → Type 0 where
  fills : {y z : List Float} → ((k : ℕ) → k < n → Turned (get_or y k nan) (get_or z k nan)) → drop n y ≡ drop n z
      → LayerTurned n (done, y) (done, z)
  leaves : (why : Refusal) (y : List Float) → LayerTurned n (Err why, y) (Err why, y)

-- Negating every reading turns what is said: a value compares equal to the negated one, or both are NaN.
pub record NegationLaw : Type 0 where
  -- what a comparison tells of two floats that are turned
  pub compares : {a b : Float} → Turned a b → T (agree a (neg b))
  -- the sum of a row
  pub rows : (x w : List Float) (n : ℕ) → Turned (row_sum (products (negated x) w) n) (row_sum (products x w) n)
  -- `canonical_dot_pub`
  pub dots : (x w : List Float) (n : ℕ) → DotTurned (dot_says (negated x) w n) (dot_says x w n)
  -- the fused dots, of each format
  pub fused_dots : (f : FormatK) (x : List Float) (w : List ℕ) (n : ℕ)
      → DotTurned (fused_says f (negated x) w n) (fused_says f x w n)
  -- the fused layers, of each format
  pub fused_layers : (f : FormatK) (s : Shape) (x : List Float) (w : List ℕ) (y : List Float)
      → LayerTurned (s.batch * s.out_feat) (fused_layer_says f s (negated x) w y) (fused_layer_says f s x w y)
