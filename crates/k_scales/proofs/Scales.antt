-- Q4_K's scales and minimums by the bytes of a block. Assumes nothing.
use mathlib.Core.Path.{◌≡◌}
use Prim.Native.Nat.{ℕ, ◌+◌, ◌-◌, ◌*◌, ◌/◌, ◌%◌, ◌≤◌, ◌<◌}
use native.Mathlib.Omega.{arith}
use mathlib.Core.List.{List}
use borrow.Author.Tests.{lt-ltb, le-ltb}
use lib.ListN.{get_or}
use Rattle.layouts.specs.K.{scale_q4k, minimum_q4k}

module _ (bs : List ℕ) (j : ℕ) where
  up : 4 + (j + 4) ≡ 8 + j
  up = omega arith

  pub scale_low : j < 4 → get_or bs (4 + j) 0 % 64 ≡ scale_q4k bs j
  unfolding scale_q4k
  scale_low h = rw (lt-ltb j 4 h)

  pub scale_high : 4 ≤ j → get_or bs (8 + j) 0 % 16 + 16 * (get_or bs j 0 / 64) ≡ scale_q4k bs j
  unfolding scale_q4k
  scale_high h =
      let down : 4 + (j - 4) ≡ j = omega arith in
      rw (le-ltb j 4 h, up, down)

  pub minimum_low : j < 4 → get_or bs (8 + j) 0 % 64 ≡ minimum_q4k bs j
  unfolding minimum_q4k
  minimum_low h = rw (lt-ltb j 4 h, up)

  pub minimum_high : 4 ≤ j → get_or bs (8 + j) 0 / 16 + 16 * (get_or bs (4 + j) 0 / 64) ≡ minimum_q4k bs j
  unfolding minimum_q4k
  minimum_high h = rw (le-ltb j 4 h, up)
