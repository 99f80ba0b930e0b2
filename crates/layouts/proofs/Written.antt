-- A block as it is written: its scale's two bytes, and then the k bytes that are stored behind them. Assumes nothing.
use mathlib.Core.Path.{◌≡◌, ap, ◌∙◌}
use Prim.Native.Nat.{ℕ, ◌+◌, ◌-◌}
use native.Mathlib.Nat.{le_of_eq}
use native.Mathlib.Omega.{arith}
use mathlib.Core.List.{List, ◌++◌}
use lib.ListN.{length, set, take, drop, length-append, length-drop}
use lib.Seq.{length-take-le}
use Rattle.memory.specs.Lists.{table}
use Rattle.memory.proofs.Filled.{filling_start, filling_more, length_table, filled_all, filled_part}

module _ (size k : ℕ) (S : size ≡ 2 + k) where
  -- whatever is stored, the block is as long as it was
  pub block_long : (g : ℕ → ℕ) (o ys : List ℕ) → length o ≡ size → ys ≡ table g k → length (take 2 o ++ (ys ++ drop (size - 2) (drop 2 o))) ≡ size
  block_long g o ys L Y =
      let front = length-take-le 2 o (omega arith) in
      let behind = ap length Y ∙ length_table g k in
      simp (length-append, length-drop) (omega (arith, front, behind, L))

  -- two bytes, and then those of a rule g: the block of a rule f that has the same at their places
  pub block_written : (f g : ℕ → ℕ) (out ys : List ℕ) (lo hi : ℕ) → length out ≡ size → lo ≡ f 0 → hi ≡ f 1 → ys ≡ table g k → ((l : ℕ) → g l ≡ f (2 + l))
      → (let o = set (set out 0 lo) 1 hi in take 2 o ++ (ys ++ drop (size - 2) (drop 2 o)) ≡ table f size)
  block_written f g out ys lo hi L l h Y q =
      let one = filling_more f out size out 0 lo L (filling_start f out size L) (omega arith) l in
      let both = filling_more f out size (set out 0 lo) 1 hi L one (omega arith) h in
      filled_part f g out (set (set out 0 lo) 1 hi) ys 2 k size S both.0 Y (λ i u. q i) ∙ filled_all f out size (le_of_eq L)
