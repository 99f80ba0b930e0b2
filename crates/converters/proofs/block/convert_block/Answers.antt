-- `block::convert_block` meets its contract: the scale's two bytes, and then the nibbles of either direction. Assumes nothing.
use mathlib.Core.Path.{◌≡◌, refl, sym, ap, ◌∙◌}
use mathlib.Core.List.{List, ◌++◌}
use Prim.Native.Nat.{ℕ, ◌-◌}
use lib.ListN.{length, get_or, set, take, drop, length-set}
use Rattle.memory.specs.Lists.{table}
use native.Mathlib.Omega.{arith}
use Rattle.layouts.proofs.Written.{block_long, block_written}
use Rattle.converters.specs.Orders.{moved_byte, converted_byte}
use Rattle.converters.specs.declared.direction.Direction.{Direction}
use Rattle.converters.specs.declared.direction.Direction.TheVariants.{ToGgml, FromGgml}
use Rattle.converters.proofs.Moved.{behind_scale}
use Rattle.converters.proofs.block.convert_block.Goals as goal

pub slice_bounds-move_apart-end : goal.slice_bounds-move_apart-end
slice_bounds-move_apart-end c = simp length-set (omega arith)

pub slice_bounds-move_together-end : goal.slice_bounds-move_together-end
slice_bounds-move_together-end c = simp length-set (omega arith)

-- the output with the scale's two bytes
abbrev scaled : (bs out : List ℕ) → List ℕ
scaled bs out = set (set out 0 (get_or bs 0 0)) 1 (get_or bs 1 0)

-- the same after the arm of the direction u that the code was told of
by : (d u : Direction) (bs out : List ℕ) {ys : List ℕ} → length out ≡ 18 → d ≡ u → ys ≡ table (moved_byte u bs) 16
    → take 2 (scaled bs out) ++ (ys ++ drop (18 - 2) (drop 2 (scaled bs out))) ≡ table (converted_byte d bs) 18
unfolding converted_byte
by d u bs out L e Y =
    block_written 18 16 refl (converted_byte u bs) (moved_byte u bs) out _ _ _ L refl refl Y (behind_scale u bs) ∙ ap (λ (d : Direction). table (converted_byte d bs) 18) (sym e)

long : (bs out : List ℕ) (g : ℕ → ℕ) {ys : List ℕ} → length out ≡ 18 → ys ≡ table g 16 → length (take 2 (scaled bs out) ++ (ys ++ drop (18 - 2) (drop 2 (scaled bs out)))) ≡ length out
long bs out g {ys} L Y = block_long 18 16 refl g (scaled bs out) ys (simp length-set L) Y ∙ sym L

pub shape_of-out-in-ToGgml : goal.shape_of-out-in-ToGgml
shape_of-out-in-ToGgml c = long c.args.block.now c.args.out.now _ c.requires.1 c.move_apart.ensures

pub returns-in-ToGgml : goal.returns-in-ToGgml
returns-in-ToGgml c = by _ ToGgml c.args.block.now c.args.out.now c.requires.1 c.in-ToGgml.is c.move_apart.ensures

pub shape_of-out-in-FromGgml : goal.shape_of-out-in-FromGgml
shape_of-out-in-FromGgml c = long c.args.block.now c.args.out.now _ c.requires.1 c.move_together.ensures

pub returns-in-FromGgml : goal.returns-in-FromGgml
returns-in-FromGgml c = by _ FromGgml c.args.block.now c.args.out.now c.requires.1 c.in-FromGgml.is c.move_together.ensures
