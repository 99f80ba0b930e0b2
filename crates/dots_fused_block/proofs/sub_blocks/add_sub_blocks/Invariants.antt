-- `sub_blocks::add_sub_blocks` meets its contract: in turn j the terms of sub-block j are added. Assumes nothing.
use mathlib.Core.Path.{◌≡◌}
use Prim.Native.Nat.{ℕ, ◌*◌}
use mathlib.Core.List.{List}
use lib.IntN.{ℤ, pos}
use lib.ListN.{length, get_or}
use Rattle.layouts.specs.declared.format.FormatK.TheVariants.{Q4K}
use Rattle.dots_fused_block.specs.Inner.{block_terms}
use Rattle.dots_fused_block.proofs.Grown.{Grown}
use Rattle.dots_fused_block.proofs.sub_blocks.add_sub_blocks.Given as goal

abbrev pub wholes : List ℕ → ℕ → ℤ
wholes q i = pos (get_or q i 0)

abbrev pub invariant-loop-j : goal.invariant-loop-j
invariant-loop-j l = (l.at ≡ 32 * l.j) × (length l.l ≡ 8) × Grown l.initial.l (block_terms Q4K l.x l.block (wholes l.q)) 32 8 l.l l.j
