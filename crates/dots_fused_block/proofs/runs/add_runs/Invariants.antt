-- `runs::add_runs` meets its contract: in turn e the terms of run e are added. Assumes nothing.
use Prim.Native.Nat.{ℕ}
use mathlib.Core.List.{List}
use lib.IntN.{ℤ, pos}
use lib.ListN.{get_or}
use Rattle.layouts.specs.declared.format.FormatK.TheVariants.{Q6K}
use Rattle.dots_fused_block.specs.Inner.{block_terms}
use Rattle.dots_fused_block.proofs.Grown.{Grown}
use Rattle.dots_fused_block.proofs.runs.add_runs.Given as goal

abbrev pub wholes : List ℤ → ℕ → ℤ
wholes q i = get_or q i (pos 0)

abbrev pub invariant-loop-e : goal.invariant-loop-e
invariant-loop-e l = Grown l.initial.out (block_terms Q6K l.x l.block (wholes l.q)) 16 16 l.out l.e
