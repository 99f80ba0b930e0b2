-- `block::add_block` meets its contract: formats with minimums by their sub-blocks, and Q6_K by its runs. Assumes nothing.
use mathlib.Core.Path.{refl, ap, ◌∙◌}
use native.Mathlib.Omega.{arith}
use lib.IntN.{pos}
use lib.ListN.{get_or}
use Rattle.layouts.specs.Formats.{bytes_k, has_minimums}
use Rattle.layouts.specs.declared.format.FormatK.TheVariants.{Q4K, Q5K, Q6K}
use Rattle.k_quants.proofs.LaidOut.{laid_out_at}
use Rattle.dots_fused_block.proofs.Grown.{laid_out}
use Rattle.dots_fused_block.proofs.block.add_block.Goals as goal

pub quants_q4k-q-requires : goal.quants_q4k-q-requires
quants_q4k-q-requires c = c.requires.1 ∙ ap bytes_k c.in-Q4K.is

pub add_sub_blocks-requires : goal.add_sub_blocks-requires
add_sub_blocks-requires c =
    (omega arith, c.requires.0, omega (arith, c.requires.1 ∙ ap bytes_k c.in-Q4K.is), omega arith)

pub quants_q5k-q-requires : goal.quants_q5k-q-requires
quants_q5k-q-requires c = c.requires.1 ∙ ap bytes_k c.in-Q5K.is

pub add_sub_blocks-requires-in-Q5K : goal.add_sub_blocks-requires-in-Q5K
add_sub_blocks-requires-in-Q5K c =
    (omega arith, c.requires.0, omega (arith, c.requires.1 ∙ ap bytes_k c.in-Q5K.is), omega arith)

pub quants_q6k-q-requires : goal.quants_q6k-q-requires
quants_q6k-q-requires c = c.requires.1 ∙ ap bytes_k c.in-Q6K.is

pub add_runs-requires : goal.add_runs-requires
add_runs-requires c = let t = c in (t.requires.0, t.requires.1 ∙ ap bytes_k c.in-Q6K.is, omega arith)

pub returns-in-Q4K : goal.returns-in-Q4K
returns-in-Q4K c =
    let a = c.args in
    let e = c.in-Q4K.is in
    c.add_sub_blocks.ensures
    ∙ laid_out a.x.now a.block.now Q4K a.format a.l (λ i. pos (get_or c.quants_q4k-q.result i 0)) (ap has_minimums e) c.requires.1 (laid_out_at Q4K a.block.now pos 0 e c.quants_q4k-q.ensures (λ i. refl))

pub returns-in-Q5K : goal.returns-in-Q5K
returns-in-Q5K c =
    let a = c.args in
    let e = c.in-Q5K.is in
    c.add_sub_blocks-in-Q5K.ensures
    ∙ laid_out a.x.now a.block.now Q4K a.format a.l (λ i. pos (get_or c.quants_q5k-q.result i 0)) (ap has_minimums e) c.requires.1 (laid_out_at Q5K a.block.now pos 0 e c.quants_q5k-q.ensures (λ i. refl))

pub returns-in-Q6K : goal.returns-in-Q6K
returns-in-Q6K c =
    let a = c.args in
    let e = c.in-Q6K.is in
    c.add_runs.ensures
    ∙ laid_out a.x.now a.block.now Q6K a.format a.l (λ i. get_or c.quants_q6k-q.result i (pos 0)) (ap has_minimums e) c.requires.1 (laid_out_at Q6K a.block.now (λ z. z) (pos 0) e c.quants_q6k-q.ensures (λ i. refl))
