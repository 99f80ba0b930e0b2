-- `whole::products` meets its contract: in turn g the 32 pairs of part g are filled. Assumes nothing.
use mathlib.Core.Path.{◌≡◌, refl, sym, ap, ◌∙◌, subst}
use mathlib.Core.List.{List}
use Prim.Native.Nat.{ℕ, ◌+◌, ◌*◌, ◌/◌, ◌%◌, ◌<◌}
use native.Mathlib.Nat.{le_of_eq}
use native.Mathlib.Omega.{arith}
use borrow.Author.Count.{below_none, below_more}
use lib.IntN.{ℤ, pos}
use lib.ListN.{replicate}
use Rattle.memory.specs.Lists.{table}
use Rattle.memory.proofs.Filled.{get_or_table, filled_all, part_length}
use Rattle.memory.proofs.Parts.{parts_none, parts_more, parts_done}
use Rattle.dots_activation.specs.Whole.{elem, Within}
use Rattle.dots_activation.specs.Inner.{pair_of}
use Rattle.dots_whole.specs.Inner.{product_at}
use Rattle.dots_whole.proofs.Lent.{lent_length, five_bits_lent, pairs_lent}
use Rattle.dots_whole.proofs.whole.products.Goals as goal

pub loop-g-init : goal.loop-g-init
loop-g-init c = (parts_none (pair_of (product_at c.args.q.now c.args.x.now)) (replicate 128 (pos 0)) (λ k. 32 * k) 4 refl, below_none _)

pub two_sub_blocks-requires : goal.two_sub_blocks-requires
two_sub_blocks-requires c =
    let g = c.loop-g.g in
    let h : g < 4 = omega arith in
    let q = c.requires.1 in
    (five_bits_lent c.args.q.now g q h c.requires.0, lent_length c.args.q.now g q h, lent_length c.args.x.now g c.requires.2 h, part_length c.loop-g.p (32 * g) 32 (32 * g + 32) refl (omega arith))

pub loop-g-preserved : goal.loop-g-preserved
loop-g-preserved c =
    let r = c.two_sub_blocks.ensures in
    let a = c.args in
    let g = c.loop-g.g in
    let f : ℕ → ℤ = pair_of (product_at a.q.now a.x.now) in
    let same = pairs_lent a.q.now a.x.now g in
    (parts_more f (replicate 128 (pos 0)) (λ k. 32 * k) 4 _ c.loop-g.p _ g 32 (omega arith) (omega arith) (omega arith) r.0 same c.loop-g.invariant.0, below_more _ _ c.loop-g.invariant.1 (λ i h. subst (Within 7936) (same i h) (r.1 i h)))

pub returns : goal.returns
returns c =
    let l = c.loop-g in
    let a = c.args in
    let f : ℕ → ℤ = pair_of (product_at a.q.now a.x.now) in
    let e : l.p ≡ table f 128 = parts_done f (replicate 128 (pos 0)) (λ k. 32 * k) 4 l.p l.g (omega arith) l.invariant.0 ∙ filled_all f (replicate 128 (pos 0)) 128 (le_of_eq refl) in
    (e, record { near = λ i h. let s : 32 * (i / 32) + i % 32 ≡ i = omega arith in subst (Within 7936) (ap f s ∙ sym (get_or_table f 128 i (pos 0) h) ∙ ap (λ (m : List ℤ). elem m i) (sym e)) (l.invariant.1 (i / 32) (omega arith) (i % 32) (omega arith)) })
