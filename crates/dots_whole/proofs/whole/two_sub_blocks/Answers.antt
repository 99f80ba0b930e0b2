-- `whole::two_sub_blocks` meets its contract: in turn l the places l and 16 + l are filled. Assumes nothing.
use mathlib.Core.Path.{subst}
use Prim.Native.Nat.{ℕ, ◌+◌, ◌-◌, ◌%◌, ◌<◌}
use native.Mathlib.Nat.{add_comm}
use native.Mathlib.Omega.{arith}
use native.Mathlib.Decide.{dec_lt}
use borrow.Author.Count.{below_more}
use lib.IntN.{ℤ, pos}
use Rattle.layouts.proofs.Two.{own_halves, pairs_more, pairs_all}
use Rattle.dots_activation.specs.Whole.{Within}
use Rattle.dots_activation.specs.Inner.{pair_of}
use Rattle.dots_activation.proofs.Sixteen.{pair_stored}
use Rattle.dots_whole.specs.Inner.{product_at}
use Rattle.dots_whole.proofs.whole.two_sub_blocks.Invariants.{Near}
use Rattle.dots_whole.proofs.whole.two_sub_blocks.Goals as goal

pub loop-l-preserved : goal.loop-l-preserved
loop-l-preserved c =
    let a = c.args in
    let l = c.loop-l.l in
    let f : ℕ → ℤ = product_at a.q.now a.x.now in
    let r = c.products_at in
    let s = c.products_at-in-loop-l in
    let u = pair_stored f l l r.type_inv r.ensures (omega arith) in
    let v = pair_stored f (16 + l) (32 + l) s.type_inv s.ensures (omega arith) in
    (pairs_more 16 (λ i. i % 16) (pair_of f) (pos 0) c.loop-l.p l _ _ (omega arith) u.0 v.0 (rw (add_comm 16 l) (own_halves 16 l)) c.loop-l.invariant.0, below_more _ _ c.loop-l.invariant.1 (subst (Within 7936) u.0 u.1, subst (Within 7936) v.0 v.1))

-- so it is at every place, once all turns are done
near_all : (f : ℕ → ℤ) → Near f 16 → (i : ℕ) → i < 32 → Within 7936 (f i)
near_all f n i h = by (dec_lt i 16)
  where
    by : Dec (i < 16) → Within 7936 (f i)
    by (yes p) = (n i p).0
    by (no p) = subst (λ (k : ℕ). Within 7936 (f k)) (omega arith) (n (i - 16) (omega arith)).1

pub returns : goal.returns
returns c =
    let l = c.loop-l in
    let a = c.args in
    let f : ℕ → ℤ = pair_of (product_at a.q.now a.x.now) in
    (pairs_all 16 (λ i. i % 16) f (pos 0) l.p l.l c.loop-l-test.false (λ i h. omega arith) l.invariant.0, near_all f (λ k h. l.invariant.1 k (omega arith)))
