-- `whole::lanes_of` meets its contract: a turn adds sub-block j to every lane. Assumes nothing.
use mathlib.Core.Path.{◌≡◌, refl, sym, ap, ◌∙◌, subst}
use mathlib.Core.List.{List}
use Prim.Native.Nat.{ℕ, ◌+◌, ◌*◌, ◌^◌, ◌<◌}
use native.Mathlib.Nat.{add_assoc}
use native.Mathlib.Omega.{arith}
use borrow.Author.Count.{below_none, below_more}
use lib.IntN.{ℤ, pos, ◌+ℤ◌, ◌*ℤ◌}
use lib.ListN.{length}
use lib.Signed.{mag}
use mir.Syntax.{w16, w32}
use mir.Val.{to_z, of_z}
use Rattle.memory.specs.Lists.{table, filled}
use Rattle.memory.proofs.Filled.{length_table, get_or_table, filled_behind, filling_start, filling_more, filling_done}
use Rattle.numbers.proofs.Signed.{read_is}
use Rattle.layouts.specs.K.{scale_q4k}
use Rattle.dots_activation.specs.Whole.{elem, sum_ℤ, Within}
use Rattle.dots_activation.specs.Inner.{PairsWithin}
use Rattle.dots_activation.proofs.Magnitudes.{fits_within}
use Rattle.dots_activation.proofs.Ranges.{sum_more}
use Rattle.dots_activation.proofs.Loops.{both_fit, both_are}
use Rattle.dots_whole.specs.Inner.{lane_term, lane_at}
use Rattle.dots_whole.proofs.Lanes.{lane_within}
use Rattle.dots_whole.proofs.whole.lanes_of.Goals as goal

-- a pair that is read is small
module _ {p : List ℤ} (near : PairsWithin 7936 p) {i : ℕ} (h : i < 128) where
  pair_is : to_z w16 (of_z w16 (elem p i)) ≡ elem p i
  pair_is = read_is w16 (elem p i) (fits_within {w = w16} (near.near i h) tt).sfits

  pair_near : Within 7936 (to_z w16 (of_z w16 (elem p i)))
  pair_near = subst (Within 7936) (sym pair_is) (near.near i h)

-- lane l, to which sub-block j comes: what it is so far, ..
module _ (w : List ℕ) (p : List ℤ) (l j : ℕ) {start lanes : List ℤ} (outer : start ≡ table (λ (i : ℕ). sum_ℤ (lane_term w p i) j) 8) (inner : lanes ≡ filled (λ (i : ℕ). sum_ℤ (lane_term w p i) (j + 1)) start l) (h : l < 8) where
  lane_is : elem lanes l ≡ sum_ℤ (lane_term w p l) j
  lane_is =
      ap (λ (m : List ℤ). elem m l) inner
      ∙ filled_behind (λ (i : ℕ). sum_ℤ (lane_term w p i) (j + 1)) start l l (pos 0) (omega arith)
      ∙ ap (λ (m : List ℤ). elem m l) outer
      ∙ get_or_table (λ (i : ℕ). sum_ℤ (lane_term w p i) j) 8 l (pos 0) h

  lane_near : PairsWithin 7936 p → j < 8 → ((k : ℕ) → k < j → scale_q4k w k < 64) → Within 7999488 (elem lanes l)
  lane_near near k s = subst (Within 7999488) (sym lane_is) (lane_within w p near l j h (omega arith) s)

-- .. and what comes
term_is : (w : List ℕ) {p : List ℤ} (l j : ℕ) {s : ℕ} {r : ℤ} → PairsWithin 7936 p → l < 8 → j < 8 → s ≡ scale_q4k w j
    → r ≡ pos s *ℤ (to_z w16 (of_z w16 (elem p (16 * j + l))) +ℤ to_z w16 (of_z w16 (elem p (16 * j + 8 + l)))) → r ≡ lane_term w p l j
term_is w {p} l j {s} near h k e f =
    let low : to_z w16 (of_z w16 (elem p (16 * j + l))) ≡ elem p (16 * j + l) = pair_is near (omega arith) in
    let high : to_z w16 (of_z w16 (elem p (16 * j + 8 + l))) ≡ elem p (16 * j + 8 + l) = pair_is near (omega arith) in
    (rw (low, high) at f)
    ∙ ap (λ (i : ℕ). pos s *ℤ (elem p (16 * j + l) +ℤ elem p i)) (add_assoc (16 * j) 8 l)
    ∙ ap (λ (n : ℕ). pos n *ℤ (elem p (16 * j + l) +ℤ elem p (16 * j + (8 + l)))) e

lane_small : {z : ℤ} → Within 7999488 z → mag z < 2 ^ 31
lane_small n = (fits_within {w = w32} n tt).sfits

-- as many lanes as there are
long : (f : ℕ → ℤ) {lanes : List ℤ} → lanes ≡ table f 8 → length lanes ≡ 8
long f e = ap length e ∙ length_table f 8

pub loop-j-init : goal.loop-j-init
unfolding sum_ℤ table
loop-j-init c = (refl, below_none _)

pub loop-l-init : goal.loop-l-init
loop-l-init c = filling_start _ _ 8 (long _ c.loop-j.invariant.0)

pub overflow_add-lanes : goal.overflow_add-lanes
overflow_add-lanes c =
    let n = lane_near c.args.w.now c.args.p.now c.loop-l.l c.loop-j.j c.loop-j.invariant.0 c.loop-l.invariant.0 c.loop-l-test.true c.requires.1 c.loop-j-test.true c.loop-j.invariant.1 in
    both_fit w32 (lane_small n) c.weighed_pairs.type_inv n c.weighed_pairs.ensures.1 tt

pub loop-l-preserved : goal.loop-l-preserved
loop-l-preserved c =
    let w = c.args.w.now in
    let p = c.args.p.now in
    let d = c.loop-l in
    let o = c.loop-j in
    let r = c.weighed_pairs in
    let n = lane_near w p d.l o.j o.invariant.0 d.invariant.0 c.loop-l-test.true c.requires.1 c.loop-j-test.true o.invariant.1 in
    let is = lane_is w p d.l o.j o.invariant.0 d.invariant.0 c.loop-l-test.true in
    let f : ℕ → ℤ = λ i. sum_ℤ (lane_term w p i) (o.j + 1) in
    filling_more f o.lanes 8 d.lanes d.l _ (long _ o.invariant.0) d.invariant (omega arith)
    (both_are w32 (lane_small n) r.type_inv n r.ensures.1 tt
    ∙ ap (λ (z : ℤ). z +ℤ r.result) is
    ∙ ap (λ (z : ℤ). sum_ℤ (lane_term w p d.l) o.j +ℤ z) (term_is w d.l o.j c.requires.1 c.loop-l-test.true c.loop-j-test.true c.scale_q4k-scale.ensures.0 r.ensures.0)
    ∙ sym (sum_more (lane_term w p d.l) o.j))

pub loop-j-preserved : goal.loop-j-preserved
loop-j-preserved c =
    let s = c.scale_q4k-scale in
    (filling_done _ _ 8 c.loop-l.lanes c.loop-l.l (long _ c.loop-j.invariant.0) c.loop-l.invariant (omega arith), below_more _ _ c.loop-j.invariant.1 (subst (λ (n : ℕ). n < 64) s.ensures.0 s.ensures.1))

pub returns : goal.returns
returns c =
    let a = c.args in
    let w = a.w.now in
    let p = a.p.now in
    let e : c.loop-j.j ≡ 8 = omega arith in
    let lanes_are : c.loop-j.lanes ≡ table (lane_at w p) 8 = c.loop-j.invariant.0 ∙ ap (λ (n : ℕ). table (λ (i : ℕ). sum_ℤ (lane_term w p i) n) 8) e in
    (lanes_are, record { near = λ l h. subst (Within 7999488) (sym (ap (λ (m : List ℤ). elem m l) lanes_are ∙ get_or_table (lane_at w p) 8 l (pos 0) h)) (lane_within w p c.requires.1 l 8 h (omega arith) (λ k r. c.loop-j.invariant.1 k (omega arith))) })
