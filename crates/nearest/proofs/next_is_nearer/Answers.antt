-- `next_is_nearer` meets its contract: twice q is above the sum of the two values, or not. Assumes nothing.
use mathlib.Core.Path.{◌≡◌, sym, ap, ◌∙◌}
use Prim.Native.Nat.{◌^◌, ◌<◌}
use native.Mathlib.Omega.{arith}
use lib.IntN.{ℤ, ◌+ℤ◌}
use lib.Signed.{mag, lt_z}
use mir.Syntax.{w8, w16}
use mir.Val.{to_z, of_z}
use Rattle.numbers.proofs.Signed.{read_is, byte_read}
use Rattle.nearest.specs.Inner.{next_is_nearer}
use Rattle.nearest.proofs.next_is_nearer.Goals.{After-sum_of-2}
use Rattle.nearest.proofs.next_is_nearer.Goals as goal

-- the sum of two bytes, as the code compares it
read_sum : (x y : ℤ) {s : ℤ} → mag s < 2 ^ 15 → mag x < 128 → mag y < 128 → s ≡ byte_read x +ℤ byte_read y → to_z w16 (of_z w16 s) ≡ x +ℤ y
read_sum x y {s} p h k e = read_is w16 s p ∙ e ∙ ap (λ (z : ℤ). z +ℤ byte_read y) (read_is w8 x h) ∙ ap (λ (z : ℤ). x +ℤ z) (read_is w8 y k)

-- what the code compares is what the definition does
told : (c : After-sum_of-2) → (let a = c.args in lt_z (to_z w16 (of_z w16 c.sum_of.result)) (to_z w16 (of_z w16 c.sum_of-2.result)) ≡ lt_z (a.value +ℤ a.next) (a.q +ℤ a.q))
told c =
    let q = c.ranges.q.sfits in
    let both : to_z w16 (of_z w16 c.sum_of.result) ≡ c.args.value +ℤ c.args.next = read_sum c.args.value c.args.next c.sum_of.type_inv c.ranges.value.sfits c.ranges.next.sfits c.sum_of.ensures in
    let twice : to_z w16 (of_z w16 c.sum_of-2.result) ≡ c.args.q +ℤ c.args.q = read_sum c.args.q c.args.q c.sum_of-2.type_inv q q c.sum_of-2.ensures in
    rw (both, twice)

pub returns-then-sum_of : goal.returns-then-sum_of
unfolding next_is_nearer
returns-then-sum_of c = (rw (sym (told c.before) ∙ c.if-sum_of.true), omega arith)

pub returns-else-sum_of : goal.returns-else-sum_of
unfolding next_is_nearer
returns-else-sum_of c = (rw (sym (told c.before) ∙ c.if-sum_of.false), omega arith)
