-- `nearest_to` meets its contract: the search counts the values whose next is nearer. Assumes nothing.
use mathlib.Core.Path.{◌≡◌, refl, ap, ◌∙◌}
use mathlib.Core.List.{List}
use mathlib.Core.Bool.{true}
use Prim.Native.Nat.{ℕ, ◌+◌, ◌<◌}
use borrow.Author.Tests.{ltb-true}
use lib.IntN.{ℤ, pos}
use lib.Dec.{ltb}
use lib.Signed.{mag}
use lib.ListN.{get_or}
use native.Mathlib.Numerals.{add-one}
use native.Mathlib.Omega.{arith}
use mir.Syntax.{w8}
use mir.Val.{of_z}
use mir.ValLaws.{of_z_fits}
use Rattle.memory.specs.Lists.{every}
use Rattle.memory.proofs.Every.{every_at}
use Rattle.numbers.proofs.Signed.{read_is, byte_read}
use Rattle.layouts.specs.Of32.{values_iq4_nl, value_iq4_nl}
use Rattle.nearest.specs.Nearest.{nearest}
use Rattle.nearest.specs.Inner.{next_is_nearer, nearer_next}
use Rattle.nearest.proofs.Searched.{searched}
use Rattle.nearest.proofs.nearest_to.Goals as goal

pub loop-k-init : goal.loop-k-init
unfolding nearer_next
loop-k-init c = (refl, omega arith, omega arith)

pub overflow_add-n : goal.overflow_add-n
overflow_add-n c = omega (arith, c.next_is_nearer-n.ensures.1)

-- every value of the table is a signed byte
all_bytes : every (λ n. ltb (mag (value_iq4_nl n)) 128) 16 ≡ true
unfolding values_iq4_nl every
all_bytes = refl

-- a value of the code's table, as the code reads it
picked : {v : List ℤ} (n : ℕ) → n < 16 → v ≡ values_iq4_nl → byte_read (get_or v n (pos 0)) ≡ value_iq4_nl n
picked n h e = rw e (read_is w8 (value_iq4_nl n) (ltb-true _ _ (every_at (λ n. ltb (mag (value_iq4_nl n)) 128) 16 n all_bytes h)))

pub loop-k-preserved : goal.loop-k-preserved
unfolding nearer_next
loop-k-preserved c =
    let l = c.loop-k in
    let r = c.next_is_nearer-n.ensures in
    let table = c.values_iq4_nl-values.ensures in
    let here = picked l.k (omega arith) table in
    let next = picked (l.k + 1) (omega arith) table in
    let said : c.next_is_nearer-n.result ≡ next_is_nearer (byte_read c.args.q) (value_iq4_nl l.k) (value_iq4_nl (l.k + 1)) = rw (here, next) at r.0 in
    (rw (add-one, ← said, ← l.invariant.0), omega (arith, r.1), omega arith)

pub returns : goal.returns
returns c =
    let l = c.loop-k in
    let all : l.k ≡ 15 = omega (arith, c.loop-k-test.false) in
    let e : l.n ≡ nearer_next (byte_read c.args.q) 15 = l.invariant.0 ∙ ap (nearer_next (byte_read c.args.q)) all in
    (e ∙ (searched (of_z w8 c.args.q) (of_z_fits w8 c.args.q c.ranges.q).fits).0 ∙ ap nearest (read_is w8 c.args.q c.ranges.q.sfits), omega arith)
