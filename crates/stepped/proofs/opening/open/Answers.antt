-- `opening::open` meets its contract: a refusal, or slots and marks cleared. Assumes nothing.
use native.Mathlib.Omega.{arith}
use Prim.Native.Nat.{ℕ, ◌≤◌}
use mathlib.Core.Path.{◌≡◌, sym, ap, ◌∙◌}
use mathlib.Core.List.{List, ◌++◌}
use lib.ListN.{length, take, drop}
use lib.Seq.{length-take-le}
use Rattle.refusals.proofs.Laws.{check_passed, refused_out, done_out}
use Rattle.numbers.specs.Steps.{nought}
use Rattle.memory.specs.Lists.{table, filled}
use Rattle.stepped_shape.specs.Layer.{pieces}
use Rattle.stepped_shape.proofs.Shapes.{openable}
use Rattle.stepped_shape.proofs.Says.{by_unknown, by_known}
use Rattle.stepped.specs.Says.{open_says}
use Rattle.stepped.proofs.opening.open.Goals as goal

-- the front of n places was lent, and is cleared now
front_filled : {A : Type 0} (a : A) (xs front : List A) (n m : ℕ) → n ≡ m → n ≤ length xs → front ≡ table (λ i. a) (length (take n xs)) → front ++ drop n xs ≡ filled (λ i. a) xs m
front_filled a xs front n m e h t =
    ap (λ ys. ys ++ drop n xs) (t ∙ ap (table (λ i. a)) (length-take-le n xs h)) ∙ ap (filled (λ i. a) xs) e

pub returns-in_err-try_from : goal.returns-in_err-try_from
unfolding open_says
returns-in_err-try_from c = by_unknown _ _ c.in_err-try_from.ensures c.from_residual.ensures.1

pub returns-in_err-open_refusal : goal.returns-in_err-open_refusal
unfolding open_says
returns-in_err-open_refusal c = refused_out _ _ c.in_err-open_refusal.ensures c.from_residual-in_err-open_refusal.ensures.1 ∙ by_known _ _ c.in_ok-try_from.ensures

pub pieces_of-n-requires : goal.pieces_of-n-requires
pieces_of-n-requires c = (openable _ _ _ (check_passed c.in_ok-open_refusal.ensures)).shape

pub slice_bounds-clear-end : goal.slice_bounds-clear-end
slice_bounds-clear-end c = omega (arith, c.pieces_of-n.ensures, (openable _ _ _ (check_passed c.in_ok-open_refusal.ensures)).has_room.slots_enough)

pub slice_bounds-clear-end-2 : goal.slice_bounds-clear-end-2
slice_bounds-clear-end-2 c = sym (length-take-le _ _ (omega (arith, c.pieces_of-n.ensures, (openable _ _ _ (check_passed c.in_ok-open_refusal.ensures)).has_room.slots_enough)))

pub slice_bounds-clear-end-3 : goal.slice_bounds-clear-end-3
slice_bounds-clear-end-3 c = omega (arith, c.pieces_of-n.ensures, (openable _ _ _ (check_passed c.in_ok-open_refusal.ensures)).has_room.marks_enough)

pub slice_bounds-clear-end-4 : goal.slice_bounds-clear-end-4
slice_bounds-clear-end-4 c = sym (length-take-le _ _ (omega (arith, c.pieces_of-n.ensures, (openable _ _ _ (check_passed c.in_ok-open_refusal.ensures)).has_room.marks_enough)))

pub returns : goal.returns
unfolding open_says
returns c =
    let a = c.args in
    let n = c.pieces_of-n in
    let room = (openable _ _ _ (check_passed c.in_ok-open_refusal.ensures)).has_room in
    rw (
      front_filled nought a.slots.now c.clear.new.places n.result (pieces a.l) n.ensures (omega (arith, n.ensures, room.slots_enough)) c.clear.ensures,
      front_filled 0 a.marks.now c.clear-2.new.places n.result (pieces a.l) n.ensures (omega (arith, n.ensures, room.marks_enough)) c.clear-2.ensures,
    )
    (done_out _ _ c.in_ok-open_refusal.ensures ∙ by_known _ _ c.in_ok-try_from.ensures)
