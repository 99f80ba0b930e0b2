-- `table::row_of` meets its contract: every row is the card's. Assumes nothing.
use mathlib.Core.Path.{◌≡◌}
use Prim.Native.Nat.{ℕ, ◌+◌, ◌≤◌}
use native.Mathlib.Nat.{le_antisymm}
use native.Mathlib.Omega.{arith}
use Rattle.bench_rows.specs.Card.{card, row_at}
use Rattle.bench_rows.specs.Rows.{meant}
use Rattle.bench_rows.proofs.table.row_of.Goals as goal

pub returns-in-1 : goal.returns-in-1
unfolding card row_at meant
returns-in-1 c = rw c.in-1.is

pub returns-in-2 : goal.returns-in-2
unfolding card row_at meant
returns-in-2 c = rw c.in-2.is

pub returns-in-3 : goal.returns-in-3
unfolding card row_at meant
returns-in-3 c = rw c.in-3.is

pub returns-in-4 : goal.returns-in-4
unfolding card row_at meant
returns-in-4 c = rw c.in-4.is

pub returns-in-5 : goal.returns-in-5
unfolding card row_at meant
returns-in-5 c = rw c.in-5.is

pub returns-in-6 : goal.returns-in-6
unfolding card row_at meant
returns-in-6 c = rw c.in-6.is

pub returns-in-7 : goal.returns-in-7
unfolding card row_at meant
returns-in-7 c = rw c.in-7.is

pub returns-in-8 : goal.returns-in-8
unfolding card row_at meant
returns-in-8 c = rw c.in-8.is

pub returns-in-9 : goal.returns-in-9
unfolding card row_at meant
returns-in-9 c = rw c.in-9.is

pub returns-in-10 : goal.returns-in-10
unfolding card row_at meant
returns-in-10 c = rw c.in-10.is

pub returns-in-11 : goal.returns-in-11
unfolding card row_at meant
returns-in-11 c = rw c.in-11.is

-- past a row that it is not
next : (k n : ℕ) → k ≤ n → (n ≡ k → ⊥) → k + 1 ≤ n
next k n h d = omega arith

-- past rows 1 to 6, and past 7 to 11
pub returns-in_default : goal.returns-in_default
unfolding card row_at meant
returns-in_default c =
    let n = c.args.number in
    let r = c.in_default.in_default-own.rest in
    let past6 = next 6 n (next 5 n (next 4 n (next 3 n (next 2 n (next 1 n c.requires.0 r.0.0.0.0.0.0.0.0.0.0.1) r.0.0.0.0.0.0.0.0.0.1) r.0.0.0.0.0.0.0.0.1) r.0.0.0.0.0.0.0.1) r.0.0.0.0.0.0.1) r.0.0.0.0.0.1 in
    let past11 = next 11 n (next 10 n (next 9 n (next 8 n (next 7 n (past6) r.0.0.0.0.1) r.0.0.0.1) r.0.0.1) r.0.1) r.1 in
    let e : n ≡ 12 = le_antisymm c.requires.1 past11 in
    rw e
