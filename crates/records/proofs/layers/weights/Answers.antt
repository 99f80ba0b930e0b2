-- `layers::weights` meets its contract. Assumes nothing.
use mathlib.Core.Path.{sym}
use Prim.Native.Nat.{◌-◌, ◌≤◌}
use native.Mathlib.Omega.{arith}
use lib.ListN.{length, drop, drop_of_length-le, length-drop}
use lib.Seq.{take_all}
use Rattle.records.proofs.layers.weights.Goals as goal

pub returns-then-p-lt-HEAD : goal.returns-then-p-lt-HEAD
returns-then-p-lt-HEAD c =
    let p = c.args.p.now in
    let few : length p ≤ 9 = omega arith in
    sym (drop_of_length-le p few)

pub returns-else-p-lt-HEAD : goal.returns-else-p-lt-HEAD
returns-else-p-lt-HEAD c =
    let p = c.args.p.now in
    take_all (length p - 9) (drop 9 p) (rw length-drop (omega arith))
