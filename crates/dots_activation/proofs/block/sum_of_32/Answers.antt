-- `block::sum_of_32` meets its contract: 8 turns of two pairs, each turn within 512. Assumes nothing.
use mathlib.Core.Path.{◌≡◌, ap, ◌∙◌}
use mathlib.Core.List.{List}
use Prim.Native.Nat.{ℕ, ◌+◌, ◌*◌, ◌^◌, ◌<◌}
use native.Mathlib.Nat.{add_assoc}
use native.Mathlib.Omega.{arith}
use lib.IntN.{ℤ, ◌+ℤ◌}
use lib.Signed.{mag}
use mir.Syntax.{w16}
use mir.Val.{SFits, to_z, of_z}
use Rattle.dots_activation.specs.Whole.{elem, Within}
use Rattle.dots_activation.specs.Inner.{PairsWithin}
use Rattle.dots_activation.proofs.Magnitudes.{add_within, fits_within}
use Rattle.dots_activation.proofs.Ranges.{sum_halves}
use Rattle.dots_activation.proofs.Loops.{acc_none, acc_more, acc_all, both_fit, both_are}
use Rattle.dots_activation.proofs.block.sum_of_32.Goals as goal

-- turn l's two pairs, which are small
module _ {pairs : List ℤ} (near : PairsWithin 256 pairs) {j l : ℕ} (h : j < 8) (k : l < 8) where
  small : (i : ℕ) → i < 128 → mag (elem pairs i) < 2 ^ 15
  small i p = (fits_within {w = w16} (near.near i p) tt).sfits

  abbrev low : ℤ
  low = to_z w16 (of_z w16 (elem pairs (16 * j + l)))

  abbrev high : ℤ
  high = to_z w16 (of_z w16 (elem pairs (16 * j + 8 + l)))

  turn_fits : SFits w16 (low +ℤ high)
  turn_fits = both_fit w16 (small (16 * j + l) (omega arith)) (small (16 * j + 8 + l) (omega arith)) (near.near (16 * j + l) (omega arith)) (near.near (16 * j + 8 + l) (omega arith)) tt

  turn_is : to_z w16 (of_z w16 (low +ℤ high)) ≡ elem pairs (16 * j + l) +ℤ elem pairs (16 * j + (8 + l))
  turn_is =
      both_are w16 (small (16 * j + l) (omega arith)) (small (16 * j + 8 + l) (omega arith)) (near.near (16 * j + l) (omega arith)) (near.near (16 * j + 8 + l) (omega arith)) tt
      ∙ ap (λ (i : ℕ). elem pairs (16 * j + l) +ℤ elem pairs i) (add_assoc (16 * j) 8 l)

  turn_within : Within 512 (elem pairs (16 * j + l) +ℤ elem pairs (16 * j + (8 + l)))
  turn_within = add_within (near.near (16 * j + l) (omega arith)) (near.near (16 * j + (8 + l)) (omega arith))

pub loop-l-init : goal.loop-l-init
loop-l-init c = acc_none w16 _ 512

pub loop-l-preserved : goal.loop-l-preserved
loop-l-preserved c =
    let p = c.requires.0 in
    let j = c.requires.1 in
    let l = c.loop-l-test.true in
    acc_more 8 c.loop-l.invariant (turn_is p j l) (turn_within p j l) l tt

pub returns : goal.returns
returns c =
    let a = c.args in
    let r = acc_all 8 c.loop-l.invariant (omega arith) in
    (r.0 ∙ sum_halves (λ (l : ℕ). elem a.pairs.now (16 * a.j + l)) 8, r.1)
