-- `block::write_quants_iq4_nl` meets its contract: the places are filled in turn, from nibbles. Assumes nothing.
use mathlib.Core.Path.{◌≡◌, sym, ap, ◌∙◌}
use mathlib.Core.List.{List}
use Prim.Native.Nat.{ℕ, ◌+◌, ◌<◌}
use native.Mathlib.Omega.{arith}
use lib.Ieee.{Float, nan, binary32, mul}
use lib.ListN.{get_or}
use Rattle.memory.specs.Lists.{table}
use Rattle.memory.proofs.Filled.{filling_start, filling_more, filling_done, get_or_table}
use Rattle.nearest.specs.Nearest.{quant_iq4_nl}
use Rattle.nearest.proofs.Meaning.{nearest_of_reading}
use Rattle.quantizers.proofs.block.write_quants_iq4_nl.Invariants.{bytes}
use Rattle.quantizers.proofs.block.write_quants_iq4_nl.Goals as goal

-- the nibble at a place, which is one
module _ (x : List Float) (inverse : Float) {n : List ℕ} (e : n ≡ table (λ k. quant_iq4_nl (mul binary32 (get_or x k nan) inverse)) 32) (i : ℕ) (h : i < 32) where
  nibble_is : get_or n i 0 ≡ quant_iq4_nl (mul binary32 (get_or x i nan) inverse)
  nibble_is = ap (λ (n : List ℕ). get_or n i 0) e ∙ get_or_table (λ k. quant_iq4_nl (mul binary32 (get_or x k nan) inverse)) 32 i 0 h

  nibble_small : get_or n i 0 < 16
  nibble_small = rw nibble_is (nearest_of_reading (mul binary32 (get_or x i nan) inverse)).nibble

pub nibbles_iq4_nl-n-requires : goal.nibbles_iq4_nl-n-requires
nibbles_iq4_nl-n-requires c = c.requires.0

pub loop-k-init : goal.loop-k-init
loop-k-init c = filling_start (bytes c.args.x.now c.args.inverse) c.args.out.now 16 c.requires.1

pub overflow_mul-out : goal.overflow_mul-out
overflow_mul-out c = omega (arith, nibble_small _ _ c.nibbles_iq4_nl-n.ensures (c.loop-k.k + 16) (omega arith))

pub overflow_add-out-in-loop-k : goal.overflow_add-out-in-loop-k
overflow_add-out-in-loop-k c =
    let k = c.loop-k.k in
    let e = c.nibbles_iq4_nl-n.ensures in
    omega (arith, nibble_small _ _ e k (omega arith), nibble_small _ _ e (k + 16) (omega arith))

pub loop-k-preserved : goal.loop-k-preserved
loop-k-preserved c =
    let l = c.loop-k in
    let e = c.nibbles_iq4_nl-n.ensures in
    filling_more (bytes c.args.x.now c.args.inverse) c.args.out.now 16 l.out l.k _ c.requires.1 l.invariant c.loop-k-test.true (rw (nibble_is _ _ e l.k (omega arith), nibble_is _ _ e (l.k + 16) (omega arith)))

pub shape_of-out : goal.shape_of-out
shape_of-out c = c.loop-k.invariant.2 ∙ sym c.requires.1

pub returns : goal.returns
returns c =
    let l = c.loop-k in
    filling_done (bytes c.args.x.now c.args.inverse) c.args.out.now 16 l.out l.k c.requires.1 l.invariant c.loop-k-test.false
