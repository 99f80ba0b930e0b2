-- `nibbles_iq4_nl` meets its contract: the places are filled in turn. Assumes nothing.
use mathlib.Core.Path.{refl}
use lib.ListN.{replicate}
use Rattle.memory.proofs.Filled.{filling_start, filling_more, filling_done}
use Rattle.nearest.proofs.nibbles_iq4_nl.Invariants.{nibble}
use Rattle.nearest.proofs.nibbles_iq4_nl.Goals as goal

pub loop-k-init : goal.loop-k-init
loop-k-init c = filling_start (nibble c.args.x.now c.args.inverse) (replicate 32 0) 32 refl

pub loop-k-preserved : goal.loop-k-preserved
loop-k-preserved c =
    let l = c.loop-k in
    let a = c.args in
    filling_more (nibble a.x.now a.inverse) (replicate 32 0) 32 l.n l.k _ refl l.invariant c.loop-k-test.true c.round_iq4_nl.ensures

pub returns : goal.returns
returns c =
    let l = c.loop-k in
    let a = c.args in
    filling_done (nibble a.x.now a.inverse) (replicate 32 0) 32 l.n l.k refl l.invariant c.loop-k-test.false
