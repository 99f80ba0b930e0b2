-- `q8_0::decode_q8_0_blocks` meets its contract: in turn b block b is decoded into its own places. Assumes nothing.
use mathlib.Core.Path.{refl}
use Prim.Native.Nat.{◌+◌, ◌-◌, ◌*◌, ◌/◌, ◌≤◌}
use native.Mathlib.Nat.{suc-mul}
use native.Mathlib.Numerals.{add-one}
use native.Mathlib.Omega.{arith}
use lib.ListN.{length, take, drop}
use Rattle.memory.proofs.Filled.{part_length}
use Rattle.memory.proofs.Parts.{parts_none, parts_more, parts_done}
use Rattle.layouts.specs.Weights.{value_in, weight_at}
use Rattle.layouts.proofs.Sizes.{placed}
use Rattle.decoders.proofs.q8_0.decode_q8_0_blocks.Invariants.{q8_0}
use Rattle.decoders.proofs.q8_0.decode_q8_0_blocks.Goals as goal

pub loop-b-init : goal.loop-b-init
loop-b-init c =
    let a = c.args in
    parts_none (weight_at q8_0 a.bytes.now) a.out.now (λ k. k * 32) _ refl

pub decode_q8_0-requires : goal.decode_q8_0-requires
decode_q8_0-requires c =
    let l = c.loop-b in
    let a = c.args in
    let room : l.b * 32 + 32 ≤ length l.out = omega (arith, l.invariant.2) in
    (part_length a.bytes.now (l.b * 34) 34 (l.b * 34 + 34) refl (omega arith), part_length l.out (l.b * 32) 32 (l.b * 32 + 32) refl room)

pub loop-b-preserved : goal.loop-b-preserved
loop-b-preserved c =
    let l = c.loop-b in
    let bs = c.args.bytes.now in
    let b = l.b in
    let inside : b * 32 + 32 ≤ length c.args.out.now = omega arith in
    parts_more (weight_at q8_0 bs) c.args.out.now (λ k. k * 32) (length bs / 34) (value_in q8_0 (take (b * 34 + 34 - b * 34) (drop (b * 34) bs))) l.out _ b 32 c.loop-b-test.true (rw add-one (suc-mul b 32)) inside c.decode_q8_0.ensures
    (λ i h. placed q8_0 bs b i 34 32 refl refl h) l.invariant

pub shape_of-out : goal.shape_of-out
shape_of-out c = c.loop-b.invariant.2

pub returns : goal.returns
returns c =
    let l = c.loop-b in
    let a = c.args in
    parts_done (weight_at q8_0 a.bytes.now) a.out.now (λ k. k * 32) (length a.bytes.now / 34) l.out l.b c.loop-b-test.false l.invariant
