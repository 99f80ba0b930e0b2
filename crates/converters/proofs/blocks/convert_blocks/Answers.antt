-- `blocks::convert_blocks` meets its contract: in turn b block b is converted into its own places. Assumes nothing.
use mathlib.Core.Path.{◌≡◌, refl, ap, ◌∙◌}
use Prim.Native.Nat.{◌+◌, ◌-◌, ◌*◌, ◌/◌, ◌≤◌}
use native.Mathlib.Nat.{suc-mul}
use native.Mathlib.Numerals.{add-one}
use native.Mathlib.Omega.{arith}
use lib.ListN.{length, take, drop}
use Rattle.memory.specs.Lists.{filled}
use Rattle.memory.proofs.Filled.{part_length}
use Rattle.memory.proofs.Parts.{parts_none, parts_more, parts_done}
use Rattle.converters.specs.Orders.{converted_byte, converted_at}
use Rattle.converters.proofs.Moved.{placed}
use Rattle.converters.proofs.blocks.convert_blocks.Goals as goal

pub loop-b-init : goal.loop-b-init
loop-b-init c =
    let a = c.args in
    parts_none (converted_at a.direction a.bytes.now) a.out.now (λ k. k * 18) _ refl

pub convert_block-requires : goal.convert_block-requires
convert_block-requires c =
    let l = c.loop-b in
    let a = c.args in
    let room : l.b * 18 + 18 ≤ length l.out = omega (arith, l.invariant.2) in
    (part_length a.bytes.now (l.b * 18) 18 (l.b * 18 + 18) refl (omega arith), part_length l.out (l.b * 18) 18 (l.b * 18 + 18) refl room)

pub loop-b-preserved : goal.loop-b-preserved
loop-b-preserved c =
    let l = c.loop-b in
    let to = c.args.direction in
    let bs = c.args.bytes.now in
    let b = l.b in
    let size : b * 18 + 18 - b * 18 ≡ 18 = omega arith in
    let inside : b * 18 + 18 ≤ length c.args.out.now = omega arith in
    parts_more (converted_at to bs) c.args.out.now (λ k. k * 18) (length bs / 18) (converted_byte to (take (b * 18 + 18 - b * 18) (drop (b * 18) bs))) l.out _ b 18 c.loop-b-test.true (rw add-one (suc-mul b 18)) inside c.convert_block.ensures
    (λ i h. rw size (placed to bs b i h)) l.invariant

pub shape_of-out : goal.shape_of-out
shape_of-out c = c.loop-b.invariant.2

pub returns : goal.returns
returns c =
    let l = c.loop-b in
    let f = converted_at c.args.direction c.args.bytes.now in
    let n = length c.args.bytes.now in
    let whole : n / 18 * 18 ≡ n = omega (arith, c.requires.0) in
    parts_done f c.args.out.now (λ k. k * 18) (n / 18) l.out l.b c.loop-b-test.false l.invariant ∙ ap (filled f c.args.out.now) whole
