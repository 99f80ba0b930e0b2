-- `of32::decode_32` meets its contract: both ways have the block's own scale, and multiply its own whole numbers by it. Assumes nothing.
use mathlib.Core.Path.{◌≡◌, ap, ◌∙◌}
use mathlib.Core.List.{List}
use Prim.Native.Nat.{ℕ}
use lib.IntN.{ℤ}
use native.Mathlib.Omega.{arith}
use Rattle.memory.specs.Lists.{table}
use Rattle.halves.specs.Binary16.{widened}
use Rattle.numbers.specs.Fields.{le16}
use Rattle.layouts.specs.Of32.{quant32}
use Rattle.layouts.specs.declared.format.Format32.{Format32}
use Rattle.layouts.specs.declared.format.Format32.TheVariants.{Iq4Nl}
use Rattle.layouts.proofs.Sizes.{least_32}
use Rattle.decoded_blocks.proofs.Scaled.{of_quants, of_scale}
use Rattle.decoded_blocks.proofs.of32.decode_32.Goals.{in-Q40, in-Q40Ggml, in-Q50, in-Q80}
use Rattle.decoded_blocks.proofs.of32.decode_32.Goals as goal

pub bounds-block-0 : goal.bounds-block-0
bounds-block-0 c = omega (arith, least_32 c.args.format)

pub bounds-block-1 : goal.bounds-block-1
bounds-block-1 c = omega (arith, least_32 c.args.format)

-- whole numbers by the layout that was told are the block's
told : (f g : Format32) (bs : List ℕ) (q : List ℤ) → f ≡ g → q ≡ table (quant32 g bs) 32 → q ≡ table (quant32 f bs) 32
told f g bs q e laid = rw e laid

pub returns-in-Iq4Nl : goal.returns-in-Iq4Nl
returns-in-Iq4Nl c =
    let s : c.f16_to_f32-s.result ≡ widened (le16 c.args.block.now 0) = c.f16_to_f32-s.ensures ∙ ap widened c.le_u16.ensures in
    rw c.in-Iq4Nl.is (c.decode_picked.ensures ∙ of_scale Iq4Nl _ _ s)

-- the whole numbers are the block's own, whichever way they came
pub returns : goal.returns
returns c =
    let a = c.args in
    let s : c.f16_to_f32-s.result ≡ widened (le16 a.block.now 0) = c.f16_to_f32-s.ensures ∙ ap widened c.le_u16.ensures in
    let own : c.match-format.q ≡ table (quant32 a.format a.block.now) 32 = elim c.match-format.branch [
      | in-Q40 w ↦ told _ _ _ _ w.in-Q40.is (w.q-is ∙ w.quants_q4_0-q.ensures)
      | in-Q40Ggml w ↦ told _ _ _ _ w.in-Q40Ggml.is (w.q-is ∙ w.quants_q4_0_ggml-q.ensures)
      | in-Q50 w ↦ told _ _ _ _ w.in-Q50.is (w.q-is ∙ w.quants_q5_0-q.ensures)
      | in-Q80 w ↦ told _ _ _ _ w.in-Q80.is (w.q-is ∙ w.quants_q8_0-q.ensures)
    ] in
    c.scale_quants.ensures ∙ of_quants a.format a.block.now _ _ own ∙ of_scale a.format a.block.now _ s
