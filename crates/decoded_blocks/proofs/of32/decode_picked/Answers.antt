-- `of32::decode_picked` meets its contract: in turn k the places k and k + 16 are filled. Assumes nothing.
use mathlib.Core.Path.{◌≡◌, sym, ap, ◌∙◌}
use Prim.Native.Nat.{ℕ, ◌+◌, ◌%◌, ◌/◌, ◌<◌}
use lib.ListN.{get_or}
use mathlib.Core.List.{List}
use lib.Ieee.{Float, nan}
use native.Mathlib.Omega.{arith}
use Rattle.memory.specs.Lists.{table}
use Rattle.memory.proofs.Filled.{get_or_table}
use Rattle.layouts.specs.Of32.{nibble_apart, value_iq4_nl, quant32}
use Rattle.layouts.specs.declared.format.Format32.TheVariants.{Iq4Nl}
use Rattle.layouts.proofs.Two.{own_halves, pairs_none, pairs_more, pairs_all}
use Rattle.layouts.proofs.Quants.{nibble_small, apart_low, apart_high, iq4_nl_at}
use Rattle.decoded_blocks.proofs.Scaled.{times}
use Rattle.decoded_blocks.proofs.of32.decode_picked.Goals as goal

pub loop-k-init : goal.loop-k-init
loop-k-init c =
    pairs_none 16 (λ i. i % 16) (λ i. times c.args.s (quant32 Iq4Nl c.args.block.now i)) nan c.args.out.now c.requires.1

-- n, the nibble of place i, picks that place's value
picked : (s : Float) (bs : List ℕ) {scaled : List Float} (i n : ℕ) → scaled ≡ table (λ v. times s (value_iq4_nl v)) 16 → get_or bs (2 + i % 16) 0 < 256 → nibble_apart bs 2 i ≡ n
    → get_or scaled n nan ≡ times s (quant32 Iq4Nl bs i)
picked s bs i n S b e =
    let small : n < 16 = omega (arith, nibble_small _ (i / 16) b) in
    rw S (get_or_table (λ v. times s (value_iq4_nl v)) 16 n nan small ∙ ap (times s) (sym (iq4_nl_at _ i n e)))

pub loop-k-preserved : goal.loop-k-preserved
loop-k-preserved c =
    let s = c.args.s in
    let bs = c.args.block.now in
    let k = c.loop-k.k in
    let h : k < 16 = c.loop-k-test.true in
    let S = c.scaled_values-scaled.ensures in
    pairs_more 16 (λ i. i % 16) (λ i. times s (quant32 Iq4Nl bs i)) nan c.loop-k.out k _ _ h
    (picked s bs k _ S (c.type_inv.block (2 + k % 16)).fits (apart_low bs 2 k h))
    (picked s bs (k + 16) _ S (c.type_inv.block (2 + (k + 16) % 16)).fits (apart_high bs 2 k h))
    (own_halves 16 k)
    c.loop-k.invariant

pub returns : goal.returns
returns c =
    let l = c.loop-k in
    let a = c.args in
    pairs_all 16 (λ i. i % 16) (λ i. times a.s (quant32 Iq4Nl a.block.now i)) nan l.out l.k c.loop-k-test.false (λ i h. omega arith) l.invariant
