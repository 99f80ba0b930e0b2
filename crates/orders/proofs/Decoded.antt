-- What a converter wrote decodes, by its own layout, to what its input decodes to. Assumes nothing.
use mathlib.Core.Path.{◌≡◌, refl, ap, ◌∙◌}
use mathlib.Core.List.{List, ◌++◌}
use Prim.Native.Nat.{ℕ, ◌*◌, ◌/◌, ◌%◌, ◌<◌}
use lib.Ieee.{Float}
use lib.ListN.{length, get_or, take, drop}
use Rattle.refusals.specs.Said.{done}
use Rattle.memory.specs.Lists.{table, filled}
use Rattle.memory.proofs.Filled.{length_table}
use Rattle.layouts.specs.Weights.{weight_at}
use Rattle.layouts.specs.declared.format.Format.TheVariants.{Of32}
use Rattle.decoders.specs.Says.{dequantize_refusal, dequantize_says}
use Rattle.converters.specs.Orders.{converted_at, converted}
use Rattle.converters.specs.Says.{convert_says}
use Rattle.converters.specs.declared.direction.Direction.{Direction}
use Rattle.converters.specs.declared.direction.Direction.TheVariants.{ToGgml, FromGgml}
use Rattle.converters.proofs.Refused.{whole_and_room}
use Rattle.converters.proofs.Orders.{order_read, order_written, same_weights, was_done}

-- a decoder of the order that was read, and one of the order that was written
same_said : (d : Direction) (bs cs : List ℕ) (room : List Float) (n : ℕ) → length bs ≡ n → length cs ≡ n
    → filled (weight_at (Of32 (order_written d)) cs) room (n / 18 * 32) ≡ filled (weight_at (Of32 (order_read d)) bs) room (n / 18 * 32)
    → dequantize_says (Of32 (order_written d)) cs room ≡ dequantize_says (Of32 (order_read d)) bs room
unfolding dequantize_says dequantize_refusal
same_said ToGgml bs cs room n p q e = rw (p, q, e)
same_said FromGgml bs cs room n p q e = rw (p, q, e)

-- (b) decoding what a converter wrote, as the calls say it
pub decodes_alike : (d : Direction) (bs out left : List ℕ) (room : List Float) → ((i : ℕ) → get_or bs i 0 < 256) → convert_says d bs out ≡ (done, left)
    → dequantize_says (Of32 (order_written d)) (take (length bs) left) room ≡ dequantize_says (Of32 (order_read d)) bs room
decodes_alike d bs out left room bytes e =
    let n = length bs in
    let was = was_done d bs out left e in
    let whole = (whole_and_room n (length out) was.0).0 in
    let values = n / 18 * 32 in
    ap (λ (cs : List ℕ). dequantize_says (Of32 (order_written d)) cs room) was.1
    ∙ same_said d bs (converted d bs) room n refl (length_table (converted_at d bs) n) (ap (λ (vs : List Float). vs ++ drop values room) (by d whole))
  where
    by : (d : Direction) → length bs % 18 ≡ 0 → table (weight_at (Of32 (order_written d)) (converted d bs)) (length bs / 18 * 32) ≡ table (weight_at (Of32 (order_read d)) bs) (length bs / 18 * 32)
    by ToGgml whole = same_weights bs bytes whole ToGgml
    by FromGgml whole = same_weights bs bytes whole FromGgml
