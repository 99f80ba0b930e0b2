-- `binary16::f32_to_f16` meets its contract. Assumes nothing.
use mathlib.Core.Path.{ap}
use Prim.Native.Nat.{ℕ, ◌+◌, ◌*◌, ◌/◌}
use Rattle.halves.specs.Binary16.{narrowed}
use Rattle.halves.proofs.binary16.f32_to_f16.Goals as goal

pub returns : goal.returns
unfolding narrowed
returns c =
    let s = c.args.bits / 2147483648 * 32768 in
    cc (ap (λ (m : ℕ). s + m) c.narrowed_magnitude.ensures.0)
