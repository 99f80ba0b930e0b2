-- `binary16::judge_f32_to_f16` is safe: a payload of another length was turned away, and a byte is a u32. Assumes nothing.
use native.Mathlib.Omega.{arith}
use Rattle.replay_calls.proofs.binary16.judge_f32_to_f16.Goals as goal

pub overflow_cast-fared : goal.overflow_cast-fared
overflow_cast-fared c = omega (arith, c.type_inv.payload 6)
