-- `binary16::subnormal` meets its contract: the digits go up by as many places as the exponent goes down. Assumes nothing.
use mathlib.Core.Path.{◌≡◌, ap, ◌∙◌}
use Prim.Native.Nat.{ℕ, ◌+◌, ◌-◌, ◌*◌, ◌%◌, ◌^◌}
use native.Mathlib.Nat.{mod-eq_of_lt}
use native.Mathlib.Omega.{arith}
use lib.Count.{count_leading_zeros}
use lib.Dec.{eqb}
use lib.Ieee.{binary32, round}
use Rattle.halves.proofs.Shifted.{shifted, placed, Placed}
use Rattle.halves.proofs.binary16.subnormal.Goals.{Start}
use Rattle.halves.proofs.binary16.subnormal.Goals as goal

there : (c : Start) → Placed c.args.mant (count_leading_zeros 32 c.args.mant)
there c = placed c.args.mant c.requires.1 c.requires.2

-- no digit is shifted out
kept : (c : Start) → (let n = c.args.mant * 2 ^ (count_leading_zeros 32 c.args.mant - 21) in n % 4294967296 ≡ n)
kept c = let h = (there c).3 in mod-eq_of_lt (omega arith)

pub overflow_sub-up : goal.overflow_sub-up
overflow_sub-up c = omega (arith, there c)

pub overflow_sub-up-2 : goal.overflow_sub-up-2
overflow_sub-up-2 c = omega (arith, there c)

pub overflow_shl-mant : goal.overflow_shl-mant
overflow_shl-mant c = omega (arith, there c)

pub normal-requires : goal.normal-requires
normal-requires c = omega (arith, there c, kept c)

pub returns : goal.returns
returns c =
    let s = eqb c.args.sign 1 in
    let a = c.args.mant in
    let k = count_leading_zeros 32 a - 21 in
    let h : k + (113 - k) ≡ 113 = omega (arith, there c.before) in
    c.normal.ensures ∙ ap (λ (z : ℕ). round binary32 s (z * 2 ^ (113 - k)) (2 ^ 137)) (kept c.before) ∙ shifted s a k (113 - k) h
