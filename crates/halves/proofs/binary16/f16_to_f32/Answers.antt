-- `binary16::f16_to_f32` meets its contract. Assumes nothing.
use mathlib.Core.Path.{◌≡◌, refl, sym, ap, ◌∙◌}
use Prim.Native.Nat.{ℕ, ◌+◌, ◌*◌, ◌/◌, ◌^◌, ◌<◌}
use native.Mathlib.Omega.{arith}
use mathlib.Core.Bool.{Bool}
use lib.Ieee.{inf, binary32, round}
use Rattle.halves.specs.Binary16.{negative, exponent, digits}
use Rattle.halves.proofs.Patterns.{no_nan}
use Rattle.halves.proofs.Cases.{sign_bit, infinite, nought, no_number, at_infinity, at_nan, at_finite, normal}
use Rattle.halves.proofs.binary16.f16_to_f32.Goals as goal

pos_of : (x : ℕ) → (x ≡ 0 → ⊥) → 0 < x
pos_of x n = omega arith

pub float_from_bits-result : goal.float_from_bits-result
float_from_bits-result c = no_nan (c.args.half / 32768 * 2147483648 + 2139095040) (omega arith)

pub returns-then-mant-eq0 : goal.returns-then-mant-eq0
returns-then-mant-eq0 c =
    let h = c.args.half in
    infinite (h / 32768) (omega arith) ∙ ap inf (sign_bit h (omega arith)) ∙ sym (at_infinity h c.if-exp-eq31.true c.if-mant-eq0.true)

pub returns-then-exp-eq31 : goal.returns-then-exp-eq31
returns-then-exp-eq31 c = no_number ∙ sym (at_nan c.args.half c.if-exp-eq31.true c.if-mant-eq0.false)

pub float_from_bits-result-then-mant-eq0-2 : goal.float_from_bits-result-then-mant-eq0-2
float_from_bits-result-then-mant-eq0-2 c = no_nan (c.args.half / 32768 * 2147483648) (omega arith)

pub returns-then-mant-eq0-2 : goal.returns-then-mant-eq0-2
returns-then-mant-eq0-2 c =
    let h = c.args.half in
    nought (h / 32768) (omega arith)
    ∙ ap (λ (s : Bool). round binary32 s 0 (2 ^ 24)) (sign_bit h (omega arith))
    ∙ ap (λ (n : ℕ). round binary32 (negative h) n (2 ^ 24)) (sym c.if-mant-eq0-2.true)
    ∙ sym (at_finite h 0 c.if-exp-eq0.true c.if-exp-eq31.false)

pub returns-then-exp-eq0 : goal.returns-then-exp-eq0
returns-then-exp-eq0 c =
    let h = c.args.half in
    c.subnormal.ensures
    ∙ ap (λ (s : Bool). round binary32 s (digits h) (2 ^ 24)) (sign_bit h (omega arith))
    ∙ sym (at_finite h 0 c.if-exp-eq0.true c.if-exp-eq31.false)

pub returns : goal.returns
returns c =
    let h = c.args.half in
    c.normal.ensures
    ∙ ap (λ (s : Bool). round binary32 s ((digits h + 1024) * 2 ^ (exponent h + 112)) (2 ^ 137)) (sign_bit h (omega arith))
    ∙ normal (negative h) (digits h) (exponent h) (pos_of (exponent h) c.if-exp-eq0.false)
    ∙ sym (at_finite h (exponent h) refl c.if-exp-eq31.false)
