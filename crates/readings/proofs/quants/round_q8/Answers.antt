-- `readings::round_q8` meets its contract: what is held is one of 0 to 127, and below zero it is turned. Assumes nothing.
use mathlib.Core.Path.{◌≡◌, sym, ap, ◌∙◌}
use mathlib.Core.Bool.{true, false}
use Prim.Native.Nat.{ℕ, zero, suc, ◌^◌, ◌≤◌, ◌<◌}
use native.Mathlib.Omega.{arith}
use lib.Dec.{lit<}
use lib.IntN.{ℤ, pos, neg_ℤ, ◌-ℤ◌, +ℤ_idl}
use lib.Signed.{mag}
use lib.Ieee.{Float, binary32, neg, add, lt, of_bits}
use mir.Syntax.{w8, w32}
use mir.Val.{SFits, to_z, of_z}
use mir.ValLaws.{to_z-of_z}
use Rattle.numbers.specs.Steps.{nought, magnitude, truncated}
use Rattle.readings.specs.Readings.{held, quant_q8}
use Rattle.numbers.proofs.Signed.{read_is}
use Rattle.readings.proofs.Held.{UpTo, held_up_to}
use Rattle.readings.proofs.BothSides.{half, not_below, below}
use Rattle.readings.proofs.quants.round_q8.Goals.{After-held_whole-q, Joined-p, then-p, else-p}
use Rattle.readings.proofs.quants.round_q8.Goals as goal

-- the rule of a magnitude
abbrev ruled : Float → ℤ
ruled x = held (pos 0) (pos 127) (truncated (add binary32 x half))

value : (c : After-held_whole-q) → c.held_whole-q.result ≡ ruled (magnitude c.args.p)
unfolding of_bits
value c = c.held_whole-q.ensures ∙ ap ruled c.magnitude_of.ensures

quant : (c : After-held_whole-q) → UpTo 127 c.held_whole-q.result
quant c = rw (value c) (held_up_to 127 (truncated (add binary32 (magnitude c.args.p) half)))

-- the quant by it, on each side of zero
turned_is : (c : After-held_whole-q) → lt c.args.p nought ≡ true → quant_q8 c.args.p ≡ neg_ℤ c.held_whole-q.result
turned_is c h =
    let p = c.args.p in
    let e : ruled (magnitude p) ≡ ruled (neg p) = rw h in
    below p h ∙ ap neg_ℤ (sym (value c ∙ e))

straight_is : (c : After-held_whole-q) → lt c.args.p nought ≡ false → quant_q8 c.args.p ≡ c.held_whole-q.result
straight_is c h =
    let p = c.args.p in
    let e : ruled (magnitude p) ≡ ruled p = rw h in
    not_below p h ∙ sym (value c ∙ e)

wide : {n : ℕ} → n < 128 → n < 2 ^ 31
wide h = omega arith

-- ---- a number from 0 to 127, and its negation, in the machine's bits
module _ {z : ℤ} (q : UpTo 127 z) where
  small : mag z < 128
  small = rw q.is (omega arith)

  small_negated : mag (neg_ℤ z) < 128
  small_negated = rw q.is (go q.number q.most)
    where
      go : (k : ℕ) → k ≤ 127 → mag (neg_ℤ (pos k)) < 128
      go zero h = lit< tt
      go (suc k) h = omega arith

  read : to_z w32 (of_z w32 z) ≡ z
  read = read_is w32 z (wide small)

  negated : pos 0 -ℤ to_z w32 (of_z w32 z) ≡ neg_ℤ z
  negated = rw read (+ℤ_idl (neg_ℤ z))

  negated_fits : SFits w32 (pos 0 -ℤ to_z w32 (of_z w32 z))
  negated_fits = rw negated (record { sfits = wide small_negated })

  read_negated : to_z w32 (of_z w32 (pos 0 -ℤ to_z w32 (of_z w32 z))) ≡ neg_ℤ z
  read_negated = to_z-of_z w32 _ negated_fits ∙ negated

pub overflow_sub-signed : goal.overflow_sub-signed
overflow_sub-signed c = negated_fits (quant c.before)

-- where the ways meet, the number is the quant, and a byte holds it
record Quant (p : Float) (bits : ℕ) : Type 0 where
  is : to_z w32 bits ≡ quant_q8 p
  byte : mag (quant_q8 p) < 128

met : (c : Joined-p) → Quant c.args.p c.if-p.signed-bits
met c =
    let q = quant c.before in
    elim c.if-p.branch [
      | then-p w ↦ let v = turned_is c.before w.if-p.true in record { is = rw (w.signed-is-bits, v) (read_negated q); byte = rw v (small_negated q) }
      | else-p w ↦ let v = straight_is c.before w.if-p.false in record { is = rw (w.signed-is-bits, v) (read q); byte = rw v (small q) }
    ]

pub overflow_cast-result : goal.overflow_cast-result
overflow_cast-result c = rw (met c).is (record { sfits = (met c).byte })

pub returns : goal.returns
returns c = rw (met c).is (read_is w8 _ (met c).byte)
