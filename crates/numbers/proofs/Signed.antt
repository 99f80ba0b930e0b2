-- Signed numbers in the machine's bits. Assumes nothing.
use Rattle.std.proofs.Common.{◌≡◌, ℕ, suc, ◌-◌, ◌^◌, ◌<◌, Bool, true, false, cond, ltb, ℤ, pos, negsuc, sym, refl, ap, ◌∙◌, arith, w8, to_z, of_z}
use lib.Signed.{mag}
use mir.Syntax.{Width}
use mir.Val.{hbits, sel}
use mir.ValLaws.{to_z-of_z}
use Rattle.numbers.specs.Fields.{signed, byte_of}

-- a number that a signed width holds is read back from its bits
pub read_is : (w : Width) (z : ℤ) → mag z < 2 ^ hbits w → to_z w (of_z w z) ≡ z
read_is w z p = to_z-of_z w z (record { sfits = p })

-- a signed byte as a store reads it
abbrev pub byte_read : ℤ → ℤ
byte_read z = to_z w8 (of_z w8 z)

pub byte_read_lem : {z x y : ℤ} → mag z < 128 → z ≡ x → y ≡ x → byte_read z ≡ y
byte_read_lem h e f = read_is w8 _ h ∙ e ∙ sym f

-- a byte's signed number is what the machine reads from its bits
pub signed_is : (b : ℕ) → to_z w8 b ≡ signed b
signed_is b = by (ltb b 128)
  where
    by : (t : Bool) → sel t (pos b) (negsuc (256 - suc b)) ≡ cond t (pos b) (negsuc (255 - b))
    by true = refl
    by false = ap negsuc (omega arith)

-- a signed number's byte is the bits in which the machine has it
pub byte_is : (z : ℤ) → mag z < 128 → of_z w8 z ≡ byte_of z
byte_is (pos n) h = refl
byte_is (negsuc n) h = omega arith
