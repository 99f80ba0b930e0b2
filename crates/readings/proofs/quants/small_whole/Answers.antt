-- `readings::small_whole` meets its contract: the law of SmallWhole.antt, and the cast of a whole number. Assumes nothing.
use mathlib.Core.Path.{◌≡◌, sym, ap, ◌∙◌}
use mathlib.Core.Bool.{Bool, true, false, cond}
use mathlib.Core.Logic.{◌⊎◌}
use Prim.Native.Nat.{ℕ, ◌+◌, ◌<◌, ◌≤◌, ◌^◌}
use native.Mathlib.Omega.{arith}
use lib.Dec.{T, le→leb}
use lib.IntN.{ℤ, pos, ◌+ℤ◌, ◌-ℤ◌, +ℤ-neg_ℤ_cancel}
use lib.Ieee.{Float, binary32, in_float, in_signed, of_int, of_bits, to_signed, lt}
use lib.Ieee.Back.{positive_back}
use lib.Ieee.Casts.{to_signed_in}
use mir.Syntax.{w32}
use mir.Val.{to_z, of_z}
use Rattle.numbers.specs.Steps.{nought}
use Rattle.numbers.proofs.Signed.{read_is}
use Rattle.readings.proofs.SmallWhole.{Whole, small, near, whole_of}
use Rattle.readings.proofs.quants.small_whole.Goals.{Joined-c-near, then-c-near, else-c-near}
use Rattle.readings.proofs.quants.small_whole.Goals as goal

sized : {c : Float} → ((c ≡ nought) ⊎ (lt nought c ≡ true)) × (lt c (of_bits binary32 0x4380_0000) ≡ true) → Whole c
sized {c} r = whole_of (small c r.0 r.1)

-- a whole number up to 256 as a float and back
back : (n : ℕ) → n ≤ 256 → T (in_signed binary32 31 (of_int binary32 (pos n))) × (to_signed 31 (of_int binary32 (pos n)) ≡ pos n)
unfolding in_float
back n h = positive_back binary32 31 n (le→leb n (2 ^ 24) (omega arith)) (omega arith)

up_to : (w : ℕ) → w < 256 → (t : Bool) → w + cond t 1 0 ≤ 256
up_to w h true = omega arith
up_to w h false = omega arith

module _ {c : Float} (s : Whole c) where
  cast_in : T (in_signed binary32 31 (near c))
  cast_in = rw s.next_to (back _ (up_to s.w s.under (lt c (near c)))).0

  -- what the subtraction takes, ..
  cast_is : to_z w32 (of_z w32 (to_signed 31 (near c))) ≡ pos s.w +ℤ pos (cond (lt c (near c)) 1 0)
  cast_is = read_is w32 _ (to_signed_in 31 (near c)) ∙ ap (to_signed 31) s.next_to ∙ (back _ (up_to s.w s.under (lt c (near c)))).1

  -- .. and what it leaves
  left_over : {z : ℤ} → z ≡ pos (cond (lt c (near c)) 1 0) → to_z w32 (of_z w32 (to_signed 31 (near c))) -ℤ z ≡ pos s.w
  left_over e = rw (cast_is, e) (+ℤ-neg_ℤ_cancel (pos s.w) (pos (cond (lt c (near c)) 1 0)))

pub float_to_int-result : goal.float_to_int-result
unfolding of_bits
float_to_int-result c = cast_in (sized c.requires)

-- where the ways meet
one_or_none : (c : Joined-c-near) → to_z w32 c.if-c-near.result-bits ≡ pos (cond (lt c.args.c (near c.args.c)) 1 0)
unfolding of_bits
one_or_none c = elim c.if-c-near.branch [ then-c-near w ↦ rw (w.result-is-bits, w.if-c-near.true) | else-c-near w ↦ rw (w.result-is-bits, w.if-c-near.false) ]

rest : (c : Joined-c-near) → to_z w32 (of_z w32 (to_signed 31 (near c.args.c))) -ℤ to_z w32 c.if-c-near.result-bits ≡ pos (sized c.requires).w
rest c = left_over (sized c.requires) (one_or_none c)

pub overflow_sub-result : goal.overflow_sub-result
unfolding of_bits
overflow_sub-result c = rw (rest c) (record { sfits = omega (arith, (sized c.requires).under) })

pub returns : goal.returns
unfolding of_bits
returns c = rw (rest c) (read_is w32 _ (omega (arith, (sized c.requires).under)) ∙ sym (sized c.requires).is)
