-- `rows::block_is` meets its contract: the inverse, then quant after quant. Assumes nothing.
use mathlib.Core.Path.{◌≡◌, sym, ap, ◌∙◌}
use Prim.Native.Nat.{ℕ, ◌^◌, ◌<◌}
use mir.Syntax.{w8}
use mir.Val.{of_z, to_z, hbits}
use lib.IntN.{ℤ}
use lib.Signed.{mag}
use lib.Ieee.{binary32, to_bits}
use borrow.Author.Tests.{eq-eqb, ne_eqb}
use Rattle.memory.specs.Lists.{table, every}
use Rattle.numbers.specs.Fields.{byte_of}
use Rattle.numbers.proofs.Signed.{read_is}
use Rattle.dots_activation.specs.Whole.{elem}
use Rattle.bench_rows.specs.Card.{same_numbers}
use Rattle.bench_rows.proofs.rows.block_is.Goals as goal

-- the byte of a quant that was read
byte_is : (z : ℤ) (b : ℕ) → mag z < 2 ^ hbits w8 → b ≡ byte_of (to_z w8 (of_z w8 z)) → b ≡ byte_of z
byte_is z b h e = e ∙ ap byte_of (read_is w8 z h)

pub returns-then-bits_of-inverse : goal.returns-then-bits_of-inverse
unfolding same_numbers every table
returns-then-bits_of-inverse c =
    let i = c.bits_of.ensures ∙ ap (to_bits binary32) c.inverse_of.ensures in
    rw (ne_eqb _ _ (λ z. c.if-bits_of-inverse.true (i ∙ z)))

pub returns-then-unsigned_byte-a : goal.returns-then-unsigned_byte-a
unfolding same_numbers every table
returns-then-unsigned_byte-a c =
    let i = c.bits_of.ensures ∙ ap (to_bits binary32) c.inverse_of.ensures in
    let p = byte_is (elem c.args.block.qs 0) _ c.unsigned_byte-arg-1.given c.unsigned_byte.ensures in
    rw (eq-eqb _ _ (sym i ∙ c.if-bits_of-inverse.false), ne_eqb _ _ (λ z. c.if-unsigned_byte-a.true (p ∙ z)))

pub returns-then-unsigned_byte-b : goal.returns-then-unsigned_byte-b
unfolding same_numbers every table
returns-then-unsigned_byte-b c =
    let i = c.bits_of.ensures ∙ ap (to_bits binary32) c.inverse_of.ensures in
    let p = byte_is (elem c.args.block.qs 0) _ c.unsigned_byte-arg-1.given c.unsigned_byte.ensures in
    let q = byte_is (elem c.args.block.qs 1) _ c.unsigned_byte-arg-2-1.given c.unsigned_byte-2.ensures in
    rw (eq-eqb _ _ (sym i ∙ c.if-bits_of-inverse.false), eq-eqb _ _ (sym p ∙ c.if-unsigned_byte-a.false), ne_eqb _ _ (λ z. c.if-unsigned_byte-b.true (q ∙ z)))

pub returns : goal.returns
unfolding same_numbers every table
returns c =
    let i = c.bits_of.ensures ∙ ap (to_bits binary32) c.inverse_of.ensures in
    let p = byte_is (elem c.args.block.qs 0) _ c.unsigned_byte-arg-1.given c.unsigned_byte.ensures in
    let q = byte_is (elem c.args.block.qs 1) _ c.unsigned_byte-arg-2-1.given c.unsigned_byte-2.ensures in
    let t = byte_is (elem c.args.block.qs 2) _ c.unsigned_byte-arg-3-1.given c.unsigned_byte-3.ensures in
    rw (eq-eqb _ _ (sym i ∙ c.if-bits_of-inverse.false), eq-eqb _ _ (sym p ∙ c.if-unsigned_byte-a.false), eq-eqb _ _ (sym q ∙ c.if-unsigned_byte-b.false), t)
