-- `answering::answer_records`: each turn keeps what answering relies on.
use Rattle.std.proofs.Common.{◌≡◌, ℕ, ◌+◌, ◌-◌, ◌≤◌, List, length, drop, refl, ◌∙◌, arith}
use Rattle.std.proofs.Math.ListN.{length-drop}
use Rattle.std.proofs.Math.Seq.{length-take-le}
use Rattle.fillin_answer.proofs.Begun.{begins}
use Rattle.fillin_loop.specs.declared.input.Unread.{Unread}
use Rattle.fillin_loop.specs.Input.{unread_in, InBuffer}
use Rattle.fillin_loop.proofs.answering.answer_records.Goals as goal

-- the bytes that have come
come_length : (buf : List ℕ) (u : Unread) → InBuffer buf u → length (unread_in buf u) ≡ u.to - u.from
come_length buf u h = length-take-le (u.to - u.from) (drop u.from buf) (rw length-drop (omega (arith, h)))

-- those that are answered are some of them
left_in : (buf : List ℕ) (u : Unread) (n : ℕ) → InBuffer buf u → n ≤ length (unread_in buf u) → u.from + n ≤ u.to
left_in buf u n h k = omega (arith, come_length buf u h, h)

pub loop-init : goal.loop-init
loop-init g c =
    let s = begins c.start-st.result c.start-st.ensures in
    record {
      buf_long = refl;
      sound = s.0;
      offset_in = omega (arith, s.1);
      count_in = omega (arith, s.1);
      unread_in = record { in_order = omega arith; inside = omega arith };
    }

pub answer_come-done-requires : goal.answer_come-done-requires
answer_come-done-requires g c =
    let v = c.loop.invariant in
    let come = come_length c.loop.buf c.loop.unread v.unread_in in
    record {
      sound = v.sound;
      weights_fit = omega arith;
      lines_fit = omega arith;
      offset_fits = omega (arith, come, v.unread_in, v.buf_long, v.offset_in, c.requires);
      count_fits = omega (arith, v.count_in);
    }

pub shape_of-buf-in-Err : goal.shape_of-buf-in-Err
shape_of-buf-in-Err g c = c.loop.invariant.buf_long

pub overflow_add-unread : goal.overflow_add-unread
overflow_add-unread g c =
    let v = c.loop.invariant in
    let behind = left_in c.loop.buf c.loop.unread c.answer_come-done.result.bytes v.unread_in c.answer_come-done.ensures.reached.bytes_in in
    omega (arith, behind, v.unread_in, v.buf_long, c.requires)

pub loop-preserved-in-On : goal.loop-preserved-in-On
loop-preserved-in-On g c =
    let v = c.loop.invariant in
    let r = c.answer_come-done.ensures.reached in
    let come = come_length c.loop.buf c.loop.unread v.unread_in in
    let behind = left_in c.loop.buf c.loop.unread c.answer_come-done.result.bytes v.unread_in r.bytes_in in
    record {
      buf_long = v.buf_long;
      sound = r.sound;
      offset_in = omega (arith, r.offset_in, r.bytes_in, come, v.unread_in, v.buf_long, v.offset_in, c.requires);
      count_in = omega (arith, r.count_in, v.count_in);
      unread_in = record { in_order = behind; inside = v.unread_in.inside };
    }

pub shape_of-buf-in-Over : goal.shape_of-buf-in-Over
shape_of-buf-in-Over g c = c.loop.invariant.buf_long

pub read_on-requires : goal.read_on-requires
read_on-requires g c =
    let v = c.loop.invariant in
    let r = c.answer_come-done.ensures.reached in
    let come = come_length c.loop.buf c.loop.unread v.unread_in in
    let behind = left_in c.loop.buf c.loop.unread c.answer_come-done.result.bytes v.unread_in r.bytes_in in
    (record { in_order = behind; inside = v.unread_in.inside }, omega (arith, r.short c.in-More.is, come, v.buf_long, c.requires), omega (arith, c.requires))

pub loop-preserved : goal.loop-preserved
loop-preserved g c =
    let v = c.loop.invariant in
    let r = c.answer_come-done.ensures.reached in
    let come = come_length c.loop.buf c.loop.unread v.unread_in in
    record {
      buf_long = c.read_on.auto.buf ∙ v.buf_long;
      sound = r.sound;
      offset_in = omega (arith, r.offset_in, r.bytes_in, come, v.unread_in, v.buf_long, v.offset_in, c.requires);
      count_in = omega (arith, r.count_in, v.count_in);
      unread_in = c.in-Ok.ensures.read.within;
    }

pub shape_of-buf : goal.shape_of-buf
shape_of-buf g c = c.loop.invariant.buf_long
