-- `answering::answer_records`: what is kept is as answering relies on, each turn so far has added at most a buffer's bytes to the offset and its lines' windows to the counts, and the bytes that are not answered yet lie within the buffer.
use Rattle.std.proofs.Common.{◌≡◌, ◌+◌, ◌*◌, ◌^◌, ◌≤◌, length}
use Rattle.fillin_window.specs.Windows.{Sound}
use Rattle.fillin_loop.specs.Input.{InBuffer}
use Rattle.fillin_loop.proofs.answering.answer_records.Given as goal

abbrev pub invariant-loop : goal.invariant-loop
invariant-loop g l = record {
  buf_long : length l.buf ≡ length l.fn.buf;
  sound : Sound l.st.layer l.st.weight_bytes;
  offset_in : l.st.offset ≤ l.counter * 2 ^ 17;
  count_in : l.st.answered + l.st.refused ≤ l.counter * 64;
  unread_in : InBuffer l.buf l.unread;
}
