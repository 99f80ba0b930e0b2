-- `answers::answer` meets its contract: what is decided, and then its line. Assumes nothing.
use mathlib.Core.Path.{◌≡◌, sym, ap, subst, ◌∙◌}
use mathlib.Core.List.{List}
use Prim.Native.Nat.{ℕ, ◌≤◌}
use native.Mathlib.Omega.{arith}
use lib.ListN.{length, length-append}
use lib.Seq.{length-take-le}
use lib.Ieee.{Float}
use Rattle.fillin_text.specs.Text.{laid}
use Rattle.fillin_text.proofs.Laid.{laid_front}
use Rattle.fillin_lines.specs.declared.lines.Line.{Line}
use Rattle.fillin_lines.specs.Lines.{text_of}
use Rattle.fillin_answer.specs.Kept.{Carried}
use Rattle.fillin_answer.proofs.Kept.{carried}
use Rattle.fillin_answer.proofs.answers.answer.Goals as goal

pub slice_bounds-write_line-end : goal.slice_bounds-write_line-end
slice_bounds-write_line-end c = sym (length-take-le _ _ (omega arith))

pub write_line-length-requires : goal.write_line-length-requires
write_line-length-requires c =
    let few = c.decide-decided.ensures.decides.few in
    (c.requires.line_fits, let room : c.decide-decided.result.outputs ≤ length c.decide-decided.new.y = omega arith in rw (length-take-le _ _ room) few)

-- a text that is laid at the front fits there
fits : (before t after : List ℕ) (n : ℕ) → after ≡ laid before 0 t → n ≡ length t → n ≤ length after
fits before t after n e h = rw (e ∙ laid_front before t, length-append) (omega arith)

same_text : (l k : Line) (xs ys : List Float) → l ≡ k → xs ≡ ys → text_of l xs ≡ text_of k ys
same_text l k xs ys e f = rw (e, f)

pub returns : goal.returns
returns c =
    let w = c.write_line-length.ensures in
    let d = c.decide-decided.ensures in
    let said = d.decides in
    let text = same_text _ _ _ _ said.same_line said.same_outputs in
    let kept = carried c.args.st _ c.args.«record».now c.requires.sound in
    record {
      replied = record {
        same_state = said.same_state;
        same_length = w.value.0 ∙ ap length text;
        same_says = said.same_line;
        same_line = w.buf_after ∙ ap (laid _ 0) text;
      };
      weights_after = d.weights_after;
      carried = (subst (Carried c.args.st (length c.args.«record».now)) (sym said.same_state) kept, fits _ _ _ _ w.buf_after w.value.0);
    }
