-- What `fillin` answers to one record. Definitions only.
use Rattle.std.specs.Prelude.{ℕ, ◌+◌, ◌≡◌, List, [], length, Float, Ok, Err}
use Rattle.refusals.specs.Said.{Said}
use Rattle.stepped_shape.specs.Layer.{layer_of}
use Rattle.frames.specs.Frame.{frame_of, payload_of}
use Rattle.records.specs.declared.reader.Item.{Item}
use Rattle.records.specs.declared.reader.Item.TheVariants as item
use Rattle.records.specs.Kinds.{weights_in, readings_in, found}
use Rattle.fillin_window.specs.Windows.{readings_of, outputs_of}
use Rattle.fillin_text.specs.Text.{laid}
use Rattle.fillin_lines.specs.declared.lines.Line.{Line}
use Rattle.fillin_lines.specs.declared.lines.Line.TheVariants as line
use Rattle.fillin_lines.specs.Lines.{text_of}
use Rattle.fillin_answer.specs.declared.state.State.{State}
use Rattle.fillin_answer.specs.declared.state.Reply.{Reply}
use Rattle.fillin_answer.specs.Kept.{with_layer, behind, one_answered, one_refused}

-- the line and, of a window, its outputs; what is kept then, and the latest layer's weights
pub record Answer : Type 0 where
  pub says : Line
  pub outputs : List Float
  pub state : State
  pub weights : List ℕ

-- the text of its line
abbrev pub text : Answer → List ℕ
text a = text_of a.says a.outputs

-- the window's number, from 1 over the whole input
abbrev pub window_number : State → ℕ
window_number st = st.answered + st.refused + 1

-- what was found, in a record of so many bytes with payload p, is answered with
abbrev pub decided : Said Item → (p : List ℕ) → (bytes : ℕ) → State → List ℕ → Answer
decided (Ok item.End) p bytes st w =
    record { says = line.End st.answered st.refused; outputs = []; state = st; weights = w }
decided (Ok (item.Layer format in_feat out_feat)) p bytes st w = record {
  says = line.Layer format in_feat out_feat;
  outputs = [];
  state = with_layer (layer_of format in_feat out_feat) (length (weights_in p)) (behind bytes st);
  weights = weights_in p;
}
decided (Ok item.Window) p bytes st w = record {
  says = line.Window (window_number st);
  outputs = outputs_of st.layer w (readings_of (readings_in p) st.layer);
  state = one_answered (behind bytes st);
  weights = w;
}
decided (Ok item.WarmUp) p bytes st w =
    record { says = line.WarmUp (window_number st); outputs = []; state = one_refused (behind bytes st); weights = w }
decided (Err why) p bytes st w =
    record { says = line.Stop why st.offset; outputs = []; state = st; weights = w }

-- what a record is answered with, of its own bytes
unfoldable pub answer_to : State → List ℕ → List ℕ → Answer
answer_to st w bytes =
    let f = frame_of bytes in
    decided (found f st.layer.in_feat) (payload_of f) (length bytes) st w

-- the reply and the line's buffer are as the answer says
pub record Replied (a : Answer) (r : Reply) (before after : List ℕ) : Type 0 where
  pub same_state : r.state ≡ a.state
  pub same_says : r.line ≡ a.says
  pub same_length : r.length ≡ length (text a)
  pub same_line : after ≡ laid before 0 (text a)
