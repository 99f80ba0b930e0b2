-- What is kept from record to record. Definitions only.
use Rattle.std.specs.Prelude.{ℕ, ◌+◌, ◌^◌, ◌≤◌, ◌<◌}
use Rattle.records.specs.Kinds.{most_weights}
use Rattle.fillin_lines.specs.Lines.{most_line}
use Rattle.stepped_shape.specs.declared.shape.Layer.{Layer}
use Rattle.stepped_shape.specs.Layer.{layer_of}
use Rattle.fillin_window.specs.Windows.{Sound}
use Rattle.fillin_answer.specs.declared.state.State.{State}

-- before the first record: no layer, which stands as one of no readings and no outputs
abbrev pub begun : State
begun = record { layer = layer_of 4 0 0; weight_bytes = 0; offset = 0; answered = 0; refused = 0 }

-- ---- a state that is changed

-- the latest layer is l, whose weights have so many bytes
abbrev pub with_layer : Layer → (bytes : ℕ) → State → State
with_layer l bytes st = record {
  layer = l;
  weight_bytes = bytes;
  offset = st.offset;
  answered = st.answered;
  refused = st.refused;
}

-- a record of so many bytes is answered: the next one begins behind it
abbrev pub behind : (bytes : ℕ) → State → State
behind bytes st = record {
  layer = st.layer;
  weight_bytes = st.weight_bytes;
  offset = st.offset + bytes;
  answered = st.answered;
  refused = st.refused;
}

-- a window more is answered
abbrev pub one_answered : State → State
one_answered st = record {
  layer = st.layer;
  weight_bytes = st.weight_bytes;
  offset = st.offset;
  answered = st.answered + 1;
  refused = st.refused;
}

-- a window more is refused
abbrev pub one_refused : State → State
one_refused st = record {
  layer = st.layer;
  weight_bytes = st.weight_bytes;
  offset = st.offset;
  answered = st.answered;
  refused = st.refused + 1;
}

-- ---- what answering a record relies on, and what it leaves

-- room for a layer's weights and for a line, and counts that do not overflow
pub record Ready (st : State) (bytes weights line : ℕ) : Type 0 where
  pub sound : Sound st.layer st.weight_bytes
  pub weights_fit : most_weights ≤ weights
  pub line_fits : most_line ≤ line
  pub offset_fits : st.offset + bytes < 2 ^ 64
  pub count_fits : st.answered + st.refused + 1 < 2 ^ 64

-- after a record of so many bytes: at most those bytes further, and a window more
pub record Carried (before : State) (bytes : ℕ) (after : State) : Type 0 where
  pub sound : Sound after.layer after.weight_bytes
  pub offset_in : after.offset ≤ before.offset + bytes
  pub count_in : after.answered + after.refused ≤ before.answered + before.refused + 1
