-- What is answered of the bytes that have come: the lines of their records. Definitions only.
use Rattle.std.specs.Prelude.{ℕ, zero, suc, ◌+◌, ◌-◌, ◌*◌, ◌^◌, ◌≤◌, ◌<◌, ◌≡◌, Bool, true, false, cond, List, [], ◌++◌, length, take, drop}
use Rattle.frames.specs.Frame.{most_record}
use Rattle.frames.specs.Pieces.{next_in}
use Rattle.records.specs.Kinds.{most_weights}
use Rattle.fillin_text.specs.Text.{laid}
use Rattle.fillin_lines.specs.declared.lines.Line.{Line}
use Rattle.fillin_lines.specs.declared.lines.Line.TheVariants as line
use Rattle.fillin_lines.specs.Lines.{most_line}
use Rattle.fillin_window.specs.Windows.{Sound}
use Rattle.fillin_answer.specs.declared.state.State.{State}
use Rattle.fillin_answer.specs.Answers.{text, answer_to}
use Rattle.fillin_transcript.specs.Transcript.{by_next}
use Rattle.fillin_loop.specs.declared.ending.Ending.TheVariants.{Ended, Stopped}
use Rattle.fillin_loop.specs.declared.come.Course.{Course}
use Rattle.fillin_loop.specs.declared.come.Course.TheVariants.{On, More, Over}
use Rattle.fillin_loop.specs.declared.come.Answered.{Answered}

-- the lines that are written at once, at most
abbrev pub most_lines : ℕ
most_lines = 64

-- how it goes on after a line: `end` and `stop` are the last ones
abbrev pub course_after : Line → Course
course_after (line.Layer format in_feat out_feat) = On
course_after (line.Window number) = On
course_after (line.WarmUp number) = On
course_after (line.Stop why offset) = Over Stopped
course_after (line.End answered refused) = Over Ended

-- nothing more is answered
abbrev pub is_over : Course → Bool
is_over On = false
is_over More = false
is_over (Over ending) = true

-- what is answered so far: what is kept, the memory with the latest layer's weights in front, how many of the bytes
-- that came are answered, the lines, and how it goes on
pub record SoFar : Type 0 where
  pub state : State
  pub weights : List ℕ
  pub bytes : ℕ
  pub lines : List ℕ
  pub course : Course

-- the same, as it lies in memory
abbrev pub so_far : Answered → (weights lines : List ℕ) → SoFar
so_far r weights lines =
    record { state = r.state; weights = weights; bytes = r.bytes; lines = take r.text lines; course = r.course }

-- nothing is answered yet
abbrev pub nothing_yet : State → (weights : List ℕ) → SoFar
nothing_yet st weights = record { state = st; weights = weights; bytes = 0; lines = []; course = On }

-- one more record: its line stands behind the others
abbrev pub with_one_more : SoFar → List ℕ → SoFar
with_one_more s bytes =
    let a = answer_to s.state (take s.state.weight_bytes s.weights) bytes in
    record {
      state = a.state;
      weights = laid s.weights 0 a.weights;
      bytes = s.bytes + length bytes;
      lines = s.lines ++ text a;
      course = course_after a.says;
    }

-- a record of which more has to come
abbrev pub waiting : SoFar → SoFar
waiting s = record { state = s.state; weights = s.weights; bytes = s.bytes; lines = s.lines; course = More }

-- at most `most` records more of those that have come
unfoldable pub answering : (come : List ℕ) (ended : Bool) (most : ℕ) → SoFar → SoFar
answering come ended zero s = s
answering come ended (suc most) s =
    let rest = drop s.bytes come in
    by_next (next_in rest ended)
    (λ n. let t = with_one_more s (take n rest) in cond (is_over t.course) t (answering come ended most t))
    (waiting s)

-- ---- what answering relies on, and where it gets

-- a layer that is held as a layer record left it, and room for weights, lines and counts
pub record Prepared (st : State) (come weights lines : ℕ) : Type 0 where
  pub sound : Sound st.layer st.weight_bytes
  pub weights_fit : most_weights ≤ weights
  pub lines_fit : most_lines * most_line ≤ lines
  pub offset_fits : st.offset + come < 2 ^ 64
  pub count_fits : st.answered + st.refused + most_lines < 2 ^ 64

-- of so many bytes that came: none is answered twice, and what more has to come for is less than a record
pub record Reached (before : State) (come lines : ℕ) (r : Answered) : Type 0 where
  pub sound : Sound r.state.layer r.state.weight_bytes
  pub bytes_in : r.bytes ≤ come
  pub text_in : r.text ≤ lines
  pub offset_in : r.state.offset ≤ before.offset + r.bytes
  pub count_in : r.state.answered + r.state.refused ≤ before.answered + before.refused + most_lines
  pub short : r.course ≡ More → come - r.bytes < most_record
