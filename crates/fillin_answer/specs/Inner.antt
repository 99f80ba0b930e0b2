-- What the steps of an answer say to each other. Definitions only.
use Rattle.std.specs.Prelude.{ℕ, ◌≤◌, ◌≡◌, List, take, Float}
use Rattle.fillin_lines.specs.declared.lines.Line.{Line}
use Rattle.fillin_answer.specs.declared.answers.Decided.{Decided}
use Rattle.fillin_answer.specs.declared.state.State.{State}
use Rattle.fillin_answer.specs.Answers.{Answer}

-- a line with so many outputs, and what is kept then
abbrev pub saying : Line → (outputs : ℕ) → State → Decided
saying says n st = record { line = says; outputs = n; state = st }

-- what was decided, with the outputs in y, is as the answer says
pub record Decides (a : Answer) (d : Decided) (y : List Float) : Type 0 where
  pub same_line : d.line ≡ a.says
  pub same_outputs : take d.outputs y ≡ a.outputs
  pub few : d.outputs ≤ 16
  pub same_state : d.state ≡ a.state
