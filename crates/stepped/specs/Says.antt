-- What `open`, `run` and `close` say and what lent memory holds then: functions of the layer, its weights and readings,
-- and the memory that came in. Definitions only.
use Prim.{Unit}
use Rattle.std.specs.Prelude.{ℕ, zero, suc, ◌+◌, min, ◌&&◌, cond, List, ltb, eqb, length, get_or, set, Float, Ok}
use Rattle.refusals.specs.Said.{Said}
use Rattle.refusals.specs.Refusals.{or_else, carried_out}
use Rattle.memory.specs.Lists.{filled}
use Rattle.numbers.specs.Steps.{nought}
use Rattle.layouts.specs.Formats.{format_named}
use Rattle.layouts.specs.declared.format.FormatK.{FormatK}
use Rattle.stepped_shape.specs.declared.shape.Layer.{Layer}
use Rattle.stepped_shape.specs.Layer.{Memory, memory, chunks, pieces, place, open_of}
use Rattle.stepped_shape.specs.declared.progress.Progress.{Progress}
use Rattle.stepped_shape.specs.Progress.{ran}
use Rattle.stepped_shape.specs.Refusals.{by_format, open_refusal, work_refusal, close_refusal}
use Rattle.stepped_pieces.specs.Pieces.{worked, row_met}

-- ---- open clears marks to 0 and slots to +0.0

-- what a cleared slot holds
abbrev pub no_sum : ℕ → Float
no_sum i = nought

-- what a cleared mark is
abbrev pub no_mark : ℕ → ℕ
no_mark i = 0

-- `open`: the slots and the marks of every piece are cleared; surplus ones are kept
unfoldable pub open_says : Layer → Memory → Said (Unit {0}) × Memory
open_says l m =
    by_format (format_named l.format) m (λ f.
    carried_out (open_refusal l (length m.slots) (length m.marks))
    (memory (filled no_sum m.slots (pieces l)) (filled no_mark m.marks (pieces l))) m)

-- ---- run does the next open pieces in row order, chunks rising, at most as many as its budget

-- what the memory holds then, and how many pieces were done
pub record Work : Type 0 where
  pub holds : Memory
  pub done : ℕ

-- the work of so many pieces, with this memory then
abbrev pub work : Memory → ℕ → Work
work holds done = record { holds = holds; done = done }

-- one piece: worked where it is open and the budget is not spent
unfoldable pub visit : FormatK → Layer → List ℕ → List Float → (budget row c : ℕ) → Work → Work
visit f l w x budget row c k =
    cond (ltb k.done budget && eqb (get_or k.holds.marks (place l row c) 0) 0)
    (work (worked f l w x row c k.holds) (k.done + 1)) k

-- the first n chunks of a row
unfoldable pub visit_row : FormatK → Layer → List ℕ → List Float → (budget row n : ℕ) → Work → Work
visit_row f l w x budget row zero k = k
visit_row f l w x budget row (suc n) k = visit f l w x budget row n (visit_row f l w x budget row n k)

-- the first n rows
unfoldable pub visit_rows : FormatK → Layer → List ℕ → List Float → (budget n : ℕ) → Work → Work
visit_rows f l w x budget zero k = k
visit_rows f l w x budget (suc n) k = visit_row f l w x budget n (chunks l) (visit_rows f l w x budget n k)

-- all rows, with no piece done before
unfoldable pub run_work : FormatK → Layer → List ℕ → List Float → ℕ → Memory → Work
run_work f l w x budget m = visit_rows f l w x budget l.out_feat (work m 0)

-- `run`: done is the smaller of budget and pieces open before, and left is how many pieces are open after
unfoldable pub run_says : Layer → List ℕ → List Float → ℕ → Memory → Said Progress × Memory
run_says l w x budget m =
    by_format (format_named l.format) m (λ f.
    let after = (run_work f l w x budget m).holds in
    carried_out
    (or_else (work_refusal f l (length w) (length x) (length m.slots) (length m.marks))
    (Ok (ran (min budget (open_of l m.marks)) (open_of l after.marks))))
    after m)

-- ---- close writes that row's output, its slots met in the tree; the slots stay as they are, and closing again is
-- allowed

-- `close`: the row's output; the other outputs are kept
unfoldable pub close_says : Layer → ℕ → Memory → List Float → Said (Unit {0}) × List Float
close_says l row m y =
    by_format (format_named l.format) y (λ f.
    carried_out (close_refusal l (length m.slots) m.marks (length y) row) (set y row (row_met l m.slots row)) y)
