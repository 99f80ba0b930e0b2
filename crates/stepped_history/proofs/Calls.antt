-- The calls of a history are those of the code: what meets the contract of `open`, `piece`, `run` or `close` at a state's memory leaves the state that the history says. Assumes nothing.
use Prim.{Unit}
use Prim.Native.Nat.{ℕ, ◌+◌}
use mathlib.Core.Path.{◌≡◌, sym, ap}
use mathlib.Core.List.{List, []}
use lib.Ieee.{Float}
use Rattle.refusals.specs.Said.{Said}
use Rattle.stepped_shape.specs.declared.shape.Layer.{Layer}
use Rattle.stepped_shape.specs.Layer.{Memory, memory}
use Rattle.stepped_pieces.proofs.piece.Reads as piecing
use Rattle.stepped_shape.specs.declared.progress.Progress.{Progress}
use Rattle.stepped_history.specs.History.{piece, run, close, HistoryState, accepted_by, accepted_by_run, closed_by, call, opened}
use Rattle.stepped.proofs.open.Reads as opening
use Rattle.stepped.proofs.run.Reads as running
use Rattle.stepped.proofs.close.Reads as closing

-- what the layer's memory and the outputs hold, how many pieces were accepted, and which rows were closed
abbrev state : Memory → List Float → ℕ → List ℕ → HistoryState
state holds outputs accepted closed = record { holds = holds; outputs = outputs; accepted = accepted; closed = closed }

-- ---- κs are the lifetimes, r is what the call returns, and t its parameters at exit

-- `open`: what it leaves is where a history begins
pub open_is_opened : (κs : _) (l : Layer) (slots marks : _) (r : Said (Unit {0})) (t : _) (outputs : List Float) → opening.Post κs (l, (slots, (marks, tt))) r t
    → opened l (memory slots.now marks.now) outputs ≡ state (memory t.1.0.now t.1.1.0.now) outputs 0 []
unfolding opened
open_is_opened κs l slots marks r t outputs h = ap (λ (p : Said (Unit {0}) × Memory). state p.1 outputs 0 []) (sym h)

-- `piece`: a piece that says it is done is one more that was accepted
pub piece_is_call : (κs : _) (l : Layer) (w x : _) (row c : ℕ) (slots marks : _) (r : Said (Unit {0})) (t : _) (outputs : List Float) (accepted : ℕ) (closed : List ℕ)
    → piecing.Post κs (l, (w, (x, (row, (c, (slots, (marks, tt))))))) r t
    → call l w.now x.now (state (memory slots.now marks.now) outputs accepted closed) (piece row c)
    ≡ state (memory t.1.1.1.1.1.0.now t.1.1.1.1.1.1.0.now) outputs (accepted + accepted_by r) closed
unfolding call
piece_is_call κs l w x row c slots marks r t outputs accepted closed h =
    ap (λ (p : Said (Unit {0}) × Memory). state p.1 outputs (accepted + accepted_by p.0) closed) (sym h)

-- `run`: the pieces that it says it did are accepted
pub run_is_call : (κs : _) (l : Layer) (w x : _) (budget : ℕ) (slots marks : _) (r : Said Progress) (t : _) (outputs : List Float) (accepted : ℕ) (closed : List ℕ)
    → running.Post κs (l, (w, (x, (budget, (slots, (marks, tt)))))) r t
    → call l w.now x.now (state (memory slots.now marks.now) outputs accepted closed) (run budget)
    ≡ state (memory t.1.1.1.1.0.now t.1.1.1.1.1.0.now) outputs (accepted + accepted_by_run r) closed
unfolding call
run_is_call κs l w x budget slots marks r t outputs accepted closed h =
    ap (λ (p : Said Progress × Memory). state p.1 outputs (accepted + accepted_by_run p.0) closed) (sym h)

-- `close`: a close that says it is done closed its row; slots and marks are only read
pub close_is_call : (κs : _) (l : Layer) (w : List ℕ) (x : List Float) (row : ℕ) (slots marks y : _) (r : Said (Unit {0})) (t : _) (accepted : ℕ) (closed : List ℕ)
    → closing.Post κs (l, (row, (slots, (marks, (y, tt))))) r t
    → call l w x (state (memory slots.now marks.now) y.now accepted closed) (close row)
    ≡ state (memory slots.now marks.now) t.1.1.1.1.0.now accepted (closed_by r row closed)
unfolding call
close_is_call κs l w x row slots marks y r t accepted closed h =
    ap (λ (p : Said (Unit {0}) × List Float). state (memory slots.now marks.now) p.1 accepted (closed_by p.0 row closed)) (sym h)
