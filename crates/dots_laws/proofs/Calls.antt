-- The laws of `canonical_dot_pub` itself: of any two answers that meet its contract, the second where readings and weights are exchanged, or where every reading is negated. Assumes nothing.
use Prim.Native.Nat.{ℕ, ◌≤◌}
use mathlib.Core.Path.{◌≡◌, sym, ◌∙◌}
use mathlib.Core.List.{List}
use lib.ListN.{length}
use lib.Ieee.{Float}
use denote.Bor.{Bor}
use Rattle.refusals.specs.Said.{Said}
use Rattle.sums.proofs.canonical_dot_pub.Reads as dot
use Rattle.dots_laws.specs.Laws.{negated, DotTurned}
use Rattle.dots_laws.proofs.Exchange.{exchanged}
use Rattle.dots_laws.proofs.Negation.{negation}

-- ---- κs and μs are the lifetimes of two calls, at x and w and at y and z; r and s what they return, and t and u their parameters at exit

pub dot_exchanged : (κs μs : _) (x w y z : Bor (List Float)) (n : ℕ) (r s : Said Float) (t u : _) → y.now ≡ w.now → z.now ≡ x.now → n ≤ length x.now → n ≤ length w.now
    → dot.Post κs (x, (w, (n, tt))) r t → dot.Post μs (y, (z, (n, tt))) s u → s ≡ r
dot_exchanged κs μs x w y z n r s t u e f h k p q = (rw (e, f) at q) ∙ sym (exchanged.dots x.now w.now n h k) ∙ sym p

pub dot_negated : (κs μs : _) (x w y z : Bor (List Float)) (n : ℕ) (r s : Said Float) (t u : _) → y.now ≡ negated x.now → z.now ≡ w.now
    → dot.Post κs (x, (w, (n, tt))) r t → dot.Post μs (y, (z, (n, tt))) s u → DotTurned s r
dot_negated κs μs x w y z n r s t u e f p q = rw (p, rw (e, f) at q) (negation.dots x.now w.now n)
