-- `dot::first_dot` meets its contract. Assumes nothing.
use mathlib.Core.Path.{sym, ap, ◌∙◌}
use Prim.Native.Nat.{ℕ}
use borrow.Author.Tests.{le-ltb}
use lib.ListN.{take}
use Rattle.refusals.proofs.Laws.{given_no}
use Rattle.std.proofs.Common.{Ok}
use Rattle.layouts.specs.Formats.{bytes_k}
use Rattle.dots_integer.specs.Dots.{block_dot, block_dot_says}
use Rattle.dots_integer.proofs.Dots.{served_below}
use Rattle.dots_integer.proofs.dot.first_dot.Goals as goal

pub returns : goal.returns
unfolding block_dot_says
returns c =
    let s = c.count_serves in
    let a = c.args in
    ap Ok (c.block_dot.ensures
    ∙ ap (λ (m : ℕ). block_dot a.format (take m a.w.now) a.d a.qs.now a.sums.now 256) c.block_bytes-size.ensures
    ∙ served_below a.format (take (bytes_k a.format) a.w.now) a.d a.qs.now a.sums.now a.count a.n (sym s.ensures ∙ c.if-not-count_serves.false))
    ∙ sym (given_no _ _ _ (le-ltb _ _ (rw c.block_bytes-size.ensures at c.if-w-size.false)) ∙ given_no _ _ _ (rw s.ensures at c.if-not-count_serves.false-raw) ∙ given_no _ _ _ (rw c.sums_serve.ensures.0 at c.if-not-sums_serve.false-raw))
