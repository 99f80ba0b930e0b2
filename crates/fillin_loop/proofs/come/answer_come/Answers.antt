-- `come::answer_come`: what a turn answers is a record more of those that have come.
use Rattle.std.proofs.Common.{Option, Some, None, ◌≡◌, ℕ, ◌+◌, ◌-◌, ◌≤◌, Bool, List, length, take, drop, sym, ap, ◌∙◌, arith}
use Rattle.std.proofs.Math.ListN.{length-drop}
use Rattle.frames.specs.Pieces.{next_in}
use Rattle.frames.proofs.Pieces.{next_within}
use Rattle.fillin_loop.proofs.Turns.{rest_whole, all_turns, waits, reached_waiting, ends, one_within, goes_on}
use Rattle.fillin_loop.proofs.come.answer_come.Goals as goal

-- what comes next in what has come and is not answered yet
next_of : (come : List ℕ) (from : ℕ) (ended : Bool) (r : Option ℕ) → r ≡ next_in (take (length come - from) (drop from come)) ended → next_in (drop from come) ended ≡ r
next_of come from ended r e = sym (e ∙ ap (λ (z : List ℕ). next_in z ended) (rest_whole come from))

-- the next record lies within what has come
size_in : (come : List ℕ) (from n : ℕ) (ended : Bool) → from ≤ length come → next_in (drop from come) ended ≡ Some n → from + n ≤ length come
size_in come from n ended h e = omega (arith, simp length-drop at (next_within (drop from come) ended n e).0)

-- its bytes
bytes_of : (come : List ℕ) (from n : ℕ) → take (from + n - from) (drop from come) ≡ take n (drop from come)
bytes_of come from n = let e : from + n - from ≡ n = omega arith in ap (λ (m : ℕ). take m (drop from come)) e

pub returns-in_default-clause-lines_after : goal.returns-in_default-clause-lines_after
returns-in_default-clause-lines_after c =
    let more : next_in (drop c.loop.done.bytes c.args.come.now) c.args.ended ≡ None = next_of c.args.come.now c.loop.done.bytes c.args.ended c.next_record.result c.next_record.ensures ∙ c.in_default.is in
    waits c.loop.invariant c.loop-test.true more

pub returns-in_default-clause-reached : goal.returns-in_default-clause-reached
returns-in_default-clause-reached c =
    let more : next_in (drop c.loop.done.bytes c.args.come.now) c.args.ended ≡ None = next_of c.args.come.now c.loop.done.bytes c.args.ended c.next_record.result c.next_record.ensures ∙ c.in_default.is in
    reached_waiting c.loop.invariant c.loop-test.true more (length c.loop.lines) (omega (arith, c.loop.invariant.lines_long, c.requires.lines_fit))

pub overflow_add-end : goal.overflow_add-end
overflow_add-end c =
    let whole : next_in (drop c.loop.done.bytes c.args.come.now) c.args.ended ≡ Some c.in-Some.size = next_of c.args.come.now c.loop.done.bytes c.args.ended c.next_record.result c.next_record.ensures ∙ c.in-Some.is in
    omega (arith, size_in c.args.come.now c.loop.done.bytes c.in-Some.size c.args.ended c.loop.invariant.within.bytes_in whole, c.requires.offset_fits)

pub slice_bounds-answer_one-end : goal.slice_bounds-answer_one-end
slice_bounds-answer_one-end c =
    let whole : next_in (drop c.loop.done.bytes c.args.come.now) c.args.ended ≡ Some c.in-Some.size = next_of c.args.come.now c.loop.done.bytes c.args.ended c.next_record.result c.next_record.ensures ∙ c.in-Some.is in
    omega (arith, size_in c.args.come.now c.loop.done.bytes c.in-Some.size c.args.ended c.loop.invariant.within.bytes_in whole)

pub returns-then-is_over-clause-lines_after : goal.returns-then-is_over-clause-lines_after
returns-then-is_over-clause-lines_after c =
    let from = c.loop.done.bytes in
    let size = c.in-Some.size in
    let come = c.args.come.now in
    let whole : next_in (drop from come) c.args.ended ≡ Some size = next_of come from c.args.ended c.next_record.result c.next_record.ensures ∙ c.in-Some.is in
    let own = bytes_of come from size in
    let a = c.answer_one-done in
    ends c.loop.invariant c.loop-test.true size (take (from + size - from) (drop from come)) a.result a.new.weights a.new.lines whole own a.ensures.lines_after (sym c.is_over.ensures ∙ c.if-is_over.true)

pub loop-preserved : goal.loop-preserved
loop-preserved c =
    let from = c.loop.done.bytes in
    let size = c.in-Some.size in
    let come = c.args.come.now in
    let whole : next_in (drop from come) c.args.ended ≡ Some size = next_of come from c.args.ended c.next_record.result c.next_record.ensures ∙ c.in-Some.is in
    let own = bytes_of come from size in
    let a = c.answer_one-done in
    let bytes = take (from + size - from) (drop from come) in
    let within = one_within c.loop.invariant c.loop-test.true size bytes a.result a.new.weights a.new.lines whole own a.ensures.lines_after a.ensures.carried.0 a.ensures.carried.1 in
    goes_on c.loop.invariant c.loop-test.true size bytes a.result a.new.weights a.new.lines whole own a.ensures.lines_after within a.auto.weights a.auto.lines (sym c.is_over.ensures ∙ c.if-is_over.false)

pub returns-clause-lines_after : goal.returns-clause-lines_after
returns-clause-lines_after c = all_turns c.loop.invariant c.loop-test.false
