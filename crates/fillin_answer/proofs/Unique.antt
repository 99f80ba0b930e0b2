-- Each call's contract is met by one answer alone, and by one content of its lent memory. Assumes nothing.
use mathlib.Core.Path.{◌≡◌, ap, ◌∙◌}
use Prim.Native.Nat.{ℕ}
use mathlib.Core.List.{List}
use Rattle.refusals.proofs.Once.{OneResult, OneCall, same}
use Rattle.fillin_lines.specs.declared.lines.Line.{Line}
use Rattle.fillin_answer.specs.declared.state.State.{State}
use Rattle.fillin_answer.specs.declared.state.Reply.{Reply}
use Rattle.fillin_answer.specs.Answers.{Answer, Replied}
use Rattle.fillin_answer.proofs.state.start.Reads as start
use Rattle.fillin_answer.proofs.answers.answer.Reads as answer

-- a reply is its fields
one_reply : (x y : Reply) → x.state ≡ y.state → x.line ≡ y.line → x.length ≡ y.length → x ≡ y
one_reply x y s l n =
    ap (λ (z : State). reply z x.line x.length) s ∙ ap (λ (z : Line). reply y.state z x.length) l ∙ ap (reply y.state y.line) n
  where
    reply : State → Line → ℕ → Reply
    reply z said k = record { state = z; line = said; length = k }

replied_once : (a : Answer) (x y : Reply) (before p q : List ℕ) → Replied a x before p → Replied a y before q → (x ≡ y) × (p ≡ q)
replied_once a x y before p q h k =
    (one_reply x y (same h.same_state k.same_state) (same h.same_says k.same_says) (same h.same_length k.same_length), same h.same_line k.same_line)

paired : {a a' b b' : List ℕ} → a ≡ a' → b ≡ b' → ◌≡◌ {A = List ℕ × List ℕ} (a, b) (a', b')
paired {a = a} {b' = b'} e f = ap (λ (z : List ℕ). (a, z)) f ∙ ap (λ (z : List ℕ). (z, b')) e

pub start_once : OneResult start.Post
start_once κs a x y s t h k = same h k

pub answer_once : OneCall {M = List ℕ × List ℕ} answer.Post (λ κs s. (s.1.1.0.now, s.1.1.1.0.now))
answer_once κs a x y s t h k =
    let r = replied_once _ x y _ _ _ h.0 k.0 in
    let w = same h.1.0 k.1.0 in
    (r.0, paired w r.1)
