-- One line behind the others, and how it goes on. Assumes nothing.
use mathlib.Core.Path.{◌≡◌, sym, ap, ◌∙◌}
use Prim.Native.Nat.{ℕ, ◌+◌, ◌≤◌}
use native.Mathlib.Omega.{arith}
use mathlib.Core.List.{List, ◌++◌, append_assoc}
use lib.ListN.{length, take, drop, length-append}
use lib.Seq.{take_at, length-take-le}
use Rattle.fillin_text.specs.Text.{laid}
use Rattle.fillin_text.proofs.Laid.{laid_front}
use Rattle.fillin_answer.specs.declared.state.State.{State}
use Rattle.fillin_answer.specs.declared.state.Reply.{Reply}
use Rattle.fillin_answer.specs.Answers.{Answer, text, answer_to, Replied}
use Rattle.fillin_loop.specs.declared.come.Course.{Course}
use Rattle.fillin_loop.specs.declared.come.Answered.{Answered}
use Rattle.fillin_loop.specs.Come.{SoFar, course_after, so_far, with_one_more}

-- memory in which a text was laid at a place
module _ (xs : List ℕ) (at : ℕ) (room t ys rest : List ℕ) (fits : at ≤ length xs) (e : ys ≡ laid room 0 t) where
  abbrev after : List ℕ
  after = take at xs ++ (ys ++ rest)

  abbrev behind : List ℕ
  behind = drop (length t) room ++ rest

  after_is : after ≡ take at xs ++ (t ++ behind)
  after_is = ap (λ (p : List ℕ). take at xs ++ (p ++ rest)) (e ∙ laid_front room t) ∙ ap (λ (p : List ℕ). take at xs ++ p) (append_assoc t (drop (length t) room) rest)

  -- up to its end: what stood there before the place, and the text
  text_behind : (n : ℕ) → n ≡ length t → take (at + n) after ≡ take at xs ++ t
  text_behind n h =
      let front : length (take at xs ++ t) ≡ at + n = length-append (take at xs) t ∙ omega (arith, length-take-le at xs fits) in
      ap (take (at + n)) (after_is ∙ sym (append_assoc (take at xs) t behind)) ∙ take_at (take at xs ++ t) behind (at + n) front

-- ---- one more record

-- what is answered so far is its fields
so_far_cong : {st st' : State} {w w' : List ℕ} {b : ℕ} {l l' : List ℕ} {k k' : Course} → st ≡ st' → w ≡ w' → l ≡ l' → k ≡ k'
    → ◌≡◌ {A = SoFar} (record { state = st; weights = w; bytes = b; lines = l; course = k }) (record { state = st'; weights = w'; bytes = b; lines = l'; course = k' })
so_far_cong p q s t = rw (p, q, s, t)

module _ (d : Answered) (w lines bytes : List ℕ) (fits : d.text ≤ length lines) where
  abbrev its : Answer
  its = answer_to d.state (take d.state.weight_bytes w) bytes

  pub one_more : (room ys rest w' : List ℕ) (r : Reply) (k : Course) → Replied its r room ys → w' ≡ laid w 0 its.weights
      → k ≡ course_after r.line
      → so_far (record { state = r.state; bytes = d.bytes + length bytes; text = d.text + r.length; course = k }) w' (take d.text lines ++ (ys ++ rest)) ≡ with_one_more (so_far d w lines) bytes
  one_more room ys rest w' r k e p q =
      so_far_cong e.same_state p
      (text_behind lines d.text room (text its) ys rest fits e.same_line r.length e.same_length)
      (q ∙ ap course_after e.same_says)
