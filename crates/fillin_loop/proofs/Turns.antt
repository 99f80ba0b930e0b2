-- Records that have come, one a turn. Assumes nothing.
use mathlib.Core.Path.{◌≡◌, sym, ap, ◌∙◌}
use Prim.Native.Nat.{ℕ, suc, ◌+◌, ◌-◌, ◌*◌, ◌≤◌, ◌<◌}
use native.Mathlib.Omega.{arith}
use mathlib.Core.Bool.{Bool, true, false, cond}
use mathlib.Core.List.{List}
use lib.ListN.{length, take, drop, length-take, length-drop}
use lib.Seq.{take_all}
use Rattle.frames.specs.Pieces.{next_in}
use Rattle.std.proofs.Common.{Some, None}
use Rattle.frames.proofs.Pieces.{more_short}
use Rattle.fillin_lines.specs.declared.lines.Line.{Line}
use Rattle.fillin_lines.specs.declared.lines.Line.TheVariants.{Layer, Window, WarmUp, Stop, End}
use Rattle.fillin_window.specs.Windows.{Sound}
use Rattle.fillin_answer.specs.declared.state.State.{State}
use Rattle.fillin_answer.specs.Kept.{Carried}
use Rattle.fillin_answer.specs.Answers.{answer_to}
use Rattle.fillin_loop.specs.declared.come.Course.TheVariants.{More}
use Rattle.fillin_loop.specs.declared.come.Answered.{Answered}
use Rattle.fillin_loop.specs.Come.{SoFar, course_after, so_far, nothing_yet, with_one_more, waiting, is_over, answering, Reached}

-- no line has more to come for
never_more : (l : Line) → course_after l ≡ More → ⊥
never_more (Layer format in_feat out_feat) e = let z : ◌≡◌ {A = ℕ} 0 1 = cc in omega arith
never_more (Window number) e = let z : ◌≡◌ {A = ℕ} 0 1 = cc in omega arith
never_more (WarmUp number) e = let z : ◌≡◌ {A = ℕ} 0 1 = cc in omega arith
never_more (Stop why offset) e = let z : ◌≡◌ {A = ℕ} 0 1 = cc in omega arith
never_more (End answered refused) e = let z : ◌≡◌ {A = ℕ} 0 1 = cc in omega arith

module _ (come : List ℕ) (ended : Bool) where
  -- a turn with a record of which more has to come, and one with a whole record
  more_stays : (most : ℕ) (s : SoFar) → next_in (drop s.bytes come) ended ≡ None → answering come ended (suc most) s ≡ waiting s
  unfolding answering
  more_stays most s e = rw e

  whole_turn : (most : ℕ) (s t : SoFar) (n : ℕ) → next_in (drop s.bytes come) ended ≡ Some n → t ≡ with_one_more s (take n (drop s.bytes come))
      → answering come ended (suc most) s ≡ cond (is_over t.course) t (answering come ended most t)
  unfolding answering
  whole_turn most s t n e p = rw (e, p)

-- the rest of the bytes, as a part of them that ends where they do
pub rest_whole : (come : List ℕ) (from : ℕ) → take (length come - from) (drop from come) ≡ drop from come
rest_whole come from = take_all (length come - from) (drop from come) (rw length-drop (omega arith))

-- after i turns: what is answered so far ..
pub record Within (st : State) (come : List ℕ) (d : Answered) (i : ℕ) : Type 0 where
  pub sound : Sound d.state.layer d.state.weight_bytes
  pub on : d.course ≡ More → ⊥
  pub turns : i ≤ 64
  pub bytes_in : d.bytes ≤ length come
  pub text_in : d.text ≤ i * 172
  pub offset_in : d.state.offset ≤ st.offset + d.bytes
  pub count_in : d.state.answered + d.state.refused ≤ st.answered + st.refused + i

-- .. and then at most so many records more, is what is to be answered
pub record Going (come : List ℕ) (ended : Bool) (st : State) (w₀ lines₀ w lines : List ℕ) (d : Answered) (i : ℕ) : Type 0 where
  pub within : Within st come d i
  pub weights_long : length w ≡ length w₀
  pub lines_long : length lines ≡ length lines₀
  pub same : answering come ended (64 - i) (so_far d w lines) ≡ answering come ended 64 (nothing_yet st w₀)

-- after the last turn
pub all_turns : {come : List ℕ} {ended : Bool} {st : State} {w₀ lines₀ w lines : List ℕ} {d : Answered} {i : ℕ} → Going come ended st w₀ lines₀ w lines d i → 64 ≤ i → so_far d w lines ≡ answering come ended 64 (nothing_yet st w₀)
unfolding answering
all_turns {come} {ended} {w} {lines} {d} {i} g h = let z : 0 ≡ 64 - i = omega arith in ap (λ (n : ℕ). answering come ended n (so_far d w lines)) z ∙ g.same

-- how far that is
pub reached : {st : State} {come : List ℕ} {d : Answered} {i : ℕ} → Within st come d i → (lines : ℕ) → 11008 ≤ lines → Reached st (length come) lines d
reached v lines h = record {
  sound = v.sound;
  bytes_in = v.bytes_in;
  text_in = omega (arith, v.text_in, v.turns);
  offset_in = v.offset_in;
  count_in = omega (arith, v.count_in, v.turns);
  short = λ e. absurd (v.on e);
}

module _ {come : List ℕ} {ended : Bool} {st : State} {w₀ lines₀ w lines : List ℕ} {d : Answered} {i : ℕ} (g : Going come ended st w₀ lines₀ w lines d i) (h : i < 64) where
  abbrev all : SoFar
  all = answering come ended 64 (nothing_yet st w₀)

  one_turn : 64 - i ≡ suc (64 - (i + 1))
  one_turn = omega arith

  -- more has to come
  pub waits : next_in (drop d.bytes come) ended ≡ None → waiting (so_far d w lines) ≡ all
  waits e = sym (more_stays come ended (64 - (i + 1)) (so_far d w lines) e) ∙ ap (λ (n : ℕ). answering come ended n (so_far d w lines)) (sym one_turn) ∙ g.same

  pub reached_waiting : next_in (drop d.bytes come) ended ≡ None → (lines : ℕ) → 11008 ≤ lines
      → Reached st (length come) lines (record { state = d.state; bytes = d.bytes; text = d.text; course = More })
  reached_waiting e lines h =
      let v = g.within in
      record {
        sound = v.sound;
        bytes_in = v.bytes_in;
        text_in = omega (arith, v.text_in, v.turns);
        offset_in = v.offset_in;
        count_in = omega (arith, v.count_in, v.turns);
        short = λ _. rw length-drop at (more_short (drop d.bytes come) ended e);
      }

  -- one more record
  module _ (n : ℕ) (bs : List ℕ) (d' : Answered) (w' lines' : List ℕ) (e : next_in (drop d.bytes come) ended ≡ Some n) (b : bs ≡ take n (drop d.bytes come)) (p : so_far d' w' lines' ≡ with_one_more (so_far d w lines) bs) where
    turned : cond (is_over d'.course) (so_far d' w' lines') (answering come ended (64 - (i + 1)) (so_far d' w' lines')) ≡ all
    turned =
        sym (whole_turn come ended (64 - (i + 1)) (so_far d w lines) (so_far d' w' lines') n e (p ∙ ap (with_one_more (so_far d w lines)) b))
        ∙ ap (λ (k : ℕ). answering come ended k (so_far d w lines)) (sym one_turn) ∙ g.same

    pub ends : is_over d'.course ≡ true → so_far d' w' lines' ≡ all
    ends o = rw o at turned

    pub one_within : Carried d.state (length bs) d'.state → d'.text ≤ d.text + 172 → Within st come d' (i + 1)
    one_within k t =
        let v = g.within in
        let bytes : d'.bytes ≡ d.bytes + length bs = ap (λ (s : SoFar). s.bytes) p in
        let few : length bs ≤ length come - d.bytes = rw (b, length-take, length-drop) (omega arith) in
        record {
          sound = k.sound;
          on = λ m. never_more (answer_to d.state (take d.state.weight_bytes w) bs).says (sym (ap (λ (s : SoFar). s.course) p) ∙ m);
          turns = omega arith;
          bytes_in = omega (arith, v.bytes_in);
          text_in = omega (arith, v.text_in);
          offset_in = omega (arith, v.offset_in, k.offset_in);
          count_in = omega (arith, v.count_in, k.count_in);
        }

    pub goes_on : Within st come d' (i + 1) → length w' ≡ length w → length lines' ≡ length lines → is_over d'.course ≡ false → Going come ended st w₀ lines₀ w' lines' d' (i + 1)
    goes_on v u l o = record { within = v; weights_long = u ∙ g.weights_long; lines_long = l ∙ g.lines_long; same = rw o at turned }
