-- `answers::decide` meets its contract: what was read says which line is written. Assumes nothing.
use mathlib.Core.Path.{◌≡◌, refl, sym, ap, subst, ◌∙◌}
use mathlib.Core.List.{List, [], ◌++◌}
use Prim.Native.Nat.{ℕ, ◌≤◌}
use native.Mathlib.Omega.{arith}
use lib.Dec.{lit≤}
use lib.ListN.{length, take, drop}
use lib.Seq.{length-take-le, take_at}
use lib.Ieee.{Float}
use Rattle.refusals.specs.Said.{Said}
use Rattle.std.proofs.Common.{Ok, Err}
use Rattle.frames.specs.Frame.{frame_of, payload_of}
use Rattle.records.specs.declared.reader.Item.{Item}
use Rattle.records.specs.declared.reader.Item.TheVariants.{End, Layer, Window, WarmUp}
use Rattle.records.specs.Kinds.{weights_in, readings_in, found}
use Rattle.records.proofs.Taken.{few_weights, window_read}
use Rattle.stepped_shape.specs.Layer.{layer_of}
use Rattle.fillin_text.specs.Text.{laid}
use Rattle.fillin_lines.specs.declared.lines.Line.{Line}
use Rattle.fillin_lines.specs.declared.lines.Line.TheVariants.{Layer}
use Rattle.fillin_window.specs.Windows.{Sound, readings_of, outputs_of}
use Rattle.fillin_window.proofs.Many.{as_many}
use Rattle.fillin_answer.specs.declared.answers.Decided.{Decided}
use Rattle.fillin_answer.specs.declared.state.State.{State}
use Rattle.fillin_answer.specs.Kept.{with_layer, behind}
use Rattle.fillin_answer.specs.Answers.{Answer, decided, answer_to}
use Rattle.fillin_answer.specs.Inner.{saying, Decides}
use Rattle.fillin_answer.proofs.Kept.{few_kept, own_front, layer_sound}
use Rattle.fillin_answer.proofs.answers.decide.Goals as goal

-- ---- what was decided, by its line
-- a line that shows outputs, and one that shows none
shows : (a : Answer) (d : Decided) (n : ℕ) (y rest : List Float) → d ≡ saying a.says n a.state → y ≡ a.outputs ++ rest → length a.outputs ≡ n → n ≤ 16 → Decides a d y
shows a d n y rest e f long h =
    subst (λ (k : Decided). Decides a k y) (sym e) (record { same_line = refl; same_outputs = ap (take n) f ∙ take_at a.outputs rest n long; few = h; same_state = refl })

silent : (a : Answer) (d : Decided) (y : List Float) → d ≡ saying a.says 0 a.state → a.outputs ≡ [] → Decides a d y
silent a d y e none = subst (λ (k : Decided). Decides a k y) (sym e) (record { same_line = refl; same_outputs = sym none; few = lit≤ tt; same_state = refl })

-- ---- from what was found to the answer
module _ (st : State) (s weights : List ℕ) where
  -- the latest layer's weights
  abbrev latest : List ℕ
  latest = take st.weight_bytes weights

  module _ (sound : Sound st.layer st.weight_bytes) (room : 26880 ≤ length weights) where
    fits : st.weight_bytes ≤ length weights
    fits = omega (arith, few_kept st sound)

    -- where no Layer is read, the weights stay
    stays : weights ≡ laid weights 0 latest
    stays = own_front weights st.weight_bytes fits

  concluded : (f : Said Item) (d : Decided) (y : List Float) (left : List ℕ) → found (frame_of s) st.layer.in_feat ≡ f
      → Decides (decided f (payload_of (frame_of s)) (length s) st latest) d y
      → left ≡ laid weights 0 (decided f (payload_of (frame_of s)) (length s) st latest).weights
      → Decides (answer_to st latest s) d y × (left ≡ laid weights 0 (answer_to st latest s).weights)
  unfolding answer_to
  concluded f d y left e q l =
      subst
      (λ (g : Said Item). Decides (decided g (payload_of (frame_of s)) (length s) st latest) d y × (left ≡ laid weights 0 (decided g (payload_of (frame_of s)) (length s) st latest).weights))
      (sym e)
      (q, l)

-- what was read, by its case
read_as : {said r : Said Item} {i case : Item} → r ≡ said → r ≡ Ok i → i ≡ case → said ≡ Ok case
read_as e is e' = sym e ∙ is ∙ ap Ok e'

-- ---- the calls
pub take_layer-requires : goal.take_layer-requires
take_layer-requires c =
    let l = layer_sound _ (frame_of c.args.«record».now) _ _ _ (read_as c.read.ensures c.in-Ok-Layer.is c.in-Ok-Layer.field-0-is) in
    let few = few_weights l.known _ _ l.inputs l.outputs in
    (rw c.payload.ensures (omega (arith, l.weighed, few, c.requires.sound.1)), c.requires.record_bound.0)

pub slice_bounds-answer_window-end : goal.slice_bounds-answer_window-end
slice_bounds-answer_window-end c = fits c.args.st c.args.«record».now c.args.weights.now c.requires.sound.0 c.requires.sound.1

pub slice_bounds-answer_window-end-in-Ok-Window : goal.slice_bounds-answer_window-end-in-Ok-Window
slice_bounds-answer_window-end-in-Ok-Window c = sym (length-take-le _ _ (fits c.args.st c.args.«record».now c.args.weights.now c.requires.sound.0 c.requires.sound.1))

pub answer_window-requires : goal.answer_window-requires
answer_window-requires c =
    let kept : length (take c.args.st.weight_bytes c.args.weights.now) ≡ c.args.st.weight_bytes = length-take-le _ _ (fits c.args.st c.args.«record».now c.args.weights.now c.requires.sound.0 c.requires.sound.1) in
    record { sound = (rw kept c.requires.sound.0, c.requires.sound.2, ap length c.payload-in-Ok-Window.ensures ∙ window_read _ (frame_of c.args.«record».now) (read_as c.read.ensures c.in-Ok-Window.is c.in-Ok-Window.field-0-is)); size_bound = c.requires.record_bound }

-- ---- the answers
pub returns-in-Ok-End : goal.returns-in-Ok-End
returns-in-Ok-End c =
    let both = concluded c.args.st c.args.«record».now c.args.weights.now (Ok End) _ _ _ (read_as c.read.ensures c.in-Ok-End.is c.in-Ok-End.field-0-is) (silent _ _ _ refl refl) (stays c.args.st c.args.«record».now c.args.weights.now c.requires.sound.0 c.requires.sound.1) in
    record { decides = both.0; weights_after = both.1 }

pub returns-in-Ok-Layer : goal.returns-in-Ok-Layer
returns-in-Ok-Layer c =
    let e = c.take_layer.ensures in
    let p = c.payload.ensures in
    let st = c.args.st in
    let weights = c.args.weights.now in
    let line : Line = Layer c.in-Ok-Layer.format c.in-Ok-Layer.in_feat c.in-Ok-Layer.out_feat in
    let l = layer_of c.in-Ok-Layer.format c.in-Ok-Layer.in_feat c.in-Ok-Layer.out_feat in
    let made = ap (λ m. saying (Layer m.format m.in_feat m.out_feat) 0 (with_layer m (length (weights_in c.payload.result.now)) (behind (length c.args.«record».now) st))) c.of-latest.ensures in
    let same = ap (λ (q : List ℕ). saying line 0 (with_layer l (length (weights_in q)) (behind (length c.args.«record».now) st))) p in
    let both = concluded st c.args.«record».now weights (Ok (Layer c.in-Ok-Layer.format c.in-Ok-Layer.in_feat c.in-Ok-Layer.out_feat)) _ _ _ (read_as c.read.ensures c.in-Ok-Layer.is c.in-Ok-Layer.field-0-is) (silent _ _ _ (e.value ∙ made ∙ same) refl) (e.weights_after ∙ ap (λ (q : List ℕ). laid weights 0 (weights_in q)) p) in
    record { decides = both.0; weights_after = both.1 }

pub returns-in-Ok-Window : goal.returns-in-Ok-Window
returns-in-Ok-Window c =
    let e = c.answer_window.ensures in
    let p = c.payload-in-Ok-Window.ensures in
    let st = c.args.st in
    let s = c.args.«record».now in
    let weights = c.args.weights.now in
    let l = st.layer in
    let kept = take st.weight_bytes weights in
    let rest = drop l.out_feat c.args.y.now in
    let shown = e.y_after ∙ ap (λ (q : List ℕ). outputs_of l kept (readings_of (readings_in q) l) ++ rest) p in
    let both = concluded st s weights (Ok Window) _ _ _ (read_as c.read.ensures c.in-Ok-Window.is c.in-Ok-Window.field-0-is) (shows _ _ l.out_feat _ rest e.value shown (as_many l _ c.requires.sound.0 _ _) c.requires.sound.0.outputs) (stays st s weights c.requires.sound.0 c.requires.sound.1) in
    record { decides = both.0; weights_after = both.1 }

pub returns-in-Ok-WarmUp : goal.returns-in-Ok-WarmUp
returns-in-Ok-WarmUp c =
    let both = concluded c.args.st c.args.«record».now c.args.weights.now (Ok WarmUp) _ _ _ (read_as c.read.ensures c.in-Ok-WarmUp.is c.in-Ok-WarmUp.field-0-is) (silent _ _ _ c.refuse_window.ensures refl) (stays c.args.st c.args.«record».now c.args.weights.now c.requires.sound.0 c.requires.sound.1) in
    record { decides = both.0; weights_after = both.1 }

pub returns-in-Err : goal.returns-in-Err
returns-in-Err c =
    let both = concluded c.args.st c.args.«record».now c.args.weights.now (Err c.in-Err.why) _ _ _ (sym c.read.ensures ∙ c.in-Err.is) (silent _ _ _ c.stop.ensures refl) (stays c.args.st c.args.«record».now c.args.weights.now c.requires.sound.0 c.requires.sound.1) in
    record { decides = both.0; weights_after = both.1 }
