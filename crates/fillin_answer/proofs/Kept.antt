-- The layer that is kept is one that a layer record may have, and every answer keeps it so. Assumes nothing.
use Prim.Native.Nat.{ℕ, ◌≤◌}
use mathlib.Core.Path.{◌≡◌, refl, sym, ap, ◌∙◌}
use mathlib.Core.List.{List, ◌++◌}
use native.Mathlib.Omega.{arith}
use lib.ListN.{length, take, drop, length-drop, take-append-drop}
use lib.Seq.{length-take-le}
use Rattle.refusals.specs.Said.{Said}
use Rattle.std.proofs.Common.{Ok, Err}
use Rattle.frames.specs.Frame.{Frame, frame_of, payload_of}
use Rattle.records.specs.declared.reader.Item.{Item}
use Rattle.records.specs.declared.reader.Item.TheVariants.{End, Layer, Window, WarmUp}
use Rattle.records.specs.Kinds.{format_in, in_feat_in, out_feat_in, weights_in, found}
use Rattle.records.proofs.Taken.{few_weights, layer_read}
use Rattle.stepped_shape.specs.Layer.{layer_of}
use Rattle.fillin_text.specs.Text.{laid}
use Rattle.fillin_text.proofs.Laid.{laid_front}
use Rattle.fillin_window.specs.Windows.{Sound}
use Rattle.fillin_answer.specs.declared.state.State.{State}
use Rattle.fillin_answer.specs.Kept.{Carried}
use Rattle.fillin_answer.specs.Answers.{decided, answer_to}

-- its weights have at most 26,880 bytes
pub few_kept : (st : State) → Sound st.layer st.weight_bytes → st.weight_bytes ≤ 26880
few_kept st h = rw h.weighed (few_weights h.known st.layer.in_feat st.layer.out_feat h.inputs h.outputs)

-- memory is its own front, laid there
pub own_front : (xs : List ℕ) (k : ℕ) → k ≤ length xs → xs ≡ laid xs 0 (take k xs)
own_front xs k h =
    sym (take-append-drop k xs)
    ∙ ap (λ (n : ℕ). take k xs ++ drop n xs) (sym (length-take-le k xs h))
    ∙ sym (laid_front xs (take k xs))

-- a layer that was read, and its weights
pub layer_sound : (latest : ℕ) (f : Frame) (format in_feat out_feat : ℕ) → found f latest ≡ Ok (Layer format in_feat out_feat) → Sound (layer_of format in_feat out_feat) (length (weights_in (payload_of f)))
layer_sound latest f format in_feat out_feat e =
    let p = payload_of f in
    let r = layer_read latest f format in_feat out_feat e in
    let byte : format_in p ≡ format = cc r.same in
    let inputs : in_feat_in p ≡ in_feat = cc r.same in
    let outputs : out_feat_in p ≡ out_feat = cc r.same in
    let sized = rw (inputs, outputs) at r.sized in
    record {
      known = r.known;
      named = rw byte at r.named;
      inputs = rw inputs at r.in_most;
      blocks = rw inputs at r.blocks;
      outputs = rw outputs at r.out_most;
      weighed = rw length-drop (omega (arith, sized));
    }

-- what every answer keeps
module _ (st : State) (w s : List ℕ) (h : Sound st.layer st.weight_bytes) where
  carried_found : (said : Said Item) → found (frame_of s) st.layer.in_feat ≡ said → Carried st (length s) (decided said (payload_of (frame_of s)) (length s) st w).state
  carried_found (Ok End) e = record { sound = h; offset_in = omega arith; count_in = omega arith }
  carried_found (Ok (Layer format in_feat out_feat)) e =
      record { sound = layer_sound _ (frame_of s) format in_feat out_feat e; offset_in = omega arith; count_in = omega arith }
  carried_found (Ok Window) e = record { sound = h; offset_in = omega arith; count_in = omega arith }
  carried_found (Ok WarmUp) e = record { sound = h; offset_in = omega arith; count_in = omega arith }
  carried_found (Err why) e = record { sound = h; offset_in = omega arith; count_in = omega arith }

  pub carried : Carried st (length s) (answer_to st w s).state
  unfolding answer_to
  carried = carried_found (found (frame_of s) st.layer.in_feat) refl
