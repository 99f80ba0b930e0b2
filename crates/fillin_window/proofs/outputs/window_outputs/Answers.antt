-- `outputs::window_outputs` meets its contract. Assumes nothing.
use mathlib.Core.Path.{◌≡◌, sym, ap, ◌∙◌}
use Prim.Native.Nat.{ℕ, ◌≤◌}
use native.Mathlib.Omega.{arith}
use mathlib.Core.List.{List, ◌++◌}
use lib.ListN.{length, take, drop, length-append}
use lib.Seq.{length-take-le, take_at}
use lib.Ieee.{Float}
use Rattle.memory.specs.Lists.{table}
use Rattle.memory.proofs.Filled.{length_table}
use Rattle.stepped_shape.specs.declared.shape.Layer.{Layer}
use Rattle.records.specs.Kinds.{reading_at}
use Rattle.fillin_window.specs.Windows.{readings_of, outputs_of}
use Rattle.fillin_window.proofs.outputs.window_outputs.Goals as goal

-- the part of the room that is lent has a place for each reading
lent : (inputs : ℕ) (room : List Float) → 2048 ≡ length room → inputs ≤ 2048 → length (take inputs room) ≡ inputs
lent inputs room e h = length-take-le inputs room (omega (arith, e, h))

pub slice_bounds-readings-end : goal.slice_bounds-readings-end
slice_bounds-readings-end c = sym (lent _ _ c.readings_room-x.ensures c.requires.0.inputs)

pub readings-requires : goal.readings-requires
readings-requires c = omega (arith, lent _ _ c.readings_room-x.ensures c.requires.0.inputs, c.requires.1)

-- its places hold the readings
module _ (l : Layer) (bytes : List ℕ) (x room : List Float) (lent : length (take l.in_feat room) ≡ l.in_feat) (read : x ≡ table (reading_at bytes) (length (take l.in_feat room))) where
  shown : x ≡ readings_of bytes l
  shown = read ∙ ap (table (reading_at bytes)) lent

  as_many : length x ≡ l.in_feat
  as_many = ap length shown ∙ length_table _ l.in_feat

  front : take l.in_feat (x ++ drop l.in_feat room) ≡ x
  front = take_at x (drop l.in_feat room) l.in_feat as_many

pub slice_bounds-x-end-2 : goal.slice_bounds-x-end-2
slice_bounds-x-end-2 c =
    rw length-append (omega (arith, as_many c.args.l c.args.bytes.now c.readings.new.x c.readings_room-x.result (lent _ _ c.readings_room-x.ensures c.requires.0.inputs) c.readings.ensures))

pub slice_bounds-fill_outputs-end : goal.slice_bounds-fill_outputs-end
slice_bounds-fill_outputs-end c = sym (ap length (front c.args.l c.args.bytes.now c.readings.new.x c.readings_room-x.result (lent _ _ c.readings_room-x.ensures c.requires.0.inputs) c.readings.ensures) ∙ as_many c.args.l c.args.bytes.now c.readings.new.x c.readings_room-x.result (lent _ _ c.readings_room-x.ensures c.requires.0.inputs) c.readings.ensures)

pub fill_outputs-requires : goal.fill_outputs-requires
fill_outputs-requires c =
    (c.requires.0, ap length (front c.args.l c.args.bytes.now c.readings.new.x c.readings_room-x.result (lent _ _ c.readings_room-x.ensures c.requires.0.inputs) c.readings.ensures) ∙ as_many c.args.l c.args.bytes.now c.readings.new.x c.readings_room-x.result (lent _ _ c.readings_room-x.ensures c.requires.0.inputs) c.readings.ensures, c.requires.2)

pub returns : goal.returns
returns c =
    let e = c.fill_outputs.ensures in
    record { result_value = e.result_value; y_after = e.y_after ∙ ap (λ (x : List Float). outputs_of c.args.l c.args.w.now x ++ drop c.args.l.out_feat c.args.y.now) (front c.args.l c.args.bytes.now c.readings.new.x c.readings_room-x.result (lent _ _ c.readings_room-x.ensures c.requires.0.inputs) c.readings.ensures ∙ shown c.args.l c.args.bytes.now c.readings.new.x c.readings_room-x.result (lent _ _ c.readings_room-x.ensures c.requires.0.inputs) c.readings.ensures) }
