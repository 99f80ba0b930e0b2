-- The integer layers, every row of whose readings and weights is moved alike. Assumes nothing.
use Prim.{Unit}
use mathlib.Core.Path.{◌≡◌, refl, sym, ap, fun_ext, ◌∙◌}
use mathlib.Core.List.{List, ◌++◌}
use Prim.Native.Nat.{ℕ, zero, suc, ◌+◌, ◌*◌, ◌/◌, ◌%◌, ◌≤◌, ◌<◌}
use native.Mathlib.Nat.{le_refl, not-suc-le-zero, mul-zero, mul_comm, mul_assoc, mul-add, add-mul, add_assoc, mul-add-mod_self_right, div-lt_iff_lt-mul, mod-lt}
use native.Mathlib.Omega.{arith}
use lib.Arith.{digits_lt}
use lib.ListN.{length, get_or, drop, length-take, length-drop}
use lib.Seq.{ext_get_or}
use lib.Ieee.{Float, nan}
use Rattle.refusals.specs.Said.{Said, done}
use Rattle.refusals.specs.Refusals.{carried_out}
use Rattle.std.proofs.Common.{Ok, Err}
use Rattle.memory.specs.Lists.{part, stretch_length}
use Rattle.memory.proofs.Filled.{table_ext, part_at}
use Rattle.memory.proofs.Parts.{within}
use Rattle.layouts.specs.Formats.{bytes_k}
use Rattle.layouts.specs.Weights.{block}
use Rattle.layouts.specs.declared.format.Format.TheVariants.{OfK}
use Rattle.layouts.specs.declared.format.FormatK.{FormatK}
use Rattle.dots_activation.specs.Blocks.{block_of}
use Rattle.dots_integer_row.specs.Rows.{block_at}
use Rattle.dots_kept_row.specs.declared.meeting.Meeting.{Meeting}
use Rattle.dots_kept_row.proofs.Meets.{meets_ext}
use Rattle.layers_shape.specs.declared.Shape.{Shape}
use Rattle.layers_shape.specs.Shapes.{row_bytes, reading_row, weight_row, outputs}
use Rattle.layers_shape.proofs.Fits.{Fits, fits}
use Rattle.layers_integer_row.specs.Outputs.{integer_dot_at, integer_outputs}
use Rattle.layers_integer.specs.Says.{integer_layer_says}
use Rattle.dots_rearranged.specs.Moved.{run, Rearrangements, of_block, moved_weights, moved_readings, every_row}
use Rattle.dots_rearranged.specs.Laws.{Singles}
use Rattle.dots_rearranged.proofs.Places.{runs_in}
use Rattle.dots_rearranged.proofs.Weights.{weights_long, weights_moved}
use Rattle.dots_rearranged.proofs.Activations.{readings_long, readings_moved}
use Rattle.dots_rearranged.proofs.Blocks.{with_moved}

-- a part of a part
part_part : {A : Type 0} (l : List A) (a k b z : ℕ) (d : A) → b + z ≤ k → part (part l a k) b z ≡ part l (a + b) z
part_part l a k b z d h = ext_get_or d (part (part l a k) b z) (part l (a + b) z) long at
  where
    long : length (part (part l a k) b z) ≡ length (part l (a + b) z)
    long = simp (length-take, length-drop) (omega arith)

    at : (i : ℕ) → i < length (part (part l a k) b z) → get_or (part (part l a k) b z) i d ≡ get_or (part l (a + b) z) i d
    at i p =
        let s = simp (length-take, length-drop) at p in
        part_at (part l a k) b z i d (omega arith) ∙ part_at l a k (b + i) d (omega arith) ∙ ap (λ (n : ℕ). get_or l n d) (sym (add_assoc a b i)) ∙ sym (part_at l (a + b) z i d (omega arith))

-- rows of n places, k whole blocks: block c of row o is block o * k + c, and its runs are rearranged as those of block c
module _ (f : FormatK) (orders : ℕ → List ℕ) (n : ℕ) (whole : n % 256 ≡ 0) where
  runs_in_row : n / run f ≡ 256 / run f * (n / 256)
  runs_in_row =
      let e : n ≡ 256 * (n / 256) = omega arith in
      ap (λ (k : ℕ). k / run f) e ∙ runs_in f (n / 256)

  same_runs : (o c : ℕ) → of_block f (every_row f n orders) (o * (n / 256) + c) ≡ of_block f (every_row f n orders) c
  same_runs o c = fun_ext (λ r. ap orders (same r))
    where
      same : (r : ℕ) → (256 / run f * (o * (n / 256) + c) + r) % (n / run f) ≡ (256 / run f * c + r) % (n / run f)
      same r =
          let k = 256 / run f in
          let m = n / 256 in
          let e : k * (o * m + c) + r ≡ o * (k * m) + (k * c + r) =
          ap (λ (p : ℕ). p + r) (mul-add k (o * m) c ∙ ap (λ (p : ℕ). p + k * c) (sym (mul_assoc k o m) ∙ ap (λ (p : ℕ). p * m) (mul_comm k o) ∙ mul_assoc o k m)) ∙ add_assoc (o * (k * m)) (k * c) r in
          rw (runs_in_row, e) (mul-add-mod_self_right o (k * m) (k * c + r))

  -- where block c of row o of weights lies
  weight_block : (l : List ℕ) (o c : ℕ) → c < n / 256 → block (OfK f) (weight_row f l n o) c ≡ block (OfK f) l (o * (n / 256) + c)
  weight_block l o c h =
      let z = bytes_k f in
      part_part l (o * row_bytes f n) (row_bytes f n) (c * z) z 0 (within c z (n / 256) (row_bytes f n) h (le_refl _))
      ∙ ap (λ (a : ℕ). part l a z) (ap (λ (a : ℕ). a + c * z) (sym (mul_assoc o (n / 256) z)) ∙ sym (add-mul (o * (n / 256)) c z))

  rows_whole : (b : ℕ) → b * n ≡ 256 * (b * (n / 256))
  rows_whole b =
      let e : n ≡ 256 * (n / 256) = omega arith in
      ap (λ (k : ℕ). b * k) e ∙ sym (mul_assoc b 256 (n / 256)) ∙ ap (λ (k : ℕ). k * (n / 256)) (mul_comm b 256) ∙ mul_assoc 256 b (n / 256)

  -- and block c of row b of readings
  reading_block : (l : List Float) (b c : ℕ) → c < n / 256 → part (part l (b * n) n) (256 * c) 256 ≡ part l (256 * (b * (n / 256) + c)) 256
  reading_block l b c h =
      part_part l (b * n) n (256 * c) 256 nan (omega arith)
      ∙ ap (λ (a : ℕ). part l a 256) (ap (λ (a : ℕ). a + 256 * c) (rows_whole b) ∙ sym (mul-add 256 (b * (n / 256)) c))

positive : (a b k : ℕ) → k < a * b → 0 < b
positive a zero k h = absurd (not-suc-le-zero (rw (mul-zero a) at h))
positive a (suc b) k h = omega arith

module _ (f : FormatK) (orders : ℕ → List ℕ) (each : Rearrangements f orders) (m : Meeting) (s : Shape) (x : List Float) (w : List ℕ) (single : Singles x) where
  abbrev n : ℕ
  n = s.in_feat

  abbrev rows : ℕ → List ℕ
  rows = every_row f n orders

  abbrev x' : List Float
  x' = moved_readings f rows (s.batch * (n / 256)) x

  abbrev w' : List ℕ
  w' = moved_weights f rows (s.out_feat * (n / 256)) w

  module _ (places : ℕ) (h : Fits f s (length x) (length w) places) where
    block_kept : (b o c : ℕ) → b < s.batch → o < s.out_feat → c < n / 256 → block_at f (reading_row x' s b) (weight_row f w' n o) n c ≡ block_at f (reading_row x s b) (weight_row f w n o) n c
    block_kept b o c hb ho hc =
        let whole = h.whole in
        let each' : Rearrangements f rows = λ r. each (r % (n / run f)) in
        let size : stretch_length 256 n c ≡ 256 = omega arith in
        let read : 256 * (s.batch * (n / 256)) ≤ length x = rw (← rows_whole f orders n whole s.batch) h.read in
        let weighed : s.out_feat * (n / 256) * bytes_k f ≤ length w = rw mul_assoc h.weighed in
        let readings = rw (same_runs f orders n whole b c) at (readings_moved f rows (s.batch * (n / 256)) x each' single (b * (n / 256) + c) (digits_lt hb hc) read) in
        let weights = rw (same_runs f orders n whole o c) at (weights_moved f rows (s.out_feat * (n / 256)) w each' (o * (n / 256) + c) (digits_lt ho hc) weighed) in
        rw (size, weight_block f orders n whole w' o c hc, weight_block f orders n whole w o c hc, reading_block f orders n whole x' b c hc, reading_block f orders n whole x b c hc, readings)
        (with_moved f (of_block f rows c) (λ r. each' (256 / run f * c + r)) (block_of (part x (256 * (b * (n / 256) + c)) 256)) _ _ weights)

    output_kept : (b o : ℕ) → b < s.batch → o < s.out_feat → integer_dot_at f m (reading_row x' s b) w' n o ≡ integer_dot_at f m (reading_row x s b) w n o
    output_kept b o hb ho = meets_ext m _ _ (n / 256) (λ c hc. block_kept b o c hb ho hc)

    outputs_kept : (y : List Float) → integer_outputs f m s x' w' y ≡ integer_outputs f m s x w y
    unfolding outputs
    outputs_kept y =
        let outs = s.out_feat in
        ap (λ (l : List Float). l ++ drop (s.batch * outs) y)
        (table_ext _ _ (s.batch * outs) (λ k l. output_kept (k / outs) (k % outs) ((div-lt_iff_lt-mul (some k l)).1 l) (mod-lt k (some k l))))
      where
        some : (k : ℕ) → k < s.batch * s.out_feat → 0 < s.out_feat
        some k l = positive s.batch s.out_feat k l

-- what is carried out is the same where it is done
carried_same : {M : Type 0} (said : Said (Unit {0})) (a b old : M) → (said ≡ done → a ≡ b) → carried_out said a old ≡ carried_out said b old
unfolding carried_out
carried_same (Ok tt) a b old h = rw (h refl)
carried_same (Err why) a b old h = refl

pub layers : (f : FormatK) (orders : ℕ → List ℕ) → Rearrangements f orders → (m : Meeting) (s : Shape) (x : List Float) (w : List ℕ) (y : List Float) → Singles x
    → (let rows = every_row f s.in_feat orders in
    let full = s.in_feat / 256 in
    integer_layer_says f m s (moved_readings f rows (s.batch * full) x) (moved_weights f rows (s.out_feat * full) w) y ≡ integer_layer_says f m s x w y)
unfolding integer_layer_says
layers f orders each m s x w y single =
    let rows = every_row f s.in_feat orders in
    let full = s.in_feat / 256 in
    rw (readings_long f rows (s.batch * full) x, weights_long f rows (s.out_feat * full) w)
    (carried_same _ _ _ y (λ ok. outputs_kept f orders each m s x w single (length y) (fits f s (length x) (length w) (length y) ok) y))
