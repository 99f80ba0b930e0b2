-- Every reading negated: what is said is negated too, but that a zero may keep its sign. Assumes nothing.
use Prim.{Unit}
use mathlib.Core.Path.{◌≡◌, refl, sym, ◌∙◌}
use mathlib.Core.Bool.{Bool, true, false, cond}
use mathlib.Core.List.{List}
use Prim.Native.Nat.{ℕ, ◌+◌, ◌*◌, ◌/◌, ◌%◌, ◌<◌}
use borrow.Author.Tests.{eq-eqb}
use lib.Dec.{T, eqb}
use lib.ListN.{get_or, drop, length-map, get_or-map, get_or-append}
use lib.Seq.{drop_at}
use lib.Ieee.{Float, nan, inf, fin, binary32, up, down, add, mul, neg, eq, is_nan, of_bits, of_fields, odd}
use Rattle.refusals.specs.declared.refusal.Refusal.{Refusal}
use Rattle.refusals.specs.Said.{Said}
use Rattle.refusals.specs.Refusals.{given, carried_out}
use Rattle.std.proofs.Common.{Ok, Err}
use Rattle.numbers.specs.Alike.{Alike, same, zeros}
use Rattle.numbers.proofs.FloatLaws.{alike_by, alike_then, add_alike, mul_alike, neg_add, neg_mul}
use Rattle.numbers.specs.Steps.{nought}
use Rattle.memory.specs.Lists.{table, filled}
use Rattle.memory.proofs.Filled.{length_table, get_or_table, part_at}
use Rattle.layouts.specs.Weights.{weight_at}
use Rattle.layouts.specs.declared.format.FormatK.{FormatK}
use Rattle.layouts.specs.declared.format.Format.TheVariants.{OfK}
use Rattle.sums_lanes.specs.Lanes.{products}
use Rattle.sums.specs.Rows.{row_sum}
use Rattle.sums.specs.Says.{dot_says}
use Rattle.dots_fused_block.specs.Terms.{terms}
use Rattle.dots_fused.specs.Says.{fused_says}
use Rattle.layers_shape.specs.declared.Shape.{Shape}
use Rattle.layers_shape.specs.Shapes.{reading_row, weight_row, outputs}
use Rattle.layers_fused.specs.Says.{fused_dot_at, fused_layer_says}
use Rattle.dots_laws.specs.Laws.{negated, Turned, agree, DotTurned, answers, refuses, LayerTurned, fills, leaves, NegationLaw}
use Rattle.dots_laws.proofs.Kept.{KeptBySums, row_kept}

-- ---- what a comparison tells: alike floats compare equal, or both are NaN

agree_same : (a : Float) → T (agree a a)
unfolding eq is_nan
agree_same nan = tt
agree_same (inf true) = tt
agree_same (inf false) = tt
agree_same (fin true m e) = rw (eq-eqb (m * up e * down e) (m * up e * down e) refl) tt
agree_same (fin false m e) = rw (eq-eqb (m * up e * down e) (m * up e * down e) refl) tt

alike_agree : {a b : Float} → Alike a b → T (agree a b)
unfolding eq is_nan
alike_agree {a} same = agree_same a
alike_agree (zeros true true) = tt
alike_agree (zeros true false) = tt
alike_agree (zeros false true) = tt
alike_agree (zeros false false) = tt

turned_agree : {a b : Float} → Turned a b → T (agree a (neg b))
turned_agree h = alike_agree h.alike

-- ---- the steps of the sum

-- a sum starts from +0.0 both times
nought_turned : Turned nought nought
unfolding of_bits of_fields odd neg
nought_turned = record { alike = zeros false true }

nan_turned : Turned nan nan
unfolding neg
nan_turned = record { alike = same }

add_turned : {a b x y : Float} → Turned a b → Turned x y → Turned (add binary32 a x) (add binary32 b y)
add_turned {a} {b} {x} {y} h k = record { alike = alike_then (add_alike binary32 h.alike k.alike) (neg_add binary32 b y) }

mul_turned : {a b : Float} (w : Float) → Turned a b → Turned (mul binary32 a w) (mul binary32 b w)
mul_turned {a} {b} w h = record { alike = alike_then (mul_alike binary32 w h.alike) (alike_by (neg_mul binary32 b w)) }

turned_kept : KeptBySums Turned
turned_kept = record { start = nought_turned; nothing = nan_turned; added = add_turned }

-- Of readings that are turned at each place, whatever their weights v, the row's sum is turned.
row_turned : (x y : List Float) (v : ℕ → Float) (n : ℕ) → ((i : ℕ) → i < n → Turned (get_or x i nan) (get_or y i nan))
    → Turned (row_sum (λ i. mul binary32 (get_or x i nan) (v i)) n) (row_sum (λ i. mul binary32 (get_or y i nan) (v i)) n)
row_turned x y v n h = row_kept turned_kept _ _ n (λ i u. mul_turned (v i) (h i u))

-- ---- the dots

at_negated : (x : List Float) (i : ℕ) → get_or (negated x) i nan ≡ neg (get_or x i nan)
unfolding neg
at_negated x i = get_or-map neg x i nan

negated_turned : (x : List Float) (i : ℕ) → Turned (get_or (negated x) i nan) (get_or x i nan)
negated_turned x i = record { alike = alike_by (at_negated x i) }

-- the readings x and the weights w
row_negated : (x w : List Float) (n : ℕ) → Turned (row_sum (products (negated x) w) n) (row_sum (products x w) n)
row_negated x w n = row_turned (negated x) x (λ i. get_or w i nan) n (λ i u. negated_turned x i)

-- a check looks at no reading's value, so both are given the same answer of it
given_turned : (why : Refusal) (t : Bool) {a b : Said Float} → DotTurned a b → DotTurned (given why t a) (given why t b)
unfolding given
given_turned why true h = refuses why
given_turned why false h = h

-- and both answer n = 0 alike
cond_turned : (t : Bool) {a b c : Said Float} → DotTurned c c → DotTurned a b → DotTurned (cond t c a) (cond t c b)
cond_turned true h k = h
cond_turned false h k = k

dot_negated : (x w : List Float) (n : ℕ) → DotTurned (dot_says (negated x) w n) (dot_says x w n)
unfolding dot_says
dot_negated x w n =
    rw (length-map x neg)
    (given_turned _ _ (cond_turned (eqb n 0) (answers nought_turned) (given_turned _ _ (given_turned _ _ (answers (row_negated x w n))))))

fused_dot_negated : (f : FormatK) (x : List Float) (w : List ℕ) (n : ℕ) → DotTurned (fused_says f (negated x) w n) (fused_says f x w n)
unfolding fused_says
fused_dot_negated f x w n =
    let row : Turned (row_sum (terms f (negated x) w) n) (row_sum (terms f x w) n) = row_turned (negated x) x (weight_at (OfK f) w) n (λ i u. negated_turned x i) in
    rw (length-map x neg)
    (given_turned _ _ (given_turned _ _ (cond_turned (eqb n 0) (answers nought_turned) (given_turned _ _ (given_turned _ _ (answers row))))))

-- ---- the fused layers

-- a row of the readings, negated
reading_row_turned : (s : Shape) (x : List Float) (b i : ℕ) → i < s.in_feat → Turned (get_or (reading_row (negated x) s b) i nan) (get_or (reading_row x s b) i nan)
reading_row_turned s x b i u =
    let start = b * s.in_feat in
    rw (part_at (negated x) start s.in_feat i nan u, part_at x start s.in_feat i nan u) (negated_turned x (start + i))

-- row b of the readings and row o of the weights
output_turned : (f : FormatK) (s : Shape) (x : List Float) (w : List ℕ) (b o : ℕ)
    → Turned (fused_dot_at f (reading_row (negated x) s b) w s.in_feat o) (fused_dot_at f (reading_row x s b) w s.in_feat o)
output_turned f s x w b o =
    row_turned (reading_row (negated x) s b) (reading_row x s b) (weight_at (OfK f) (weight_row f w s.in_feat o)) s.in_feat (reading_row_turned s x b)

filled_at : (p : ℕ → Float) (y : List Float) (n k : ℕ) → k < n → get_or (filled p y n) k nan ≡ p k
filled_at p y n k u = get_or-append (table p n) (drop n y) nan k (rw length_table u) ∙ get_or_table p n k nan u

-- a layer that refuses leaves its memory, and one that works fills n places of it
filled_turned : (n : ℕ) (p q : ℕ → Float) (refusal : Said (Unit {0})) (y : List Float) → ((k : ℕ) → Turned (p k) (q k))
    → LayerTurned n (carried_out refusal (filled p y n) y) (carried_out refusal (filled q y n) y)
unfolding carried_out
filled_turned n p q (Ok tt) y h =
    fills {y = filled p y n} {z = filled q y n} (λ k u. rw (filled_at p y n k u, filled_at q y n k u) (h k))
    (drop_at (table p n) (drop n y) n (length_table p n) ∙ sym (drop_at (table q n) (drop n y) n (length_table q n)))
filled_turned n p q (Err why) y h = leaves why y

fused_layer_negated : (f : FormatK) (s : Shape) (x : List Float) (w : List ℕ) (y : List Float)
    → LayerTurned (s.batch * s.out_feat) (fused_layer_says f s (negated x) w y) (fused_layer_says f s x w y)
unfolding fused_layer_says outputs
fused_layer_negated f s x w y =
    rw (length-map x neg)
    (filled_turned (s.batch * s.out_feat) _ _ _ y (λ k. output_turned f s x w (k / s.out_feat) (k % s.out_feat)))

-- ---- the law

pub negation : NegationLaw
negation =
    record { compares = turned_agree; rows = row_negated; dots = dot_negated; fused_dots = fused_dot_negated; fused_layers = fused_layer_negated }
