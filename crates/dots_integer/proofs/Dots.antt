-- A whole-number sum turned to a float and scaled, from what the calls gave, a block whose quants are laid out, one whose products are made, and one whose quants are 0 from some place on. Assumes nothing.
use mathlib.Core.Path.{◌≡◌, sym, ap, ◌∙◌, subst}
use mathlib.Core.Bool.{true}
use mathlib.Core.List.{List}
use Prim.Native.Nat.{ℕ, ◌≤◌, ◌<◌, min}
use native.Mathlib.Omega.{arith}
use lib.IntN.{ℤ, pos}
use lib.Ieee.{Float, binary32, mul, sub, of_int}
use Rattle.memory.specs.Lists.{table}
use Rattle.layouts.specs.Formats.{has_minimums}
use Rattle.layouts.specs.K.{quant_k}
use Rattle.layouts.specs.declared.format.FormatK.{FormatK}
use Rattle.layouts.specs.declared.format.FormatK.TheVariants.{Q4K}
use Rattle.k_quants.proofs.LaidOut.{Laid}
use Rattle.dots_activation.specs.Whole.{elem, sum_ℤ}
use Rattle.dots_activation.specs.Inner.{pair_of, PairsWithin}
use Rattle.dots_activation.specs.Blocks.{zeros_past, count_serves}
use Rattle.dots_activation.proofs.Past.{zero_past, serves_are}
use Rattle.dots_whole.specs.Sums.{weighed_at}
use Rattle.dots_whole.specs.Inner.{product_at, pairs_weighed}
use Rattle.dots_whole.proofs.Runs.{byte_of, laid_out, sum_below}
use Rattle.dots_whole.proofs.Lanes.{pairs_weigh}
use Rattle.dots_integer.specs.Dots.{scaled_sum, scaled_dot, block_dot}

-- h is the scale d, and a the float of s, which is the sum z
pub scaled_is : {h a d : Float} {s z : ℤ} (dx : Float) → h ≡ d → a ≡ of_int binary32 s → s ≡ z → mul binary32 (mul binary32 h dx) a ≡ scaled_sum d dx z
scaled_is {h} {a} {d} dx p q r = ap (λ (v : Float). mul binary32 (mul binary32 v dx) a) p ∙ ap (λ (v : Float). mul binary32 (mul binary32 d dx) v) (q ∙ ap (of_int binary32) r)

pub less_is : {a b x y : Float} → a ≡ x → b ≡ y → sub binary32 a b ≡ sub binary32 x y
less_is {a} {b} {x} {y} p q = ap (λ (v : Float). sub binary32 v b) p ∙ ap (sub binary32 x) q

-- how a whole-number sum is scaled goes by whether a format has minimums
same_dot : (f g : FormatK) (w : List ℕ) (dx : Float) (sums : List ℤ) (z : ℤ) → has_minimums g ≡ has_minimums f → scaled_dot f w dx sums z ≡ scaled_dot g w dx sums z
same_dot f g w dx sums z e = rw e

-- the dot over quants q that are the block's own in the format g, which has minimums where f has
pub of_laid_out : (f g : FormatK) (w : List ℕ) (dx : Float) (qs sums : List ℤ) (q : ℕ → ℤ) → has_minimums g ≡ has_minimums f → ((i : ℕ) → i < 256 → q i ≡ quant_k g w i)
    → scaled_dot f w dx sums (sum_ℤ (weighed_at f w q qs) 256) ≡ block_dot g w dx qs sums 256
unfolding block_dot
of_laid_out f g w dx qs sums q e W = ap (scaled_dot f w dx sums) (laid_out f w q qs g (quant_k g w) e W) ∙ same_dot f g w dx sums _ e

-- pairs p of products, each within 7936, of bytes that are the block's own quants in the format g
pub record Made (g : FormatK) (w : List ℕ) (qs p : List ℤ) : Type 0 where
  pub quants : List ℕ
  pub own : Laid g w quants
  pub pairs : (p ≡ table (pair_of (product_at quants qs)) 128) × PairsWithin 7936 p

-- the dot over them
pub of_made : {g : FormatK} {w : List ℕ} {qs p : List ℤ} (dx : Float) (sums : List ℤ) → has_minimums g ≡ true → Made g w qs p → scaled_dot Q4K w dx sums (pairs_weighed w p) ≡ block_dot g w dx qs sums 256
of_made {g} {w} {qs} {p} dx sums e m = ap (scaled_dot Q4K w dx sums) (pairs_weigh w p m.quants qs m.pairs.0) ∙ of_laid_out Q4K g w dx qs sums (byte_of m.quants) e m.own.1

-- quants that are 0 from n on: the dot over all places is the dot over those below n
pub dot_below : (f : FormatK) (w : List ℕ) (dx : Float) (qs sums : List ℤ) (n : ℕ) → n ≤ 256 → ((i : ℕ) → n ≤ i → i < 256 → elem qs i ≡ pos 0)
    → block_dot f w dx qs sums 256 ≡ block_dot f w dx qs sums n
unfolding block_dot
dot_below f w dx qs sums n h z = ap (scaled_dot f w dx sums) (sum_below f w (quant_k f w) qs n h z)

-- a block that serves n places: its dot over all places is the dot over those below n
pub served_below : (f : FormatK) (w : List ℕ) (dx : Float) (qs sums : List ℤ) (count n : ℕ) → count_serves qs count n ≡ true
    → block_dot f w dx qs sums 256 ≡ block_dot f w dx qs sums (min n 256)
served_below f w dx qs sums count n s =
    let t = serves_are qs count n s in
    dot_below f w dx qs sums (min n 256) (omega arith) (zero_past qs (min n 256) (subst (λ (k : ℕ). zeros_past qs k ≡ true) (sym t.0) t.1))
