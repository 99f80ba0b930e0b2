-- Lanes that grow by runs of terms, and a K block's terms in its runs. Assumes nothing.
use mathlib.Core.Path.{◌≡◌, sym, ap, ◌∙◌}
use Prim.Native.Nat.{ℕ, ◌+◌, ◌*◌, ◌/◌, ◌%◌, ◌≤◌, ◌<◌}
use native.Mathlib.Nat.{zero-mul, le_of_eq}
use native.Mathlib.Omega.{arith}
use mathlib.Core.List.{List}
use lib.IntN.{ℤ, pos}
use lib.ListN.{length, get_or}
use lib.Seq.{take_all}
use lib.Ieee.{Float, nan, binary32, mul}
use Rattle.memory.specs.Lists.{table, part}
use Rattle.memory.proofs.Filled.{part_at}
use Rattle.layouts.specs.Formats.{bytes_k, has_minimums}
use Rattle.layouts.specs.K.{quant_k, value_k, d_scale, value_of}
use Rattle.layouts.specs.Weights.{weight_at}
use Rattle.layouts.specs.declared.format.FormatK.{FormatK}
use Rattle.layouts.specs.declared.format.FormatK.TheVariants.{Q4K, Q6K}
use Rattle.layouts.specs.declared.format.Format.TheVariants.{OfK}
use Rattle.layouts.proofs.Minimums.{same_value}
use Rattle.k_scales.specs.Both.{scale_then_minimum}
use Rattle.k_scales.proofs.Both.{scale_at, minimum_at}
use Rattle.decoded_blocks.proofs.Runs.{run_of_16}
use Rattle.sums_lanes.specs.Lanes.{lanes_from}
use Rattle.sums_lanes.proofs.LaneLaws.{lanes_cong, lanes_block}
use Rattle.dots_fused_block.specs.Terms.{terms}
use Rattle.dots_fused_block.specs.Inner.{block_terms, sub_block_terms, run_terms}

-- a block is a run of one block
pub one_block : (f : FormatK) (bs : List ℕ) (i : ℕ) → length bs ≡ bytes_k f → i < 256 → weight_at (OfK f) bs i ≡ value_k f bs i
unfolding weight_at
one_block f bs i e h =
    let b : i / 256 ≡ 0 = omega arith in
    let l : i % 256 ≡ i = omega arith in
    rw (b, l, zero-mul (bytes_k f), take_all (bytes_k f) bs (le_of_eq e))

-- k terms more, after m of them, a multiple of 8: q has them, and p, the whole's terms, has them from m on
pub run_more : (l out next : List Float) (p q : ℕ → Float) (m k t : ℕ) → m % 8 ≡ 0 → m + k ≡ t → ((i : ℕ) → i < k → q i ≡ p (m + i)) → next ≡ lanes_from out q k → out ≡ lanes_from l p m
    → next ≡ lanes_from l p t
run_more l out next p q m k t h s e n o = n ∙ lanes_block l out p q m k h e o ∙ ap (lanes_from l p) s

-- ---- count runs of k terms: after e of them the lanes are out

abbrev pub Grown : List Float → (ℕ → Float) → ℕ → ℕ → List Float → ℕ → Type 0
Grown l p k count out e = (e ≤ count) × (out ≡ lanes_from l p (k * e))

pub grown_more : (l out next : List Float) (p q : ℕ → Float) (k count e : ℕ) → k * e % 8 ≡ 0 → k * e + k ≡ k * (e + 1) → e < count → ((i : ℕ) → i < k → q i ≡ p (k * e + i)) → next ≡ lanes_from out q k
    → Grown l p k count out e → Grown l p k count next (e + 1)
grown_more l out next p q k count e h s u t n g = (omega arith, run_more l out next p q (k * e) k (k * (e + 1)) h s t n g.1)

pub grown_done : (l out : List Float) (p : ℕ → Float) (k count e : ℕ) → count ≤ e → Grown l p k count out e → out ≡ lanes_from l p (k * count)
grown_done l out p k count e h g = let d : e ≡ count = omega arith in rw d at g.1

-- ---- the terms of parts are those of the wholes from the parts' start on

pub sub_block_part : (x : List Float) (q : List ℕ) (d m : Float) (s k i : ℕ) → i < k → sub_block_terms (part x s k) (part q s k) d m i ≡ sub_block_terms x q d m (s + i)
sub_block_part x q d m s k i h = rw (part_at x s k i nan h, part_at q s k i 0 h)

pub run_part : (x : List Float) (q : List ℤ) (d : Float) (s k i : ℕ) → i < k → run_terms (part x s k) (part q s k) d i ≡ run_terms x q d (s + i)
run_part x q d s k i h = rw (part_at x s k i nan h, part_at q s k i (pos 0) h)

-- ---- a block's terms

module _ (x : List Float) (bs : List ℕ) where
  -- sub-block j of eight, from `at` on
  pub sub_block_terms_lem : (at j k i : ℕ) (s : List Float) (q : List ℕ) → at ≡ 32 * j → k ≡ 32 → j < 8 → i < k → s ≡ table (scale_then_minimum bs) 16
      → sub_block_terms (part x at k) (part q at k) (get_or s j nan) (get_or s (j + 8) nan) i ≡ block_terms Q4K x bs (λ n. pos (get_or q n 0)) (32 * j + i)
  sub_block_terms_lem at j k i s q A K u h S =
      let e : (32 * j + i) / 32 ≡ j = omega arith in
      rw (A, sub_block_part x q (get_or s j nan) (get_or s (j + 8) nan) (32 * j) k i h, e, scale_at bs j u s S, minimum_at bs j u s S)

  -- run e of sixteen
  pub run_terms_lem : (e k i : ℕ) (s : List Float) (q : List ℤ) → k ≡ 16 → e < 16 → i < k → s ≡ table (d_scale Q6K bs) 16
      → run_terms (part x (16 * e) k) (part q (16 * e) k) (get_or s e nan) i ≡ block_terms Q6K x bs (λ n. get_or q n (pos 0)) (16 * e + i)
  run_terms_lem e k i s q K u h S = rw (part_at x (16 * e) k i nan h, run_of_16 bs e i k K u (omega arith) s q S)

  -- all of them, of whole numbers q that are the block's own in the format g, which has minimums where f has
  pub laid_out : (f g : FormatK) (l : List Float) (q : ℕ → ℤ) → has_minimums g ≡ has_minimums f → length bs ≡ bytes_k g → ((i : ℕ) → i < 256 → q i ≡ quant_k g bs i)
      → lanes_from l (block_terms f x bs q) 256 ≡ lanes_from l (terms g x bs) 256
  laid_out f g l q e b W =
      lanes_cong l _ _ 256
      (λ i h. ap (mul binary32 (get_or x i nan)) (ap (value_of f bs i) (W i h) ∙ same_value f g bs i (quant_k g bs i) e ∙ sym (one_block g bs i b h)))
