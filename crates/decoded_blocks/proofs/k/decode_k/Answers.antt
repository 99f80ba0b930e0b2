-- `k::decode_k` meets its contract: formats with minimums by their sub-blocks, and Q6_K by its runs. Assumes nothing.
use mathlib.Core.Path.{◌≡◌, refl, ap, ◌∙◌}
use mathlib.Core.Bool.{true}
use mathlib.Core.Logic.{◌⊎◌, ⊎_elim}
use native.Mathlib.Omega.{arith}
use lib.IntN.{pos}
use lib.ListN.{get_or}
use Rattle.layouts.specs.Formats.{bytes_k, has_minimums}
use Rattle.layouts.specs.declared.format.FormatK.{FormatK}
use Rattle.layouts.specs.declared.format.FormatK.TheVariants.{Q4K, Q5K, Q6K}
use Rattle.layouts.specs.declared.format.Format.TheVariants.{OfK}
use Rattle.layouts.proofs.Sizes.{sizes}
use Rattle.k_quants.proofs.LaidOut.{laid_out_at, Laid, laid}
use Rattle.decoded_blocks.proofs.Runs.{of_laid_out}
use Rattle.decoded_blocks.proofs.k.decode_k.Goals.{in-Q5K, in_default}
use Rattle.decoded_blocks.proofs.k.decode_k.Goals as goal

-- the arm of Q4_K and Q5_K has minimums
minimums : (f : FormatK) → (f ≡ Q4K) ⊎ (f ≡ Q5K) → has_minimums f ≡ true
minimums f h = ⊎_elim (λ e. ap has_minimums e) (λ e. ap has_minimums e) h

-- what it leaves without Q5_K is Q4_K
left : (f : FormatK) → (f ≡ Q4K) ⊎ (f ≡ Q5K) → (f ≡ Q5K → ⊥) → f ≡ Q4K
left f h other = ⊎_elim (λ e. e) (λ e. absurd (other e)) h

pub quants_q5k-q-requires : goal.quants_q5k-q-requires
quants_q5k-q-requires c = c.requires.0 ∙ ap bytes_k c.in-Q5K.is

pub quants_q4k-q-requires : goal.quants_q4k-q-requires
quants_q4k-q-requires c = c.requires.0 ∙ ap bytes_k (left c.args.format c.in-Q4K.is c.in_default.not-Q5K)

pub decode_sub_blocks-requires : goal.decode_sub_blocks-requires
decode_sub_blocks-requires c =
    (omega (arith, c.requires.0, sizes (OfK c.args.format)), c.match-format-2.array_long, c.requires.1)

pub quants_q6k-q-requires : goal.quants_q6k-q-requires
quants_q6k-q-requires c = c.requires.0 ∙ ap bytes_k c.in-Q6K.is

pub decode_runs-requires : goal.decode_runs-requires
decode_runs-requires c = (c.requires.0 ∙ ap bytes_k c.in-Q6K.is, omega arith, c.requires.1)

-- the bytes of either are the block's whole numbers
pub returns-after-format-2 : goal.returns-after-format-2
returns-after-format-2 c =
    let f = c.args.format in
    let bs = c.args.block.now in
    let bytes : Laid f bs c.match-format-2.q = elim c.match-format-2.branch [
      | in-Q5K w ↦ laid Q5K bs w.in-Q5K.is (w.q-is ∙ w.quants_q5k-q.ensures) (λ i. refl)
      | in_default w ↦ laid Q4K bs (left f c.in-Q4K.is w.in_default.not-Q5K) (w.q-is ∙ w.quants_q4k-q.ensures) (λ i. refl)
    ] in
    c.decode_sub_blocks.ensures
    ∙ of_laid_out Q4K f bs (λ i. pos (get_or c.match-format-2.q i 0)) (minimums f c.in-Q4K.is) bytes.1

pub returns-in-Q6K : goal.returns-in-Q6K
returns-in-Q6K c =
    let f = c.args.format in
    let e = c.in-Q6K.is in
    c.decode_runs.ensures
    ∙ of_laid_out Q6K f _ (λ i. get_or c.quants_q6k-q.result i (pos 0)) (ap has_minimums e) (laid_out_at Q6K _ (λ z. z) (pos 0) e c.quants_q6k-q.ensures (λ i. refl))
