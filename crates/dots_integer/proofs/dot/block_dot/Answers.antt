-- `dot::block_dot` meets its contract: formats with minimums by their products, and Q6_K by its runs. Assumes nothing.
use mathlib.Core.Path.{◌≡◌, refl, ap, ◌∙◌}
use mathlib.Core.Bool.{true}
use mathlib.Core.List.{List}
use mathlib.Core.Logic.{◌⊎◌, ⊎_elim}
use Prim.Native.Nat.{ℕ}
use mir.Syntax.{w8}
use mir.Val.{Fits}
use lib.IntN.{ℤ, pos}
use lib.ListN.{length, get_or}
use Rattle.layouts.specs.Formats.{has_minimums}
use Rattle.layouts.specs.declared.format.FormatK.{FormatK}
use Rattle.layouts.specs.declared.format.FormatK.TheVariants.{Q4K, Q5K, Q6K}
use Rattle.k_quants.proofs.LaidOut.{laid_out_at, Laid, laid}
use Rattle.dots_whole.specs.Inner.{FiveBits}
use Rattle.dots_integer.proofs.Dots.{of_laid_out, Made, of_made}
use Rattle.dots_integer.proofs.Bounds.{five_bits}
use Rattle.dots_integer.proofs.dot.block_dot.Goals.{in-Q5K, in_default}
use Rattle.dots_integer.proofs.dot.block_dot.Goals as goal

-- a format with minimums
minimums : {f : FormatK} → (f ≡ Q4K) ⊎ (f ≡ Q5K) → has_minimums f ≡ true
minimums h = ⊎_elim (λ e. ap has_minimums e) (λ e. ap has_minimums e) h

-- the other arm is Q4_K's
left : {f : FormatK} → (f ≡ Q4K) ⊎ (f ≡ Q5K) → (f ≡ Q5K → ⊥) → f ≡ Q4K
left h n = ⊎_elim (λ e. e) (λ e. absurd (n e)) h

-- its whole numbers serve to make the products
serve : (f : FormatK) (w : List ℕ) (x : List ℤ) {q : List ℕ} → ((i : ℕ) → Fits w8 (get_or w i 0)) → has_minimums f ≡ true → length x ≡ 256 → Laid f w q → FiveBits q × (length q ≡ 256) × (length x ≡ 256)
serve f w x {q} small m h l = (five_bits w (λ i. (small i).fits) f q m l, l.0, h)

pub products-p-requires : goal.products-p-requires
products-p-requires c = serve c.args.format c.args.w.now c.args.qs.now c.type_inv.w (minimums c.in-Q4K.is) c.requires.1 (laid Q5K _ c.in-Q5K.is c.quants_q5k.ensures (λ i. refl))

pub products-p-requires-in_default : goal.products-p-requires-in_default
products-p-requires-in_default c = serve c.args.format c.args.w.now c.args.qs.now c.type_inv.w (minimums c.in-Q4K.is) c.requires.1 (laid Q4K _ (left c.in-Q4K.is c.in_default.not-Q5K) c.quants_q4k.ensures (λ i. refl))

-- the products of either are made of the block's whole numbers
pub returns-after-format-2 : goal.returns-after-format-2
returns-after-format-2 c =
    let m : Made c.args.format c.args.w.now c.args.qs.now c.match-format-2.p =
    elim c.match-format-2.branch [
      | in-Q5K w ↦ record { quants = w.quants_q5k.result; own = laid Q5K _ w.in-Q5K.is w.quants_q5k.ensures (λ i. refl); pairs = rw w.p-is w.products-p.ensures }
      | in_default w ↦ record { quants = w.quants_q4k.result; own = laid Q4K _ (left c.in-Q4K.is w.in_default.not-Q5K) w.quants_q4k.ensures (λ i. refl); pairs = rw w.p-is w.products-p-in_default.ensures }
    ] in
    c.dot_of_products.ensures ∙ of_made c.args.d c.args.sums.now (minimums c.in-Q4K.is) m

pub returns-in-Q6K : goal.returns-in-Q6K
returns-in-Q6K c =
    let a = c.args in
    let e = c.in-Q6K.is in
    let q = c.quants_q6k-q in
    c.dot_of_runs.ensures
    ∙ of_laid_out Q6K a.format a.w.now a.d a.qs.now a.sums.now (λ i. get_or q.result i (pos 0)) (ap has_minimums e) (laid_out_at Q6K a.w.now (λ z. z) (pos 0) e q.ensures (λ i. refl))
