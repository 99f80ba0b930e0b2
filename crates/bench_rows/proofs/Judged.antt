-- What the program is to judge of a row, in terms of what the calls answer. Assumes nothing.
use mathlib.Core.Path.{◌≡◌, refl, sym, ap, ◌∙◌}
use mathlib.Core.Bool.{true}
use mathlib.Core.List.{List, [], ◌∷◌}
use Prim.Native.Nat.{ℕ, ◌-◌}
use native.Mathlib.Omega.{arith}
use lib.ListN.{length, get_or, replicate, get_or-map}
use lib.IntN.{pos}
use lib.Ieee.{Float}
use borrow.Author.Tests.{eq-eqb, le-ltb}
use Rattle.refusals.specs.Said.{Said}
use Rattle.refusals.specs.Refusals.{given, or_else, carried_out}
use Rattle.refusals.specs.declared.refusal.Refusal.{Refusal}
use Rattle.refusals.proofs.Laws.{apart}
use Rattle.std.proofs.Common.{Ok, Err}
use Rattle.memory.specs.Lists.{filled}
use Rattle.memory.proofs.Filled.{length_filled}
use Rattle.quantizers.specs.Says.{packed_at, quantize_refusal, quantize_says}
use Rattle.quantizers.specs.Lost.{lost_by}
use Rattle.quantizers.specs.declared.lost.Lost.{Lost}
use Rattle.quantizers.specs.declared.target.Target.TheVariants.{Q40}
use Rattle.sums.specs.Says.{sum_says}
use Rattle.numbers.specs.Steps.{nought}
use Rattle.dots_activation.specs.Blocks.{block_in, block_of, block_says}
use Rattle.dots_activation.specs.declared.block.Q8Block.{Q8Block}
use Rattle.memory.proofs.Every.{every_all}
use Rattle.replay_answers.specs.Same.{same_bytes}
use Rattle.bench_rows.specs.Card.{Row, row, widen, floats, value_bits, written_by, first_quants, quants_by, answer, card, row_at, same_numbers, answered}
use Rattle.bench_rows.specs.Rows.{meant, judged}
use Rattle.bench_rows.specs.declared.table.Row.TheVariants.{Packs, Sums, Quantizes}
use Rattle.bench_rows.proofs.Card.{card_holds}

-- ---- Q4_0

-- what `packs` holds its output to
abbrev pub sayings : ℕ → ℕ → ℕ → List ℕ
sayings a b c = a ∷ b ∷ c ∷ replicate 15 0x88

-- the readings of a row
abbrev pub packed_from : ℕ → List Float
packed_from first = floats (first ∷ replicate 31 0)

is_done : (first : ℕ) → quantize_says Q40 (packed_from first) (replicate 18 0) ≡ (Ok (lost_by Q40 (packed_from first)), filled (packed_at Q40 (packed_from first)) (replicate 18 0) 18)
unfolding quantize_says quantize_refusal given or_else carried_out
is_done first = refl

same_length : (xs ys : List ℕ) → length xs ≡ length ys → same_bytes xs ys ≡ same_numbers xs ys
unfolding same_bytes same_numbers
same_length xs ys h = rw (h, le-ltb (length ys) (length ys) (omega arith), eq-eqb (length ys) (length ys) refl)

module _ (first a b c : ℕ) (o : Said Lost) (out : List ℕ) (e : (o, out) ≡ quantize_says Q40 (packed_from first) (replicate 18 0)) where
  pub packed_done : (why : Refusal) → o ≡ Err why → ⊥
  packed_done why r = apart why _ (sym r ∙ ap (λ (p : Said Lost × List ℕ). p.0) (e ∙ is_done first))

  pub packed_judged : same_bytes out (sayings a b c) ≡ judged (Packs first a b c)
  unfolding judged meant answered answer
  packed_judged =
      let d : out ≡ filled (packed_at Q40 (packed_from first)) (replicate 18 0) 18 = ap (λ (p : Said Lost × List ℕ). p.1) (e ∙ is_done first) in
      let l : length out ≡ 18 = ap length d ∙ length_filled (packed_at Q40 (packed_from first)) (replicate 18 0) 18 (omega arith) in
      same_length out (sayings a b c) l
      ∙ ap (λ (xs : List ℕ). same_numbers xs (sayings a b c)) (d ∙ sym (ap written_by (is_done first)))

-- ---- sums

pub summed : (first bits : ℕ) (s : Said Float) → s ≡ sum_says (floats (first ∷ 0x3F800000 ∷ 0x3F800000 ∷ [])) 3 → same_numbers (value_bits s) (bits ∷ []) ≡ judged (Sums first bits)
unfolding judged meant answered answer
summed first bits s e = ap (λ (t : Said Float). same_numbers (value_bits t) (bits ∷ [])) e

-- ---- activation blocks

pub quantised : (x y inv a b c : ℕ) (s : Said Q8Block) → s ≡ block_says (floats (x ∷ y ∷ 0 ∷ [])) → same_numbers (quants_by 3 s) (inv ∷ a ∷ b ∷ c ∷ []) ≡ judged (Quantizes x y inv a b c)
unfolding judged meant answered answer
quantised x y inv a b c s e = ap (λ (t : Said Q8Block). same_numbers (quants_by 3 t) (inv ∷ a ∷ b ∷ c ∷ [])) e

-- three readings are never refused
pub three_kept : (x y : ℕ) (s : Said Q8Block) (why : Refusal) → s ≡ block_says (floats (x ∷ y ∷ 0 ∷ [])) → s ≡ Err why → ⊥
unfolding block_says given
three_kept x y s why e r = apart why (block_of (floats (x ∷ y ∷ 0 ∷ []))) (sym r ∙ e)

-- a refused block shows what one of zeros does
pub refused_quants : (n : ℕ) (why : Refusal) → quants_by n (Err why) ≡ first_quants n (block_in nought (replicate 256 (pos 0)) (replicate 8 (pos 0)) 0)
refused_quants n why = refl

-- ---- the card

same_themselves : (xs : List ℕ) → same_numbers xs xs ≡ true
unfolding same_numbers
same_themselves xs = rw (eq-eqb (length xs) (length xs) refl) (every_all _ _ (λ i h. eq-eqb (get_or xs i 0) (get_or xs i 0) refl))

-- every row of the card is answered with what it says
pub row_answered : (n : ℕ) → answered (row_at n) ≡ true
unfolding answered row_at answer
row_answered n =
    let f : Row → List ℕ = λ r. answer r.asks in
    let g : Row → List ℕ = λ r. r.says in
    let none = row (widen []) [] in
    let e = sym (get_or-map f card (n - 1) none) ∙ ap (λ (l : List (List ℕ)). get_or l (n - 1) []) card_holds ∙ get_or-map g card (n - 1) none in
    rw e (same_themselves (row_at n).says)
