-- A zero that keeps its sign: readings 1, 1 and weights 1, -1 give +0.0, and so do readings -1, -1, where the negated dot is -0.0. So the law of negation is none of bits. Assumes nothing.
use mathlib.Core.Path.{◌≡◌, refl, sym, ◌∙◌}
use mathlib.Core.Bool.{true, false}
use mathlib.Core.List.{List, [], ◌∷◌}
use Prim.Native.Nat.{ℕ}
use native.Mathlib.Omega.{arith}
use lib.IntN.{pos}
use lib.Ieee.{Float, fin, binary32, of_bits, neg, add, mul}
use Rattle.refusals.specs.Said.{uncounted}
use Rattle.refusals.specs.Refusals.{given}
use Rattle.std.proofs.Common.{Ok, Err}
use Rattle.refusals.specs.declared.refusal.Refusal.TheVariants.{ReadingsShort}
use Rattle.memory.specs.Lists.{table}
use Rattle.sums_tree.specs.Tree.{tree, met, pair_up}
use Rattle.sums_lanes.specs.Lanes.{add_to, lanes_from, lanes, chunk_sum}
use Rattle.sums.specs.Rows.{chunk_at, row_sum}
use Rattle.sums.specs.Says.{dot_says}
use Rattle.dots_laws.specs.Laws.{negated}

-- 1, 1
abbrev readings : List Float
readings = of_bits binary32 0x3f80_0000 ∷ of_bits binary32 0x3f80_0000 ∷ []

-- 1, -1
abbrev weights : List Float
weights = of_bits binary32 0x3f80_0000 ∷ of_bits binary32 0xbf80_0000 ∷ []

pub before : dot_says readings weights 2 ≡ Ok (of_bits binary32 0x0000_0000)
unfolding dot_says given row_sum chunk_at chunk_sum lanes lanes_from add_to tree met pair_up table add mul of_bits
before = refl

pub after : dot_says (negated readings) weights 2 ≡ Ok (of_bits binary32 0x0000_0000)
unfolding dot_says given row_sum chunk_at chunk_sum lanes lanes_from add_to tree met pair_up table add mul neg of_bits
after = refl

-- the first negated is another float
pub negated_before : neg (of_bits binary32 0x0000_0000) ≡ of_bits binary32 0x8000_0000
unfolding neg of_bits
negated_before = refl

pub not_by_bits : dot_says (negated readings) weights 2 ≡ Ok (of_bits binary32 0x8000_0000) → ⊥
unfolding of_bits
not_by_bits e =
    let b : Ok (fin false 0 (pos 0)) ≡ Ok (fin true 0 (pos 0)) = sym after ∙ e in
    let z : ◌≡◌ {A = ℕ} 0 1 = cc in
    omega arith

-- ---- and why an exchange needs n values on both sides

pub short_of_readings : dot_says [] weights 2 ≡ Err ReadingsShort
unfolding dot_says given
short_of_readings = refl

pub short_of_weights : dot_says weights [] 2 ≡ Err uncounted
unfolding dot_says given
short_of_weights = refl
