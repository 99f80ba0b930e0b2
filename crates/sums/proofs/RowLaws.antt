-- Laws of chunks and rows, over any terms p, and a dot that does not refuse. Assumes nothing.
use mathlib.Core.Path.{◌≡◌, refl, sym, ap, ◌∙◌}
use mathlib.Core.List.{List}
use Prim.Native.Nat.{ℕ, zero, suc, ◌+◌, ◌-◌, ◌*◌, ◌≤◌, ◌<◌}
use native.Mathlib.Nat.{min-le_right}
use native.Mathlib.Omega.{arith}
use borrow.Author.Tests.{le-ltb, ne_eqb}
use lib.ListN.{length, take, drop, set}
use lib.Seq.{take_at}
use lib.Ieee.{Float}
use Rattle.refusals.specs.Refusals.{given}
use Rattle.refusals.specs.Sizes.{most_in}
use Rattle.std.proofs.Common.{Ok}
use Rattle.memory.specs.Lists.{table, filled}
use Rattle.memory.proofs.Filled.{length_table, table_ext, Filling, filling_start, filling_more}
use Rattle.sums_tree.specs.Tree.{tree, met, pair_up, combined}
use Rattle.sums_lanes.specs.Lanes.{products, lanes, chunk_sum}
use Rattle.sums.specs.Rows.{chunks_in, chunk_length, chunk_at, row_sum}
use Rattle.sums.specs.Says.{dot_says}
use Rattle.sums_lanes.proofs.LaneLaws.{lanes_cong}

-- a chunk sum depends on the terms below n alone
pub chunk_cong : (p q : ℕ → Float) (n : ℕ) → ((i : ℕ) → i < n → p i ≡ q i) → chunk_sum p n ≡ chunk_sum q n
unfolding chunk_sum lanes
chunk_cong p q n h = ap tree (lanes_cong _ p q n h)

-- and so does a row sum
pub row_cong : (p q : ℕ → Float) (n : ℕ) → ((i : ℕ) → i < n → p i ≡ q i) → row_sum p n ≡ row_sum q n
unfolding row_sum chunk_at
row_cong p q n h =
    ap tree (table_ext _ _ (chunks_in n) (λ c b. chunk_cong _ _ (chunk_length n c) (λ i u. h (8192 * c + i) (omega (arith, min-le_right 8192 (n - 8192 * c))))))

-- A chunk sum by place: the k terms of chunk c, q, are those of the row, p, from the chunk's start on.
pub chunk_part : (p q : ℕ → Float) (n c k : ℕ) → k ≡ chunk_length n c → ((i : ℕ) → i < k → q i ≡ p (8192 * c + i)) → chunk_sum q k ≡ chunk_at p n c
unfolding chunk_at
chunk_part p q n c k e h = chunk_cong q (λ i. p (8192 * c + i)) k h ∙ ap (chunk_sum (λ i. p (8192 * c + i))) e

-- a tree of one is what stands in it
tree_of_one : (f : ℕ → Float) → tree (table f 1) ≡ f 0
unfolding tree met pair_up table
tree_of_one f = refl

-- A row of one chunk: its sum is the chunk's.
pub one_chunk : (p : ℕ → Float) (n : ℕ) → 0 < n → n ≤ 8192 → chunk_sum p n ≡ row_sum p n
unfolding row_sum
one_chunk p n some few =
    let one : chunks_in n ≡ 1 = omega arith in
    let all : chunk_length n 0 ≡ n = omega arith in
    chunk_part p p n 0 n (sym all) (λ i u. ap p (omega arith)) ∙ sym (tree_of_one (chunk_at p n)) ∙ sym (ap (λ (k : ℕ). tree (table (chunk_at p n) k)) one)

-- ---- the sums of a row's chunks in an array of 16, which held old: after c of them it is sums

abbrev pub Chunking : (ℕ → Float) → ℕ → List Float → List Float → ℕ → Type 0
Chunking p n old sums c = (c ≤ chunks_in n) × Filling (chunk_at p n) old 16 sums c

pub chunking_start : (p : ℕ → Float) (n : ℕ) (old : List Float) → length old ≡ 16 → Chunking p n old old 0
chunking_start p n old e = (omega arith, filling_start (chunk_at p n) old 16 e)

pub chunking_more : (p : ℕ → Float) (n : ℕ) (old sums : List Float) (c : ℕ) (v : Float) → length old ≡ 16 → n ≤ most_in → c < chunks_in n → v ≡ chunk_at p n c
    → Chunking p n old sums c → Chunking p n old (set sums c v) (c + 1)
chunking_more p n old sums c v e m h q w = (omega arith, filling_more (chunk_at p n) old 16 sums c v e w.1 (omega arith) q)

-- The row sum as the tree over chunk sums: `canonical_combine`, handed the first k places of sums, one for each chunk, answers it.
pub chunking_met : (p : ℕ → Float) (n : ℕ) (old sums left : List Float) (c k : ℕ) (r : Float) → c ≡ k → k ≡ chunks_in n → (r, left) ≡ combined (take k sums)
    → Chunking p n old sums c → r ≡ row_sum p n
unfolding row_sum
chunking_met p n old sums left c k r b e g w =
    ap (λ (q : Float × List Float). q.0) g
    ∙ ap (λ (l : List Float). tree (take k l)) (w.1.0 ∙ ap (filled (chunk_at p n) old) b)
    ∙ ap tree (take_at (table (chunk_at p n) k) (drop k old) k (length_table (chunk_at p n) k))
    ∙ ap (λ (m : ℕ). tree (table (chunk_at p n) m)) e

-- ---- the dot of as many readings as weights never refuses

not_nought : (m : ℕ) → suc m ≡ 0 → ⊥
not_nought m e = omega arith

pub dot_answers : (x w : List Float) (n : ℕ) → n ≤ most_in → n ≤ length x → n ≤ length w → dot_says x w n ≡ Ok (row_sum (products x w) n)
unfolding dot_says given row_sum tree met table
dot_answers x w zero most enough e = refl
dot_answers x w (suc m) most enough e = simp (le-ltb _ _ most, ne_eqb _ _ (not_nought m), le-ltb _ _ e, le-ltb _ _ enough)
