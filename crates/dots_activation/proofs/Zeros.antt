-- A list of zeros whose front is filled. Assumes nothing.
use mathlib.Core.Path.{◌≡◌, sym, ◌∙◌}
use Prim.Native.Nat.{ℕ, ◌≤◌, ◌<◌}
use native.Mathlib.Omega.{arith}
use native.Mathlib.Decide.{dec_lt}
use lib.IntN.{ℤ, pos}
use lib.ListN.{length, get_or, drop, replicate, length-replicate, get_or-replicate, get_or-append}
use lib.Seq.{ext_get_or}
use Rattle.memory.specs.Lists.{table, filled}
use Rattle.memory.proofs.Filled.{length_table, get_or_table, length_filled, filled_behind}

-- filled by f up to n, where f is 0 from there on: all of it is f's
pub zeros_behind : (f : ℕ → ℤ) (n N : ℕ) → n ≤ N → ((i : ℕ) → n ≤ i → i < N → f i ≡ pos 0) → filled f (replicate N (pos 0)) n ≡ table f N
zeros_behind f n N h e =
    ext_get_or (pos 0) (filled f (replicate N (pos 0)) n) (table f N) (long ∙ sym (length_table f N)) (λ i p. at i (rw long at p) ∙ sym (get_or_table f N i (pos 0) (rw long at p)))
  where
    long : length (filled f (replicate N (pos 0)) n) ≡ N
    long = length_filled f (replicate N (pos 0)) n (rw length-replicate h) ∙ length-replicate N (pos 0)

    at : (i : ℕ) → i < N → get_or (filled f (replicate N (pos 0)) n) i (pos 0) ≡ f i
    at i p = by (dec_lt i n)
      where
        by : Dec (i < n) → get_or (filled f (replicate N (pos 0)) n) i (pos 0) ≡ f i
        by (yes q) = get_or-append (table f n) (drop n (replicate N (pos 0))) (pos 0) i (rw length_table q) ∙ get_or_table f n i (pos 0) q
        by (no q) =
            let b : n ≤ i = omega arith in
            filled_behind f (replicate N (pos 0)) n i (pos 0) b ∙ get_or-replicate N i (pos 0) (pos 0) p ∙ sym (e i b p)
