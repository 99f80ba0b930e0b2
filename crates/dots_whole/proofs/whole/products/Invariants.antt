-- `whole::products` meets its contract: in turn g the 32 pairs of part g are filled. Assumes nothing.
use Prim.Native.Nat.{ℕ, ◌+◌, ◌*◌, ◌<◌}
use lib.IntN.{ℤ}
use Rattle.memory.proofs.Parts.{InParts}
use Rattle.dots_activation.specs.Whole.{Within}
use Rattle.dots_activation.specs.Inner.{pair_of}
use Rattle.dots_whole.specs.Inner.{product_at}
use Rattle.dots_whole.proofs.whole.products.Given as goal

-- the pairs of the parts before g are within 7936
abbrev pub Near : (ℕ → ℤ) → ℕ → Type 0
Near f g = (k : ℕ) → k < g → (i : ℕ) → i < 32 → Within 7936 (f (32 * k + i))

abbrev pub invariant-loop-g : goal.invariant-loop-g
invariant-loop-g l = InParts (pair_of (product_at l.q l.x)) l.initial.p (λ k. 32 * k) 4 l.p l.g × Near (pair_of (product_at l.q l.x)) l.g
