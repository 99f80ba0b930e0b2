-- The pairwise tree: neighbours are added, an odd last one moves up, until one is left; an empty tree is +0.0.
-- Definitions only.
use Rattle.std.specs.Prelude.{List, [], ◌∷◌, ◌++◌, ℕ, zero, suc, ◌+◌, ◌/◌, length, get_or, take, drop, Float}
use Rattle.std.specs.Float.Ieee.{add}
use Rattle.std.specs.Float.{binary32}
use Rattle.numbers.specs.Steps.{nought}

-- one round: neighbours are added, an odd last one moves up
unfoldable pub pair_up : List Float → List Float
pair_up [] = []
pair_up (a ∷ []) = a ∷ []
pair_up (a ∷ b ∷ r) = add binary32 a b ∷ pair_up r

-- what k rounds leave at the front, +0.0 where there is nothing; a round over one place keeps it, so more rounds than
-- are needed change nothing
unfoldable pub met : ℕ → List Float → Float
met zero l = get_or l 0 nought
met (suc k) l = met k (pair_up l)

-- until one is left: each round leaves half, rounded up, so as many rounds as there are places are enough
unfoldable pub tree : List Float → Float
tree l = met (length l) l

-- in place, k rounds, the first over the m places at the front: each round fills the front half, (m + 1) / 2 places,
-- and leaves the places behind
unfoldable pub settled : ℕ → ℕ → List Float → List Float
settled zero m l = l
settled (suc k) m l = settled k ((m + 1) / 2) (pair_up (take m l) ++ drop ((m + 1) / 2) l)

-- what the tree over all of a slice leaves in the slice
unfoldable pub tree_leaves : List Float → List Float
tree_leaves l = settled (length l) (length l) l

-- `canonical_combine`: what it answers, and what it leaves in its caller's slice
abbrev pub combined : List Float → Float × List Float
combined l = (tree l, tree_leaves l)
