-- How C is handed what a call says: a number is returned, and what the call gives goes through pointers. Definitions
-- only.
use Rattle.std.specs.Prelude.{ℕ, cond, List, [], ◌∷◌, eqb, Ok, Err}
use Rattle.refusals.specs.declared.refusal.Refusal.{Refusal}
use Rattle.refusals.specs.Said.{Said, number, found_by, needed_by}

-- what is returned: 0, or the number that says no
unfoldable pub number_of : {A : Type 0} → Said A → ℕ
number_of (Ok a) = 0
number_of (Err why) = number why

-- what is returned of a call that fills lent memory, beside what that memory holds then
unfoldable pub numbered : {A M : Type 0} → Said A × M → ℕ × M
numbered (says, memory) = (number_of says, memory)

-- what is returned, beside what stands behind the pointers then: what the call gives, and where it refused what stood
-- there
unfoldable pub laid_out : {A : Type 0} → Said A → A → ℕ × A
laid_out (Ok a) old = (0, a)
laid_out (Err why) old = (number why, old)

-- what a refusal leaves in a call's two block counts: the whole blocks found and needed where weights are short (3),
-- and otherwise what stood there
unfoldable pub blocks_by : Refusal → List ℕ → List ℕ
blocks_by why old = cond (eqb (number why) 3) (found_by why ∷ needed_by why ∷ []) old

-- what stands in them after a call
unfoldable pub blocks_after : {A : Type 0} → Said A → List ℕ → List ℕ
blocks_after (Ok a) old = old
blocks_after (Err why) old = blocks_by why old

-- the three of a call that fills lent memory and counts blocks: the number, what that memory holds, the block counts
unfoldable pub numbered_blocks : {A M : Type 0} → Said A × M → List ℕ → ℕ × (M × List ℕ)
numbered_blocks (says, memory) blocks = (number_of says, (memory, blocks_after says blocks))

-- the three of a call that gives something and counts blocks: the number, what stands behind the pointers, the block
-- counts
unfoldable pub laid_out_blocks : {A : Type 0} → Said A → A → List ℕ → ℕ × (A × List ℕ)
laid_out_blocks says old blocks = let handed = laid_out says old in (handed.0, (handed.1, blocks_after says blocks))

-- the same, beside what lent memory holds then
unfoldable pub laid_out_beside : {A M : Type 0} → Said A × M → A → List ℕ → ℕ × (A × M × List ℕ)
laid_out_beside (says, memory) old blocks =
    let handed = laid_out says old in (handed.0, (handed.1, memory, blocks_after says blocks))
