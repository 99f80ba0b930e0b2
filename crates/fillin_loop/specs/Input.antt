-- The bytes of a buffer that have come and are not answered yet. Definitions only.
use Rattle.std.specs.Prelude.{ℕ, ◌-◌, ◌≤◌, ◌≡◌, true, List, length, take}
use Rattle.memory.specs.Lists.{part}
use Rattle.fillin_loop.specs.declared.input.Unread.{Unread}

-- the bytes themselves
abbrev pub unread_in : List ℕ → Unread → List ℕ
unread_in buf u = part buf u.from (u.to - u.from)

-- their places are places of the buffer
pub record InBuffer (buf : List ℕ) (u : Unread) : Type 0 where
  pub in_order : u.from ≤ u.to
  pub inside : u.to ≤ length buf

-- after a read: they stand in front of what came, and nothing came where the input has ended
pub record ReadOn (before : List ℕ) (u : Unread) (after : List ℕ) (r : Unread) : Type 0 where
  pub within : InBuffer after r
  pub kept : take (length (unread_in before u)) (unread_in after r) ≡ unread_in before u
  pub nothing_more : r.ended ≡ true → unread_in after r ≡ unread_in before u
