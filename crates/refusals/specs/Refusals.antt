-- How a call refuses: its checks in their order, and what a refusal leaves. Definitions only.
use Prim.{Unit}
use Rattle.std.specs.Prelude.{Bool, true, false, Ok, Err}
use Rattle.refusals.specs.declared.refusal.Refusal.{Refusal}
use Rattle.refusals.specs.Said.{Said}

-- refused where the check fails the call, and otherwise what comes later
unfoldable pub given : {A : Type 0} → Refusal → Bool → Said A → Said A
given why true later = Err why
given why false later = later

-- what earlier checks refuse, and where they refuse nothing what comes later
unfoldable pub or_else : {A : Type 0} → Said (Unit {0}) → Said A → Said A
or_else (Ok passed) later = later
or_else (Err why) later = Err why

-- A refusal returns its number and leaves all lent memory as it found it: what the call says, and what its memory holds
-- then, `new` where it did its work and `old` where it refused.
unfoldable pub carried_out : {A M : Type 0} → Said A → M → M → Said A × M
carried_out (Ok a) new old = (Ok a, new)
carried_out (Err why) new old = (Err why, old)
