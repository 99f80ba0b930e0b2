-- What is known where a converter does not refuse. Assumes nothing.
use mathlib.Core.Path.{◌≡◌}
use Prim.Native.Nat.{ℕ, ◌%◌, ◌≤◌}
use borrow.Author.Tests.{ltb-false, eqb-true, not-false}
use Rattle.refusals.specs.Said.{done}
use Rattle.refusals.proofs.Laws.{given_passed}
use Rattle.converters.specs.Says.{convert_refusal}

pub whole_and_room : (n room : ℕ) → convert_refusal n room ≡ done → (n % 18 ≡ 0) × (n ≤ room)
unfolding convert_refusal
whole_and_room n room e =
    let passed = given_passed _ _ _ _ (given_passed _ _ _ _ e).1 in
    (eqb-true _ _ (not-false _ passed.0), ltb-false _ _ (given_passed _ _ _ _ passed.1).0)
