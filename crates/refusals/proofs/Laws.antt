-- Laws of a chain of checks, of what a refusal leaves, and of a refusal that `?` hands on. Assumes nothing.
use Prim.{Unit}
use Prim.Native.Nat.{ℕ}
use mathlib.Core.Path.{◌≡◌, refl, sym, ap, ◌∙◌}
use mathlib.Core.Bool.{Bool, true, false}
use native.Mathlib.Omega.{arith}
use Rattle.std.proofs.Common.{Ok, Err}
use Rattle.std.specs.Result.{IsErrAnd}
use Rattle.std.proofs.lemmas.Result.{err_from_is_err_and}
use Rattle.refusals.specs.Said.{Said, done}
use Rattle.refusals.specs.declared.refusal.Refusal.{Refusal}
use Rattle.refusals.specs.Refusals.{given, or_else, carried_out}

module _ {A : Type 0} where
  -- no refusal is a value
  pub apart : (why : Refusal) (a : A) → Err why ≡ Ok a → ⊥
  apart why a e = let z : ◌≡◌ {A = ℕ} 0 1 = cc in absurd (omega arith)

  -- ---- a chain of checks

  -- a check that fails the call refuses
  pub given_yes : (why : Refusal) (later : Said A) (fails : Bool) → fails ≡ true → given why fails later ≡ Err why
  unfolding given
  given_yes why later true e = refl
  given_yes why later false e = cc

  -- one that does not leaves it to what comes later
  pub given_no : (why : Refusal) (later : Said A) (fails : Bool) → fails ≡ false → given why fails later ≡ later
  unfolding given
  given_no why later false e = refl
  given_no why later true e = cc

  -- a chain that says a value: its first check passed, and what comes later says it
  pub given_passed : (why : Refusal) (later : Said A) (fails : Bool) (a : A) → given why fails later ≡ Ok a → (fails ≡ false) × (later ≡ Ok a)
  unfolding given
  given_passed why later true a e = absurd (apart why a e)
  given_passed why later false a e = (refl, e)

  -- ---- earlier checks and what comes later

  pub else_first : (first : Said (Unit {0})) (later : Said A) (why : Refusal) → first ≡ Err why → or_else first later ≡ Err why
  unfolding or_else
  else_first (Ok a) later why e = cc
  else_first (Err r) later why e = cc

  pub else_later : (first : Said (Unit {0})) (later : Said A) → first ≡ done → or_else first later ≡ later
  unfolding or_else
  else_later (Ok a) later e = refl
  else_later (Err why) later e = cc

  pub else_passed : (first : Said (Unit {0})) (later : Said A) (a : A) → or_else first later ≡ Ok a → (first ≡ done) × (later ≡ Ok a)
  unfolding or_else
  else_passed (Ok tt) later a e = (refl, e)
  else_passed (Err why) later a e = absurd (apart why a e)

  -- ---- what lent memory holds

  module _ {M : Type 0} (said : Said A) (new old : M) where
    pub carried_value : (a : A) → said ≡ Ok a → carried_out said new old ≡ (Ok a, new)
    unfolding carried_out
    carried_value a e = ap (λ (s : Said A). carried_out s new old) e

    pub carried_refused : (why : Refusal) → said ≡ Err why → carried_out said new old ≡ (Err why, old)
    unfolding carried_out
    carried_refused why e = ap (λ (s : Said A). carried_out s new old) e

  -- what a call says is what its checks and its work gave
  pub carried_said : {M : Type 0} (said : Said A) (new old : M) → (carried_out said new old).0 ≡ said
  unfolding carried_out
  carried_said (Ok a) new old = refl
  carried_said (Err why) new old = refl

  -- ---- a refusal that `?` hands on, and an answer past it

  -- what the exit of a `?` returns
  pub handed_on : {r : Said A} {why : Refusal} → IsErrAnd r (λ again. again ≡ why) → r ≡ Err why
  handed_on {r = r} h = let p = err_from_is_err_and r h in p.1 ∙ ap Err p.2

  -- the first checks of a chain refused
  pub first_handed_on : {r : Said A} {why : Refusal} {first : Said (Unit {0})} (later : Said A) → Err why ≡ first → IsErrAnd r (λ again. again ≡ why) → r ≡ or_else first later
  first_handed_on later said h = handed_on h ∙ sym (else_first _ later _ (sym said))

  -- a call whose checks refused says so and leaves all as it was
  pub refused_out : {M : Type 0} {r said : Said A} {why : Refusal} (new old : M) → Err why ≡ said → IsErrAnd r (λ again. again ≡ why) → (r, old) ≡ carried_out said new old
  refused_out {said = said} {why = why} new old says h = ap (λ s. (s, old)) (handed_on h) ∙ sym (carried_refused said new old why (sym says))

-- a check that gives something, which can be the unit alone, has passed
pub check_passed : {said : Said (Unit {0})} {u : Unit {0}} → Ok u ≡ said → said ≡ done
check_passed {u = tt} h = sym h

-- a call whose checks passed is done
pub done_out : {M : Type 0} {said : Said (Unit {0})} {u : Unit {0}} (new old : M) → Ok u ≡ said → (done, new) ≡ carried_out said new old
done_out {said = said} {u = tt} new old h = sym (carried_value said new old _ (sym h))

-- an outcome that is done is no refusal
pub never_refused : {A : Type 0} {said : Said A} {a : A} {why : Refusal} → said ≡ Ok a → Err why ≡ said → ⊥
never_refused h e = apart _ _ (e ∙ h)
