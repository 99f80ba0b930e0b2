-- What tells two refusals and two answers apart; and uniqueness, said of a contract's own reading (the `Post` of a function's `Reads`): at the same arguments it holds of one answer alone. Assumes nothing.
use Prim.Native.Nat.{ℕ}
use mathlib.Core.Path.{◌≡◌, refl, sym, ap, ◌∙◌}
use Rattle.std.specs.Prelude.{Bool, true, false, cond, eqb}
use Rattle.std.proofs.Common.{Ok, Err}
use Rattle.refusals.specs.declared.refusal.Refusal.{Refusal}
use Rattle.refusals.specs.declared.refusal.Refusal.TheVariants.{
  NotWholeBlocks,
  NotAMultiple,
  WeightsShort,
  ReadingsShort,
  RoomShort,
  TooLarge,
  WrongSums,
  Outside,
  AlreadyDone,
  PieceOpen,
  Malformed,
  Unknown,
  WarmUp,
  WeightsLong,
  WrongCount,
}
use Rattle.refusals.specs.Said.{Said, number, found_by, needed_by}

module _ {L : Type 0} {A R S : L → Type 0} where
  -- any two results that meet the contract P at the same arguments are the same
  abbrev pub OneResult : ((κs : L) → A κs → R κs → S κs → Type 0) → Type 0
  OneResult P = (κs : L) (a : A κs) (x y : R κs) (s t : S κs) → P κs a x s → P κs a y t → x ≡ y

  -- the same, and so is the lent memory that `left` reads off the parameters at exit
  abbrev pub OneCall : {M : Type 0} → ((κs : L) → A κs → R κs → S κs → Type 0) → ((κs : L) → S κs → M) → Type 0
  OneCall P left = (κs : L) (a : A κs) (x y : R κs) (s t : S κs) → P κs a x s → P κs a y t → (x ≡ y) × (left κs s ≡ left κs t)

-- what both are, they are both
pub same : {A : Type 0} {x y z : A} → x ≡ z → y ≡ z → x ≡ y
same h k = h ∙ sym k

-- what is returned and what is left behind, where both pairs are one
pub both : {A B : Type 0} {x y : A} {s t : B} {q : A × B} → (x, s) ≡ q → (y, t) ≡ q → (x ≡ y) × (s ≡ t)
both {A = A} {B = B} h k = let e = same h k in (ap (λ (p : A × B). p.0) e, ap (λ (p : A × B). p.1) e)

-- ---- what tells refusals and answers apart

-- the refusal of a number and what it counts
of_all : (num found needed : ℕ) → Refusal
of_all num found needed =
    cond (eqb num 1) NotWholeBlocks
    (cond (eqb num 2) NotAMultiple
    (cond (eqb num 3) (WeightsShort found needed)
    (cond (eqb num 4) ReadingsShort
    (cond (eqb num 5) RoomShort
    (cond (eqb num 6) TooLarge
    (cond (eqb num 7) WrongSums
    (cond (eqb num 8) Outside
    (cond (eqb num 9) AlreadyDone
    (cond (eqb num 10) PieceOpen
    (cond (eqb num 11) Malformed
    (cond (eqb num 12) Unknown
    (cond (eqb num 13) WarmUp
    (cond (eqb num 14) WeightsLong WrongCount)))))))))))))

again : (why : Refusal) → of_all (number why) (found_by why) (needed_by why) ≡ why
unfolding of_all
again NotWholeBlocks = refl
again NotAMultiple = refl
again (WeightsShort found needed) = refl
again ReadingsShort = refl
again RoomShort = refl
again TooLarge = refl
again WrongSums = refl
again Outside = refl
again AlreadyDone = refl
again PieceOpen = refl
again Malformed = refl
again Unknown = refl
again WarmUp = refl
again WeightsLong = refl
again WrongCount = refl

-- two refusals of one number that count the same are one
pub record SameRefusal (x y : Refusal) : Type 0 where
  pub same_number : number x ≡ number y
  pub same_found : found_by x ≡ found_by y
  pub same_needed : needed_by x ≡ needed_by y

pub one_refusal : (x y : Refusal) → SameRefusal x y → x ≡ y
one_refusal x y e = sym (again x) ∙ rw (e.same_number, e.same_found, e.same_needed) (again y)

-- two answers say the same: they give the same, or refuse for the same reason
pub data SaySame {A : Type 0} : Said A → Said A → Type 0 where
  give : (a : A) → SaySame (Ok a) (Ok a)
  refuse : {x y : Refusal} → SameRefusal x y → SaySame (Err x) (Err y)

-- they are one then
pub one_answer : {A : Type 0} (x y : Said A) → SaySame x y → x ≡ y
one_answer x y (give a) = refl
one_answer x y (refuse e) = ap Err (one_refusal _ _ e)
