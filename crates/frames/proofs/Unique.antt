-- Each call's contract is met by one answer alone; where a part is returned, by one content of it. Assumes nothing.
use mathlib.Core.Path.{◌≡◌}
use mathlib.Core.List.{List}
use Prim.Native.Nat.{ℕ}
use Rattle.refusals.proofs.Once.{OneResult, same}
use Rattle.frames.proofs.frame.size_of.Reads as size
use Rattle.frames.proofs.frame.frame_of.Reads as frame
use Rattle.frames.proofs.frame.payload.Reads as payload
use Rattle.frames.proofs.frame.rest.Reads as rest
use Rattle.frames.proofs.frame.next_record.Reads as next

-- any two parts that meet the contract P at the same arguments have the same bytes
module _ {L : Type 0} {A R S : L → Type 0} where
  abbrev pub OneList : ((κs : L) → A κs → R κs → S κs → Type 0) → ((κs : L) → R κs → List ℕ) → Type 0
  OneList P bytes = (κs : L) (a : A κs) (x y : R κs) (s t : S κs) → P κs a x s → P κs a y t → bytes κs x ≡ bytes κs y

pub size_of_once : OneResult size.Post
size_of_once κs a x y s t h k = same h.0 k.0

pub frame_of_once : OneResult frame.Post
frame_of_once κs a x y s t h k = same h k

pub payload_once : OneList payload.Post (λ κs x. x.now)
payload_once κs a x y s t h k = same h k

pub rest_once : OneList rest.Post (λ κs x. x.now)
rest_once κs a x y s t h k = same h k

pub next_record_once : OneResult next.Post
next_record_once κs a x y s t h k = same h k
