-- Each call's contract is met by one answer alone, and by one content of its lent memory. Assumes nothing.
use Rattle.refusals.proofs.Once.{OneCall, both}
use Rattle.stepped_shape.specs.Layer.{memory}
use Rattle.stepped.proofs.opening.open.Reads as opening
use Rattle.stepped.proofs.running.run.Reads as running
use Rattle.stepped.proofs.closing.close.Reads as closing

pub open_once : OneCall opening.Post (λ κs s. memory s.1.0.now s.1.1.0.now)
open_once κs a x y s t h k = both h k

pub run_once : OneCall running.Post (λ κs s. memory s.1.1.1.1.0.now s.1.1.1.1.1.0.now)
run_once κs a x y s t h k = both h k

pub close_once : OneCall closing.Post (λ κs s. s.1.1.1.1.0.now)
close_once κs a x y s t h k = both h k
