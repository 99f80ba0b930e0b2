-- The contract of `canonical_combine` is met by one result alone, and by one list that it leaves in its caller's slice. Assumes nothing.
use Rattle.refusals.proofs.Once.{OneCall, both}
use Rattle.sums_tree.proofs.tree.canonical_combine.Reads as combine

pub combine_once : OneCall combine.Post (λ κs s. s.0.now)
combine_once κs a x y s t h k = both h k
