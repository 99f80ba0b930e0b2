-- Each call's contract is met by one answer alone, and by one content of its lent memory. Assumes nothing.
use mathlib.Core.Path.{refl}
use Rattle.refusals.proofs.Once.{OneResult, OneCall, same}
use Rattle.frames.proofs.Unique.{OneList}
use Rattle.records.proofs.layers.weights.Reads as weights
use Rattle.records.proofs.reader.read.Reads as reading
use Rattle.records.proofs.windows.readings.Reads as readings
use Rattle.records.proofs.windows.readings_of.Reads as readings_of

pub read_once : OneResult reading.Post
read_once κs a x y s t h k = same h k

pub readings_once : OneCall readings.Post (λ κs s. s.1.0.now)
readings_once κs a x y s t h k = (refl, same h k)

pub weights_once : OneList weights.Post (λ κs x. x.now)
weights_once κs a x y s t h k = same h k

pub readings_of_once : OneList readings_of.Post (λ κs x. x.now)
readings_of_once κs a x y s t h k = same h k
