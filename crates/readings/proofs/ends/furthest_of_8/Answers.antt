-- `ends::furthest_of_8` meets its contract. Assumes nothing.
use Rattle.readings.proofs.EightLanes.{tree_is}
use Rattle.readings.proofs.ends.furthest_of_8.Goals as goal

pub returns : goal.returns
returns g c = tree_is _ c.args.h.now c.further.ensures c.further-2.ensures c.further-3.ensures c.further-4.ensures c.further-5.ensures c.further-6.ensures c.further-7.ensures
