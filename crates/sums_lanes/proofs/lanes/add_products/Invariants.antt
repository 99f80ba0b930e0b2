-- `lanes::add_products` meets its contract: the terms are products. Assumes nothing.
use Rattle.sums_lanes.specs.Lanes.{products}
use Rattle.sums_lanes.proofs.lanes.add_products.Given as goal

abbrev pub ghost-add_terms : goal.ghost-add_terms
ghost-add_terms a = products a.term.now.0.now a.term.now.1.now
