-- `k::quants_q5k` meets its contract: in turn l the eight places l, 32 + l, .. are filled. Assumes nothing.
use Rattle.layouts.specs.K.{quant_q5k}
use Rattle.k_quants.proofs.Eight.{Streamed}
use Rattle.k_quants.proofs.k.quants_q5k.Given as goal

abbrev pub invariant-loop-l : goal.invariant-loop-l
invariant-loop-l l = Streamed (quant_q5k l.block) 0 l.q l.l
