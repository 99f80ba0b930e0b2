-- Each `_cpu` layer's contract is met by one answer alone, by one content of its output, and by one content of scratch. Assumes nothing.
use mathlib.Core.List.{List}
use lib.Ieee.{Float}
use Rattle.refusals.proofs.Once.{OneCall, both}
use Rattle.layers_cpu.proofs.cpu.linear_q4_k_cpu.Reads as q4_k_cpu
use Rattle.layers_cpu.proofs.cpu.linear_q6_k_cpu.Reads as q6_k_cpu
use Rattle.layers_cpu.proofs.cpu.linear_q4_0_cpu.Reads as q4_0_cpu
use Rattle.layers_cpu.proofs.cpu.linear_q4_0_ggml_cpu.Reads as q4_0_ggml_cpu
use Rattle.layers_cpu.proofs.cpu.linear_iq4_nl_cpu.Reads as iq4_nl_cpu

pub q4_k_cpu_once : OneCall {M = List Float × List Float} q4_k_cpu.Post (λ κs s. (s.1.1.0.now, s.1.1.1.0.now))
q4_k_cpu_once κs a x y s t h k = both h k

pub q6_k_cpu_once : OneCall {M = List Float × List Float} q6_k_cpu.Post (λ κs s. (s.1.1.0.now, s.1.1.1.0.now))
q6_k_cpu_once κs a x y s t h k = both h k

pub q4_0_cpu_once : OneCall {M = List Float × List Float} q4_0_cpu.Post (λ κs s. (s.1.1.0.now, s.1.1.1.0.now))
q4_0_cpu_once κs a x y s t h k = both h k

pub q4_0_ggml_cpu_once : OneCall {M = List Float × List Float} q4_0_ggml_cpu.Post (λ κs s. (s.1.1.0.now, s.1.1.1.0.now))
q4_0_ggml_cpu_once κs a x y s t h k = both h k

pub iq4_nl_cpu_once : OneCall {M = List Float × List Float} iq4_nl_cpu.Post (λ κs s. (s.1.1.0.now, s.1.1.1.0.now))
iq4_nl_cpu_once κs a x y s t h k = both h k
