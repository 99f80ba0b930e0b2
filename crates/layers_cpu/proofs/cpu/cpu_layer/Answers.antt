-- `cpu::cpu_layer` meets its contract: a refusal, or every output. Assumes nothing.
use Rattle.refusals.proofs.Laws.{check_passed, refused_out}
use Rattle.layers_cpu.specs.Says.{cpu_says}
use Rattle.layers_cpu.proofs.cpu.cpu_layer.Goals as goal

pub returns-in_err-cpu_refusal : goal.returns-in_err-cpu_refusal
unfolding cpu_says
returns-in_err-cpu_refusal c = refused_out _ _ c.in_err-cpu_refusal.ensures c.from_residual.ensures.1

pub all_columns-requires : goal.all_columns-requires
all_columns-requires c = check_passed c.in_ok-cpu_refusal.ensures
