use Rattle.script_core.proofs.RunLemmas.{one_run_of}
use Rattle.script_core.proofs.laws.complete_runs_agree.Goals as goal

pub returns : goal.returns
returns c = one_run_of
