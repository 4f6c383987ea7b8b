use Rattle.join_core.proofs.JoinStandInLemmas.{join_is_of_stand_ins}
use Rattle.join_core.proofs.laws.join_is_that_of_stand_ins.Goals as goal

pub returns : goal.returns
returns c = join_is_of_stand_ins
