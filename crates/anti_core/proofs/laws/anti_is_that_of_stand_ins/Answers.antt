use Rattle.anti_core.proofs.AntiStandInLemmas.{anti_is_of_stand_ins}
use Rattle.anti_core.proofs.laws.anti_is_that_of_stand_ins.Goals as goal

pub returns : goal.returns
returns c = anti_is_of_stand_ins
