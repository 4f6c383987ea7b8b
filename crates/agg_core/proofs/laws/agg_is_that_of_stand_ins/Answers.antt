use Rattle.agg_core.proofs.AggStandInLemmas.{agg_is_of_stand_ins}
use Rattle.agg_core.proofs.laws.agg_is_that_of_stand_ins.Goals as goal

pub returns : goal.returns
returns c = agg_is_of_stand_ins
