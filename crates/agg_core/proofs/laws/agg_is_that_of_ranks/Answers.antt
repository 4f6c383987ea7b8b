use Rattle.agg_core.proofs.AggStandInLemmas.{agg_is_of_ranks}
use Rattle.agg_core.proofs.laws.agg_is_that_of_ranks.Goals as goal

pub returns : goal.returns
returns c = agg_is_of_ranks
