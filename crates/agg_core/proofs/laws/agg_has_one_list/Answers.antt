use Rattle.agg_core.proofs.AggExistence.{some_aggregate}
use Rattle.agg_core.proofs.OrderLemmas.{one_aggregate}
use Rattle.agg_core.proofs.laws.agg_has_one_list.Goals as goal

pub returns-clause-exists : goal.returns-clause-exists
returns-clause-exists c = some_aggregate

pub returns-clause-one : goal.returns-clause-one
returns-clause-one c = one_aggregate
