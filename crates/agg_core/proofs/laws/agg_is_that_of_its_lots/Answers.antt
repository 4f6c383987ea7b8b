use Rattle.agg_core.proofs.AggLotLemmas.{lot_agg_is_of_whole, lot_aggs_are_apart, values_send_groups_together, whole_agg_is_of_lots}
use Rattle.agg_core.proofs.laws.agg_is_that_of_its_lots.Goals as goal

pub returns-clause-lot : goal.returns-clause-lot
returns-clause-lot c = lot_agg_is_of_whole

pub returns-clause-whole : goal.returns-clause-whole
returns-clause-whole c = whole_agg_is_of_lots

pub returns-clause-apart : goal.returns-clause-apart
returns-clause-apart c = lot_aggs_are_apart

pub returns-clause-sent : goal.returns-clause-sent
returns-clause-sent c = values_send_groups_together
