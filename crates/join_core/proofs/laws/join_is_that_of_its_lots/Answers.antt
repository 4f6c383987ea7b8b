use Rattle.join_core.proofs.JoinLotLemmas.{lot_join_is_of_whole, lot_joins_are_apart, whole_join_is_of_lots}
use Rattle.join_core.proofs.laws.join_is_that_of_its_lots.Goals as goal

pub returns-clause-lot : goal.returns-clause-lot
returns-clause-lot c = lot_join_is_of_whole

pub returns-clause-whole : goal.returns-clause-whole
returns-clause-whole c = whole_join_is_of_lots

pub returns-clause-apart : goal.returns-clause-apart
returns-clause-apart c = lot_joins_are_apart
