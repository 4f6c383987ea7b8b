use Rattle.join_core.proofs.JoinExistence.{some_join, one_join}
use Rattle.join_core.proofs.laws.join_has_one_list.Goals as goal

pub returns-clause-exists : goal.returns-clause-exists
returns-clause-exists c = some_join

pub returns-clause-one : goal.returns-clause-one
returns-clause-one c = one_join
