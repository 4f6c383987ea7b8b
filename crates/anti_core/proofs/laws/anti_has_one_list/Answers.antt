use Rattle.anti_core.proofs.AntiExistence.{some_anti, one_anti}
use Rattle.anti_core.proofs.laws.anti_has_one_list.Goals as goal

pub returns-clause-exists : goal.returns-clause-exists
returns-clause-exists c left_columns right_columns on left right = some_anti left_columns right_columns on left right

pub returns-clause-one : goal.returns-clause-one
returns-clause-one c left_columns right_columns on left right one other is is' =
    one_anti left_columns right_columns on left right one other is is'
