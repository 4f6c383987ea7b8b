use Rattle.merge_core.proofs.GapExistence.{some_gaps, one_list_of_gaps}
use Rattle.merge_core.proofs.laws.parts_have_one_list_of_gaps.Goals as goal

pub returns-clause-exists : goal.returns-clause-exists
returns-clause-exists c = some_gaps

pub returns-clause-one : goal.returns-clause-one
returns-clause-one c = one_list_of_gaps
