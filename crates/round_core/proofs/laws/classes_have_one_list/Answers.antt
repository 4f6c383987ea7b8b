use Rattle.round_core.proofs.PlateauExistence.{some_plateaus, one_list_of_plateaus}
use Rattle.round_core.proofs.laws.classes_have_one_list.Goals as goal

pub returns-clause-exists : goal.returns-clause-exists
returns-clause-exists c = some_plateaus

pub returns-clause-one : goal.returns-clause-one
returns-clause-one c = one_list_of_plateaus
