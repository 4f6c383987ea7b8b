use Rattle.std.proofs.Common.{refl}
use Rattle.script_core.proofs.OutputExistence.{some_output}
use Rattle.script_core.proofs.OutputUniqueness.{one_list_of_dones, one_output}
use Rattle.script_core.proofs.laws.script_has_one_output.Goals as goal

pub returns-clause-exists : goal.returns-clause-exists
returns-clause-exists c = some_output

pub returns-clause-one : goal.returns-clause-one
returns-clause-one c = one_output

pub returns-clause-answers : goal.returns-clause-answers
returns-clause-answers c = λ script one other. one_list_of_dones script script one other refl
