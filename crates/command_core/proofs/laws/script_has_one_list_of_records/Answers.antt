use Rattle.command_core.proofs.RecordsExistence.{some_records}
use Rattle.command_core.proofs.RecordsUniqueness.{one_records}
use Rattle.command_core.proofs.laws.script_has_one_list_of_records.Goals as goal

pub returns-clause-exists : goal.returns-clause-exists
returns-clause-exists c = some_records

pub returns-clause-one : goal.returns-clause-one
returns-clause-one c = one_records
