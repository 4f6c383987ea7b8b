use Rattle.command_core.proofs.StatementExistence.{some_statement}
use Rattle.command_core.proofs.StatementUniqueness.{one_first_statement}
use Rattle.command_core.proofs.laws.records_have_one_first_statement.Goals as goal

pub returns-clause-exists : goal.returns-clause-exists
returns-clause-exists c = some_statement

pub returns-clause-one : goal.returns-clause-one
returns-clause-one c = one_first_statement
