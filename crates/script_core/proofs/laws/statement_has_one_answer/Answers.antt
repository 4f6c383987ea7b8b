use Rattle.script_core.proofs.OutputExistence.{some_answer}
use Rattle.script_core.proofs.TogetherUniqueness.{one_statement_answer}
use Rattle.script_core.proofs.laws.statement_has_one_answer.Goals as goal

pub returns-clause-exists : goal.returns-clause-exists
returns-clause-exists c = some_answer

pub returns-clause-one : goal.returns-clause-one
returns-clause-one c =
    λ before after later number statement one other.
    one_statement_answer before number statement one other after later
