use Rattle.cert_core.proofs.VerdictExistence.{some_verdict}
use Rattle.cert_core.proofs.VerdictUniqueness.{one_verdict}
use Rattle.cert_core.proofs.laws.claim_has_one_verdict.Goals as goal

pub returns-clause-exists : goal.returns-clause-exists
returns-clause-exists c = some_verdict

pub returns-clause-one : goal.returns-clause-one
returns-clause-one c = one_verdict
