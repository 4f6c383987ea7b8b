use Rattle.dip_core.proofs.DipExistence.{some_instant}
use Rattle.dip_core.proofs.DipUniqueness.{one_instant_of}
use Rattle.dip_core.proofs.laws.division_has_one_instant.Goals as goal

pub returns-clause-exists : goal.returns-clause-exists
returns-clause-exists c = some_instant

pub returns-clause-one : goal.returns-clause-one
returns-clause-one c = one_instant_of
