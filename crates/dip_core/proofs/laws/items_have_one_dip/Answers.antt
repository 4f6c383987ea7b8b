use Rattle.dip_core.proofs.DipExistence.{some_dip}
use Rattle.dip_core.proofs.DipUniqueness.{one_dip}
use Rattle.dip_core.proofs.laws.items_have_one_dip.Goals as goal

pub returns-clause-exists : goal.returns-clause-exists
returns-clause-exists c = some_dip

pub returns-clause-one : goal.returns-clause-one
returns-clause-one c = one_dip
