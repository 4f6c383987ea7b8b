use Rattle.dip_core.proofs.DipExistence.{least-from_placed}
use Rattle.dip_core.proofs.DipUniqueness.{one_placed}
use Rattle.dip_core.proofs.laws.placed_division_is_unique.Goals as goal

pub returns-clause-one : goal.returns-clause-one
returns-clause-one c = one_placed

pub returns-clause-least : goal.returns-clause-least
returns-clause-least c = least-from_placed
