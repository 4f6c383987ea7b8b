use Rattle.anti_core.proofs.AntiLotLemmas.{lot_anti_is_of_whole, lot_antis_are_apart, whole_anti_is_of_lots}
use Rattle.anti_core.proofs.laws.anti_is_that_of_its_lots.Goals as goal

pub returns-clause-lot : goal.returns-clause-lot
returns-clause-lot c = lot_anti_is_of_whole

pub returns-clause-whole : goal.returns-clause-whole
returns-clause-whole c = whole_anti_is_of_lots

pub returns-clause-apart : goal.returns-clause-apart
returns-clause-apart c = lot_antis_are_apart
