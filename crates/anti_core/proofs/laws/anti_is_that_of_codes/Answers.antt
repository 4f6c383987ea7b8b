use Rattle.anti_core.proofs.AntiStandInLemmas.{anti_is_of_codes}
use Rattle.anti_core.proofs.laws.anti_is_that_of_codes.Goals as goal

pub returns : goal.returns
returns c = anti_is_of_codes
