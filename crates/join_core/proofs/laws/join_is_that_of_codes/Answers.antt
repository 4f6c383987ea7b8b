use Rattle.join_core.proofs.JoinStandInLemmas.{join_is_of_codes}
use Rattle.join_core.proofs.laws.join_is_that_of_codes.Goals as goal

pub returns : goal.returns
returns c = join_is_of_codes
