use Rattle.live_core.proofs.DoneLemmas.{first_done, one_done, some_done}
use Rattle.live_core.proofs.laws.portions_make_no_difference.Goals as goal

pub returns-clause-exists : goal.returns-clause-exists
returns-clause-exists c = some_done

pub returns-clause-one : goal.returns-clause-one
returns-clause-one c = one_done

pub returns-clause-first : goal.returns-clause-first
returns-clause-first c = first_done
