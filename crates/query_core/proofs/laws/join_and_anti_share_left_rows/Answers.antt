use Rattle.query_core.proofs.OuterLemmas.{each_instant_is_listed, no_instant_is_listed_twice, no_other_is_listed}
use Rattle.query_core.proofs.laws.join_and_anti_share_left_rows.Goals as goal

pub returns-clause-each : goal.returns-clause-each
returns-clause-each c = each_instant_is_listed

pub returns-clause-once : goal.returns-clause-once
returns-clause-once c = no_instant_is_listed_twice

pub returns-clause-only : goal.returns-clause-only
returns-clause-only c = no_other_is_listed
