use Rattle.match_core.proofs.SentLemmas.{rows_match_by_values, values_send_together}
use Rattle.match_core.proofs.laws.matching_rows_have_equal_values.Goals as goal

pub returns-clause-values : goal.returns-clause-values
returns-clause-values c = rows_match_by_values

pub returns-clause-sent : goal.returns-clause-sent
returns-clause-sent c = values_send_together
