use Rattle.anti_core.proofs.BorderLemmas.{maximal-bordered}
use Rattle.anti_core.proofs.laws.unmet_periods_are_bordered.Goals as goal

pub returns : goal.returns
returns c left_columns right_columns on right x p = maximal-bordered left_columns right_columns on right x p
