use Rattle.std.proofs.Common.{◌∙◌}
use Rattle.period_core.proofs.period.Period.between.Goals as goal

pub returns : goal.returns
returns c = c.ok.ensures.value ∙ c.new.ensures.period
