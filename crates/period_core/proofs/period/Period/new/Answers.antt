use Rattle.std.proofs.Common.{refl, sym}
use Rattle.period_core.proofs.PeriodLemmas.{between-some}
use Rattle.period_core.proofs.period.Period.new.Goals as goal

pub returns-then-lt-clause-period : goal.returns-then-lt-clause-period
returns-then-lt-clause-period c = sym (between-some c.args.from c.args.to _ refl refl)
