use Rattle.std.proofs.Common.{rules, ◌≡◌}
use Rattle.period_core.proofs.PeriodLemmas.{PrecedesAtOnce-from_ends, PrecedesAtOnce-ends}
use Rattle.period_core.proofs.period.Period.immediately_precedes.Goals as goal

pub returns-clause-instants : goal.returns-clause-instants
returns-clause-instants c = (
  λ t. let ends : c.args.self.to ≡ c.args.other.from =
      search rules in PrecedesAtOnce-from_ends c.args.self c.args.other ends,
  λ p. let ends = PrecedesAtOnce-ends c.args.self c.args.other p in search rules,
)
