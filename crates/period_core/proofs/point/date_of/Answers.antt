use Rattle.std.proofs.Common.{arith}
use Rattle.period_core.proofs.PointLemmas.{date-from_some, no_date-from_none}
use Rattle.period_core.proofs.point.date_of.Goals as goal

pub returns-in_err-date : goal.returns-in_err-date
returns-in_err-date c =
    rw c.from_residual.ensures
    (no_date-from_none c.new.result c.args.year c.args.month c.args.day c.in_err-date.ensures.value
    c.new.ensures.succeeds c.requires.0 c.requires.1 c.requires.2)

pub returns : goal.returns
returns c =
    rw c.to_plain.ensures
    (date-from_some c.new.result c.in_ok-date.date c.args.year c.args.month c.args.day c.in_ok-date.ensures.value
    c.new.ensures.value c.requires.0 c.requires.1 c.requires.2 (omega arith))
