use Rattle.anti_core.proofs.SupplyLemmas.{AreGapsFrom-opened}
use Rattle.anti_core.proofs.supply.run_from.Goals as goal

pub returns-clause-values : goal.returns-clause-values
returns-clause-values g c =
    AreGapsFrom-opened c.args.pairs.now.left.now c.args.pairs.now.right.now c.args.first c.in_ok-values.values
    c.args.pairs.now.left_chained c.args.pairs.now.right_chained c.in_ok-values.ensures.each
