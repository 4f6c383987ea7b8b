use Rattle.anti_core.proofs.supply.supply_at.Goals as goal

pub returns-then-number-supply-clause-values : goal.returns-then-number-supply-clause-values
returns-then-number-supply-clause-values g c = c.requires.supply c.in-Some.supply c.in-Some.is
