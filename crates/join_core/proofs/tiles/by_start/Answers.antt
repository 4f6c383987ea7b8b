use Rattle.join_core.proofs.CutLemmas.{StartsRise-sorted}
use Rattle.join_core.proofs.tiles.by_start.Goals as goal

pub returns-clause-rise : goal.returns-clause-rise
returns-clause-rise g c = StartsRise-sorted c.sort_unstable.new.items.items c.sort_unstable.ensures.sorted
