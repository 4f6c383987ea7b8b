use Rattle.std.proofs.Common.{List, subst}
use Rattle.std.specs.Prelude.{IsPermutation}
use Rattle.dip_core.specs.declared.item.Item.{Item}
use Rattle.join_core.proofs.CutLemmas.{StartsRise-sorted}
use Rattle.ruzgalt_c.proofs.tiles.by_start.Goals as goal

pub returns-clause-same : goal.returns-clause-same
returns-clause-same c =
    subst (λ (xs : List Item). IsPermutation xs c.sort_unstable.new.self.items) c.in_ok-sorted.ensures.items
    c.sort_unstable.ensures.permutation

pub returns-clause-rise : goal.returns-clause-rise
returns-clause-rise c = StartsRise-sorted c.sort_unstable.new.self.items c.sort_unstable.ensures.sorted
