use Rattle.std.proofs.Common.{◌≡◌, List, ap, subst}
use Rattle.std.specs.List.{swap}
use Rattle.std.proofs.lemmas.List.Sorted.{IsPermutation-swap}
use Rattle.dip_core.specs.Heap.{Ending, Endings}
use Rattle.dip_core.proofs.last_ends.LastEnds.swap.Goals as goal

pub returns-clause-same : goal.returns-clause-same
returns-clause-same c =
    let moved : c.swap.new.self.items ≡ swap c.args.self.now.ends c.args.place c.args.other =
    subst (λ (ends : List Ending). c.swap.new.self.items ≡ swap ends c.args.place c.args.other)
    (ap (λ (l : Endings). l.ends) c.self.view_is) c.swap.ensures.items in
    IsPermutation-swap c.args.self.now.ends c.swap.new.self.items c.args.place c.args.other c.requires.within
    c.requires.other_within moved
