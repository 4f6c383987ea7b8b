use Rattle.cert_core.proofs.OverlapLemmas.{AreSorted-from_sort, overlap-from_sorted}
use Rattle.cert_core.proofs.overlap.overlap_of.Goals as goal

pub returns : goal.returns
returns c = λ part are distinct.
    overlap-from_sorted c.args.items.now part c.sort_unstable.new.self.items c.first_pair.result
    (AreSorted-from_sort c.args.items.now part c.take_items.new.taken.items c.sort_unstable.new.self.items
    c.requires.rise
    (c.in_ok-take_items.ensures part are) distinct c.sort_unstable.ensures.permutation
    c.sort_unstable.ensures.sorted)
    (rw (← c.deref.ensures.value) c.first_pair.ensures)
