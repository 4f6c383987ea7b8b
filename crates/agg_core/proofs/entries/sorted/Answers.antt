use Rattle.agg_core.proofs.EntryLemmas.{entries_sorted}
use Rattle.agg_core.proofs.entries.sorted.Goals as goal

pub returns : goal.returns
returns g c =
    entries_sorted g.S.GroupColumn.value_of c.args.entries.items c.sort_entries.new.entries.items
    c.sort_entries.ensures.permutation
    c.in_ok-sort_entries.ensures.sorted c.sort_entries.ensures.stable
