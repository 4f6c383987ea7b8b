use Rattle.std.proofs.Common.{◌≡◌, ◌++◌, map, take}
use Rattle.agg_core.specs.Grouping.{agg_row_of}
use Rattle.agg_core.proofs.rows.push_chunk.Given as goal

abbrev pub invariant-loop-plateau : goal.invariant-loop-plateau
invariant-loop-plateau l =
    l.rows.items
    ≡ l.initial.rows.items ++ map (agg_row_of l.share.groups.items) (take l.plateau-index l.plateaus)
