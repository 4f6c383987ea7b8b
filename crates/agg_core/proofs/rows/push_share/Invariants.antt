use Rattle.std.proofs.Common.{◌≡◌, ◌++◌, map, take}
use Rattle.list_core.specs.Chunks.{all_in}
use Rattle.agg_core.specs.Grouping.{agg_row_of}
use Rattle.agg_core.proofs.rows.push_share.Given as goal

abbrev pub invariant-loop-chunk : goal.invariant-loop-chunk
invariant-loop-chunk l =
    l.rows.items
    ≡ l.initial.rows.items ++ map (agg_row_of l.share.groups.items) (all_in (take l.chunk-index l.chunk-items))
