use Rattle.std.proofs.Common.{rules}
use Rattle.std.specs.Prelude.{int_lt}
use Rattle.std.proofs.lemmas.Fn.{always_returns_same}
use Rattle.dip_core.specs.declared.item.Item.{Item}
use Rattle.join_core.proofs.CutLemmas.{AreCutAt-point, IsPartitionedBy-start}
use Rattle.join_core.proofs.tiles.cut_at.Goals as goal

pub returns : goal.returns
returns c =
    let items = c.args.items.now in
    let cut = c.args.cut in
    AreCutAt-point cut items c.split_at.result.0.now c.split_at.result.1.now c.partition_point-started.result
    c.partition_point-started.ensures.bound
    (c.partition_point-started.ensures.partitioned (λ (x : Item). int_lt x.period.from cut)
    (always_returns_same _ _ _ (λ a r f called. search rules)) (IsPartitionedBy-start cut items c.requires))
    c.split_at.ensures.front c.split_at.ensures.back
