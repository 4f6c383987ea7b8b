use Rattle.std.proofs.Common.{◌∙◌}
use Rattle.agg_core.proofs.ShareLemmas.{has_same}
use Rattle.agg_core.proofs.keys.has_key.Goals as goal

pub returns : goal.returns
returns g c =
    let laws = g.met.S.GroupColumn g.world.𝓛 g.world.𝓜 g.world.𝓡 ((λ s x. x), (λ x. x), (λ x. x), λ x. x) in
    c.has.ensures ∙ has_same g.S.GroupColumn.value_of g.K.Ord.cmp laws.ordered c.args.range.now c.args.key.now
