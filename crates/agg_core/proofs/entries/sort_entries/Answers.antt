use Rattle.std.proofs.Common.{rules, subst}
use Rattle.std.specs.Prelude.{IsSortedBy}
use Rattle.std.specs.List.Sorted.{IsStableBy}
use Rattle.std.proofs.lemmas.Result.{on_ok_weaker}
use Rattle.std.proofs.lemmas.List.Sorted.{answers_always}
use Rattle.agg_core.specs.declared.entries.Entry.{Entry}
use Rattle.agg_core.proofs.OrderLemmas.{key_lt-value}
use Rattle.agg_core.proofs.entries.sort_entries.Goals as goal

pub returns-clause-sorted : goal.returns-clause-sorted
returns-clause-sorted g c =
    let laws = g.met.S.GroupColumn g.world.𝓛 g.world.𝓜 g.world.𝓡 ((λ s x. x), (λ x. x), (λ x. x), λ x. x) in
    on_ok_weaker c.sort_by_key.result
    (λ h. subst (λ lt. IsSortedBy lt c.sort_by_key.new.items.items)
    (key_lt-value g.S.GroupColumn.value_of g.K.Ord.cmp laws.ordered)
    (h (λ (e : Entry g.row.K.Denot). e.key) (answers_always _ _ _ (λ f a r g called. search rules))))
    c.sort_by_key.ensures.sorted

pub returns-clause-stable : goal.returns-clause-stable
returns-clause-stable g c =
    let laws = g.met.S.GroupColumn g.world.𝓛 g.world.𝓜 g.world.𝓡 ((λ s x. x), (λ x. x), (λ x. x), λ x. x) in
    subst (λ lt. IsStableBy lt c.args.entries.now.items c.sort_by_key.new.items.items)
    (key_lt-value g.S.GroupColumn.value_of g.K.Ord.cmp laws.ordered)
    (c.sort_by_key.ensures.stable (λ (e : Entry g.row.K.Denot). e.key)
    (answers_always _ _ _ (λ f a r g called. search rules)))
