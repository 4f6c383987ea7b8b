use Rattle.std.proofs.Common.{IfOk, Result, Some, subst, sym, ℕ}
use Rattle.std.specs.declared.alloc.AllocError.{AllocError}
use Rattle.std.proofs.lemmas.Result.{IfOk-weaker}
use Rattle.work_core.specs.declared.range.Range.{Range}
use Rattle.agg_core.specs.Agg.{AreAggRows}
use Rattle.agg_core.specs.Entries.{amount_at, value_at_place}
use Rattle.agg_core.specs.KeyRanges.{rows_in_range}
use Rattle.agg_core.specs.Shares.{rows_in}
use Rattle.agg_core.specs.declared.rows.AggShare.{AggShare}
use Rattle.agg_core.proofs.ShareLemmas.{rows-all}
use Rattle.agg_core.proofs.group_rows.rows_by_group.Goals as goal

pub returns : goal.returns
returns g c =
    let laws = g.met.S.GroupColumn g.world.𝓛 g.world.𝓜 g.world.𝓡 ((λ s x. x), (λ x. x), (λ x. x), λ x. x) in
    let value_of = g.S.GroupColumn.value_of in
    let rows = g.S.GroupColumn.rows c.args.column in
    let measure = c.args.asked.measure in
    let amount_of = amount_at c.args.asked.amount in
    let group_of = value_at_place (Some (g.S.GroupColumn.place c.args.column)) in
    let post : Range g.row.K.Denot → ℕ → Result AggShare AllocError → Type 0 =
    λ keys n answer. Range g.row.K.Denot
    × IfOk answer
    (λ (share : AggShare).
    AreAggRows measure amount_of group_of (rows_in_range value_of group_of keys rows) (rows_in share)) in
    IfOk-weaker c.of_shares.result _ _
    (λ answer e.
    subst (AreAggRows measure amount_of group_of rows) (sym e)
    (rows-all value_of g.K.Ord.cmp laws.ordered measure amount_of group_of rows post c.in_ok-shares.shares.cuts.items
    c.in_ok-found.found.items
    (λ keys n share given. given.1) c.in_ok-found.ensures))
    c.of_shares.ensures
