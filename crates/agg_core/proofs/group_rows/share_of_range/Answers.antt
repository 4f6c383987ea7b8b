use Rattle.std.proofs.Common.{◌≡◌, ◌<◌, ◌≤◌, Some, ap, arith, length, not, refl, subst, sym}
use Rattle.std.proofs.lemmas.List.Sorted.{All-permutation, length_permutation}
use Rattle.std.proofs.lemmas.List.Filters.{length-filter_both}
use Rattle.std.proofs.lemmas.Result.{IfOk-weaker}
use Rattle.std.proofs.lemmas.Slice.Zip.{AllZip-long}
use Rattle.dip_core.specs.Item.{item_limit}
use Rattle.row_core.specs.declared.row.Row.{Row}
use Rattle.agg_core.specs.Entries.{AreInGroups, AreRising, HaveRows, amount_at, entry_row, entry_value, value_at_place}
use Rattle.agg_core.specs.declared.entries.Entry.{Entry}
use Rattle.agg_core.specs.Grouping.{AreItemsByGroup, IsNumberedItem}
use Rattle.agg_core.specs.KeyRanges.{in_range, rows_in_range}
use Rattle.agg_core.specs.Shares.{rows_in}
use Rattle.agg_core.proofs.EntryLemmas.{entries_there, grouped_entries, length-entries}
use Rattle.agg_core.proofs.ShareLemmas.{answer_of_entries}
use Rattle.agg_core.proofs.group_rows.share_of_range.Goals as goal

pub group_entries-requires-clause-rise : goal.group_entries-requires-clause-rise
group_entries-requires-clause-rise g c κs within =
    subst (AreRising g.S.GroupColumn.value_of) (sym c.deref.ensures.value) c.in_ok-entries-2.ensures.rise

pub group_entries-requires-clause-there : goal.group_entries-requires-clause-there
group_entries-requires-clause-there g c κs within =
    let value_of = g.S.GroupColumn.value_of in
    let source = g.S.GroupColumn.rows c.args.column in
    let place = g.S.GroupColumn.place c.args.column in
    let made = c.in_ok-entries.entries.items in
    let sorted = c.in_ok-entries-2.entries.items in
    subst (HaveRows source) (sym c.deref.ensures.value)
    (All-permutation (λ (e : Entry g.row.K.Denot). e.row < length source) made sorted
    c.in_ok-entries-2.ensures.moved
    (entries_there value_of source place
    (rows_in_range value_of (value_at_place (Some place)) c.args.range.now source) made c.in_ok-entries.ensures))

pub group_entries-requires-clause-grouped : goal.group_entries-requires-clause-grouped
group_entries-requires-clause-grouped g c κs within =
    let value_of = g.S.GroupColumn.value_of in
    let source = g.S.GroupColumn.rows c.args.column in
    let place = g.S.GroupColumn.place c.args.column in
    let group_of = value_at_place (Some place) in
    let made = c.in_ok-entries.entries.items in
    let sorted = c.in_ok-entries-2.entries.items in
    subst (AreInGroups value_of source group_of) (sym c.deref.ensures.value)
    (All-permutation (λ (e : Entry g.row.K.Denot). group_of (entry_row source e) ≡ Some (entry_value value_of e))
    made sorted c.in_ok-entries-2.ensures.moved
    (grouped_entries value_of source place (rows_in_range value_of group_of c.args.range.now source) made
    c.in_ok-entries.ensures))

pub share_of_groups-requires-clause-few : goal.share_of_groups-requires-clause-few
share_of_groups-requires-clause-few g c κs within =
    let value_of = g.S.GroupColumn.value_of in
    let source = g.S.GroupColumn.rows c.args.column in
    let place = g.S.GroupColumn.place c.args.column in
    let group_of = value_at_place (Some place) in
    let rows = rows_in_range value_of group_of c.args.range.now source in
    let items = c.in_ok-grouped.grouped.items.items in
    let few : length source ≤ item_limit = c.requires.few in
    let both =
    length-filter_both (λ (r : Row). in_range value_of c.args.range.now (group_of r))
    (λ (r : Row). not (in_range value_of c.args.range.now (group_of r))) (λ r. refl) source in
    let listed = length-entries value_of source place rows c.in_ok-entries.entries.items c.in_ok-entries.ensures in
    let moved =
    length_permutation c.in_ok-entries.entries.items c.in_ok-entries-2.entries.items c.in_ok-entries-2.ensures.moved in
    let value = ap length c.deref.ensures.value in
    let same =
    AllZip-long
    (IsNumberedItem value_of source (amount_at c.args.asked.amount) c.in_ok-grouped.grouped.groups.items)
    c.deref.result.now items c.in_ok-grouped.ensures.each in
    omega (arith, few, both, listed, moved, value, same)

pub returns : goal.returns
returns g c =
    let value_of = g.S.GroupColumn.value_of in
    let source = g.S.GroupColumn.rows c.args.column in
    let place = g.S.GroupColumn.place c.args.column in
    let amount_of = amount_at c.args.asked.amount in
    let rows = rows_in_range value_of (value_at_place (Some place)) c.args.range.now source in
    let items = c.in_ok-grouped.grouped.items.items in
    let groups = c.in_ok-grouped.grouped.groups.items in
    IfOk-weaker c.share_of_groups.result _ _
    (λ share made.
    answer_of_entries value_of source c.args.asked.measure amount_of place rows c.in_ok-entries.entries.items
    c.in_ok-entries-2.entries.items items groups (rows_in share) c.in_ok-entries.ensures c.in_ok-entries-2.ensures
    (subst (λ l. AreItemsByGroup value_of source amount_of l items groups) c.deref.ensures.value
    c.in_ok-grouped.ensures)
    made)
    c.share_of_groups.ensures
