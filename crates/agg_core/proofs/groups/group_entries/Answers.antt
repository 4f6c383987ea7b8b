use Rattle.std.proofs.Common.{◌≡◌, ◌∙◌, ◌<◌, List, Some, ap, length, subst, sym}
use Rattle.std.specs.Prelude.{slice_get}
use Rattle.std.proofs.lemmas.List.{take_all}
use Rattle.std.proofs.lemmas.Option.{get_or_from_slice_get}
use Rattle.row_core.specs.Lent.{lent_value}
use Rattle.row_core.specs.declared.row.Row.{Row}
use Rattle.row_core.specs.declared.value.Value.{Value}
use Rattle.table_core.specs.Lent.{lent_row}
use Rattle.agg_core.specs.declared.entries.Entry.{Entry}
use Rattle.agg_core.specs.Entries.{amount_at, entry_row, no_row, value_at_place}
use Rattle.agg_core.specs.Grouping.{AreItemsByGroup, AreNotAfter, IsClassOf, amount_item}
use Rattle.agg_core.proofs.GroupLemmas.{numbered_more, upto_next}
use Rattle.agg_core.proofs.groups.group_entries.Goals as goal

pub at-row-requires : goal.at-row-requires
at-row-requires g c =
    let entry = c.entry-item.result in
    subst (λ (l : List Row). entry.row < length l) (sym c.rows.ensures)
    (subst (λ (e : Entry g.row.K.Denot). e.row < length (g.S.GroupColumn.rows c.args.column)) (sym c.entry-item.is)
    (c.requires.there c.loop-entry.entry-index entry c.loop-entry-test.true))

-- the row at an entry's index is the entry's row
row_is : {K : Type 0} (source listed : List Row) (entry : Entry K) (row : Row) → listed ≡ source
    → slice_get listed entry.row ≡ Some row → entry_row source entry ≡ row
row_is source listed entry row all at =
    get_or_from_slice_get source entry.row row no_row
    (ap (λ (l : List Row). slice_get l entry.row) (sym all) ∙ at)

pub enter_group-requires-clause-there : goal.enter_group-requires-clause-there
enter_group-requires-clause-there g c =
    let source = g.S.GroupColumn.rows c.args.column in
    let place = g.S.GroupColumn.place c.args.column in
    let entry = c.entry-item.result in
    let row = lent_row c.at-row.result in
    let known : value_at_place (Some place) (entry_row source entry) ≡ Some (g.S.GroupColumn.value_of entry.key) =
    subst
    (λ (e : Entry g.row.K.Denot).
    value_at_place (Some place) (entry_row source e) ≡ Some (g.S.GroupColumn.value_of e.key))
    (sym c.entry-item.is) (c.requires.grouped c.loop-entry.entry-index entry c.loop-entry-test.true) in
    subst (λ p. value_at_place (Some p) row ≡ Some (lent_value c.value.result)) (sym c.place.ensures)
    (ap (value_at_place (Some place)) (sym (row_is source c.rows.result.now entry row c.rows.ensures c.at-row.ensures))
    ∙ known ∙ ap Some (sym c.value.ensures))

pub enter_group-requires-clause-upto : goal.enter_group-requires-clause-upto
enter_group-requires-clause-upto g c =
    subst (λ (v : Value). AreNotAfter c.loop-entry.groups.items (Some v)) (sym c.value.ensures)
    (upto_next g.S.GroupColumn.value_of (g.S.GroupColumn.rows c.args.column) (amount_at c.args.amount)
    c.args.entries.now c.loop-entry.entry-index c.entry-item.result c.loop-entry.items.items
    c.loop-entry.groups.items c.requires.rise c.loop-entry-test.true c.entry-item.is c.loop-entry.invariant)

pub loop-entry-preserved : goal.loop-entry-preserved
loop-entry-preserved g c =
    let class = c.in_ok-class.class in
    let amount_of = amount_at c.args.amount in
    let groups = c.loop-entry.groups.items in
    let new = c.enter_group.new.groups.items in
    numbered_more g.S.GroupColumn.value_of (g.S.GroupColumn.rows c.args.column) amount_of
    c.args.entries.now c.loop-entry.entry-index c.entry-item.result
    c.loop-entry.items.items c.push.new.self.items c.amount_item.result groups new class c.loop-entry-test.true
    c.entry-item.is
    (subst (λ (v : Value). IsClassOf v groups new class) c.value.ensures c.in_ok-class.ensures)
    (c.amount_item.ensures ∙ ap (amount_item amount_of class)
    (sym (row_is (g.S.GroupColumn.rows c.args.column) c.rows.result.now c.entry-item.result (lent_row c.at-row.result)
    c.rows.ensures c.at-row.ensures)))
    c.in_ok-push.ensures.items c.loop-entry.invariant

pub enter_group-requires-clause-rise : goal.enter_group-requires-clause-rise
enter_group-requires-clause-rise g c = c.loop-entry.invariant.rise

pub returns : goal.returns
returns g c =
    subst
    (λ (l : List (Entry g.row.K.Denot)). AreItemsByGroup g.S.GroupColumn.value_of
    (g.S.GroupColumn.rows c.args.column) (amount_at c.args.amount) l c.loop-entry.items.items
    c.loop-entry.groups.items)
    (take_all c.loop-entry.entry-index c.args.entries.now c.loop-entry-test.false) c.loop-entry.invariant
