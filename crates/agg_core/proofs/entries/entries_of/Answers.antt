use Rattle.std.proofs.Common.{◌≡◌, ◌∙◌, ◌+◌, ◌<◌, ◌≤◌, Global, List, Some, Vec, arith, get_or, length, sym, subst, ap, take, take_all}
use Rattle.std.proofs.lemmas.List.{get_or_default}
use Rattle.std.proofs.lemmas.Option.{slice_get-get_or}
use Rattle.row_core.specs.declared.row.Row.{Row}
use Rattle.agg_core.specs.declared.entries.Entry.{Entry}
use Rattle.agg_core.specs.Entries.{AreEntries, no_row, row_at, value_at_place}
use Rattle.agg_core.specs.KeyRanges.{in_range, rows_in_range}
use Rattle.agg_core.proofs.EntryLemmas.{entry_more, entry_same}
use Rattle.agg_core.proofs.entries.entries_of.Goals as goal
use Rattle.agg_core.proofs.entries.entries_of.Goals.{then-has_key+in_ok-push, else-has_key}

pub loop-row-preserved : goal.loop-row-preserved
loop-row-preserved g c =
    let value_of = g.S.GroupColumn.value_of in
    let place = g.S.GroupColumn.place c.args.column in
    let range = c.args.range.now in
    let rows = g.S.GroupColumn.rows c.args.column in
    let i = c.loop-row.row in
    let row = row_at rows i in
    let test = c.loop-row-test.true in
    let counted = c.len-count.ensures in
    let whole = ap length c.rows.ensures in
    let inside : i < length rows = omega (arith, test, counted, whole) in
    let at : row ≡ get_or rows i row = get_or_default rows i no_row row inside in
    let known : c.has_key.result ≡ in_range value_of range (value_at_place (Some place) row) =
    c.has_key.ensures ∙ ap (in_range value_of range) (sym c.key_at-key.ensures) in
    let Next = λ (v : Vec (Entry g.row.K.Denot) Global). AreEntries value_of rows place
    (rows_in_range value_of (value_at_place (Some place)) range (take (i + 1) rows)) v.items in
    elim c.if-has_key.branch [
      | then-has_key+in_ok-push w ↦
          subst Next (sym w.entries-is)
          (entry_more value_of rows place range rows i row c.loop-row.entries.items _ _ inside at
          (sym known ∙ w.if-has_key.true) w.in_ok-push.ensures.items
          (record { row_is = slice_get-get_or rows i no_row inside; value_is = c.key_at-key.ensures })
          c.loop-row.invariant)
      | else-has_key w ↦
          subst Next (sym w.entries-is)
          (entry_same value_of rows place range rows i row c.loop-row.entries.items inside at
          (sym known ∙ w.if-has_key.false) c.loop-row.invariant)
    ]

pub returns : goal.returns
returns g c =
    let value_of = g.S.GroupColumn.value_of in
    let place = g.S.GroupColumn.place c.args.column in
    let rows = g.S.GroupColumn.rows c.args.column in
    let test = c.loop-row-test.false in
    let counted = c.len-count.ensures in
    let whole = ap length c.rows.ensures in
    let end : length rows ≤ c.loop-row.row = omega (arith, test, counted, whole) in
    subst
    (λ (l : List Row). AreEntries value_of rows place
    (rows_in_range value_of (value_at_place (Some place)) c.args.range.now l) c.loop-row.entries.items)
    (take_all c.loop-row.row rows end) c.loop-row.invariant
