use Rattle.std.proofs.Common.{◌∙◌, [], ap, map}
use Rattle.std.proofs.lemmas.List.{take_all}
use Rattle.draft_core.specs.Columns.{kind_of_column, rows_by_column, values_of_column}
use Rattle.draft_core.proofs.ColumnLemmas.{alike}
use Rattle.draft_core.proofs.columns.Columns.with_room.Goals as goal

pub returns : goal.returns
returns c =
    let values = c.loop-kind.values.items in
    ap (λ ps. alike (map kind_of_column values) (rows_by_column 0 ps (map values_of_column values))) c.in_ok-periods.ensures.items
    ∙ ap (λ kinds. alike kinds [])
    (c.loop-kind.invariant ∙ take_all c.loop-kind.kind-index c.args.kinds.now c.loop-kind-test.false)
