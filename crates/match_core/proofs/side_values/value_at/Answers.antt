use Rattle.std.proofs.Common.{◌∙◌, ap, Some, subst, ◌<◌, length}
use Rattle.std.specs.Prelude.{Option, slice_get}
use Rattle.std.proofs.lemmas.Option.{get_or_from_slice_get}
use Rattle.row_core.specs.declared.row.Row.{Row}
use Rattle.row_core.specs.declared.value.Value.{Value}
use Rattle.table_core.specs.Lent.{lent_row}
use Rattle.match_core.proofs.Tell.{slice_get-map}
use Rattle.match_core.proofs.side_values.value_at.Goals as goal

pub value_in-requires : goal.value_in-requires
value_in-requires c =
    let row = lent_row c.at.result in
    subst (λ (r : Row). c.args.place < length r.values)
    (get_or_from_slice_get c.args.rows.now c.args.i row row c.at.ensures)
    (c.requires.wide c.args.i row c.requires.within)

pub returns : goal.returns
returns c =
    slice_get-map (λ (row : Row). slice_get row.values c.args.place) c.args.rows.now c.args.i (lent_row c.at.result)
    c.at.ensures ∙ ap (λ (o : Option Value). Some o) c.value_in.ensures
