use Rattle.std.proofs.Common.{◌∙◌, ap, arith, length, map, sym}
use Rattle.std.specs.List.{list_any}
use Rattle.draft_core.specs.Columns.{AlikeRows, values_of_column}
use Rattle.draft_core.specs.Reached.{is_met, is_reached}
use Rattle.draft_core.proofs.ColumnLemmas.{length-rows}
use Rattle.draft_core.proofs.ReachedLemmas.{any_reached-rows}
use Rattle.draft_core.proofs.columns.Columns.any_reached.Goals as goal

pub any_met-requires : goal.any_met-requires
any_met-requires c = λ k d below.
    let periods = c.self.inside.periods.items in
    let rows = length-rows 0 periods (map values_of_column c.self.inside.values.items) in
    omega (arith, c.requires k d below, rows, ap (λ (a : AlikeRows). length a.rows) c.self.view_is)

pub returns : goal.returns
returns c =
    let periods = c.self.inside.periods.items in
    let columns = map values_of_column c.self.inside.values.items in
    c.any_met.ensures
    ∙ ap (λ ps. list_any (is_met c.args.portion.now ps) c.args.places.now) c.deref.ensures.value
    ∙ sym (any_reached-rows c.args.portion.now periods columns c.args.places.now)
    ∙ ap (λ (a : AlikeRows). list_any (is_reached c.args.portion.now a.rows) c.args.places.now) c.self.view_is
