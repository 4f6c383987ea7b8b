use Rattle.std.proofs.Common.{◌∙◌, ap, sym}
use Rattle.std.specs.Prelude.{slice_get}
use Rattle.draft_core.proofs.ColumnLemmas.{no_value-in_column, place-in_column, value-in_column}
use Rattle.draft_core.proofs.columns.Columns.value_at.Goals as goal

pub at-requires : goal.at-requires
at-requires c =
    let there = ap (λ l. slice_get l c.args.column) (sym c.deref.ensures.value) ∙ sym c.in-Some.ensures in
    place-in_column c.self.inside.periods.items c.self.inside.values.items c.args.self.now c.args.place c.args.column
    c.in-Some.values.now c.self.view_is c.requires c.self.invariant there

pub returns-in-Some : goal.returns-in-Some
returns-in-Some c =
    let there = ap (λ l. slice_get l c.args.column) (sym c.deref.ensures.value) ∙ sym c.in-Some.ensures in
    value-in_column c.self.inside.periods.items c.self.inside.values.items c.args.self.now c.args.place c.args.column
    c.in-Some.values.now _ c.self.view_is c.requires there c.at.ensures

pub returns-in-None : goal.returns-in-None
returns-in-None c =
    let there = ap (λ l. slice_get l c.args.column) (sym c.deref.ensures.value) ∙ sym c.in-None.ensures in
    no_value-in_column c.self.inside.periods.items c.self.inside.values.items c.args.self.now c.args.place c.args.column
    c.self.view_is c.requires there
