use Rattle.std.proofs.Common.{sym, ap, ◌∙◌}
use Rattle.agg_core.specs.Entries.{place_in}
use Rattle.agg_core.proofs.PlateauLemmas.{agg_by_names, group-there}
use Rattle.agg_core.proofs.aggregates.agg.Goals as goal

pub returns : goal.returns
returns g c = (
  sym c.agg_refusal.ensures ∙ c.in_default.is,
  agg_by_names c.args.side.schema.now c.args.func c.args.group c.args.side.rows.now c.measure_of-measure.result
      c.place_in-amount.result c.place_in-by.result c.in_ok-agg_rows.field-0 c.measure_of-measure.ensures
      (c.place_in-amount.ensures ∙ ap (place_in c.args.side.schema.now) c.number_column.ensures) c.place_in-by.ensures
      c.in_ok-agg_rows.ensures,
)

pub returns-in-Some : goal.returns-in-Some
returns-in-Some g c = sym c.agg_refusal.ensures ∙ c.in-Some.is

pub agg_rows-requires-clause-there : goal.agg_rows-requires-clause-there
agg_rows-requires-clause-there g c κs outlives =
    group-there c.args.side.schema.now c.args.group c.place_in-by.result c.place_in-by.ensures
