use Rattle.std.proofs.Common.{Some, ap, ◌∙◌}
use Rattle.row_core.specs.declared.value.Kind.TheVariants as kind
use Rattle.agg_core.proofs.PlateauLemmas.{kinds_there}
use Rattle.agg_core.proofs.aggregates.agg_rows.Goals as goal

pub invariant_of-rows_by_group : goal.invariant_of-rows_by_group
invariant_of-rows_by_group g c = record {
  are = kinds_there c.args.side.schema.now c.args.side.rows.now c.in-Some.place kind.Int c.args.side.fit
      (c.kind.ensures ∙ ap Some c.in-Int.is);
}

pub invariant_of-rows_by_group-in-Text : goal.invariant_of-rows_by_group-in-Text
invariant_of-rows_by_group-in-Text g c = record {
  are = kinds_there c.args.side.schema.now c.args.side.rows.now c.in-Some.place kind.Text c.args.side.fit
      (c.kind.ensures ∙ ap Some c.in-Text.is);
}
