use Rattle.std.proofs.Common.{◌∙◌, sym, arith}
use Rattle.row_core.proofs.SchemaLemmas.{columns_of-schema}
use Rattle.row_core.proofs.schema.Schema.new.Goals as goal

pub invariant_of-result : goal.invariant_of-result
invariant_of-result c =
    columns_of-schema c.args.columns.now _ c.in_ok-collect_columns.ensures (omega arith)
    (sym c.has_twins.ensures ∙ c.if-has_twins.false)
