use Rattle.std.proofs.Common.{◌∙◌, [], Some, ap, map, sym}
use Rattle.row_core.specs.Refusals.{first_of}
use Rattle.row_core.specs.Schema.{column_of, key_of, key_tests, keyed}
use Rattle.row_core.proofs.KeyLemmas.{key_of-keyed}
use Rattle.row_core.proofs.SchemaLemmas.{keyed-schema}
use Rattle.row_core.proofs.schema.Schema.with_key.Goals as goal

pub invariant_of-result : goal.invariant_of-result
invariant_of-result c =
    keyed-schema c.self.inside.columns.items c.in_ok-keyed_columns.field-0.items c.args.names.now
    (c.in_ok-keyed_columns.ensures ∙ ap (λ columns. keyed columns c.args.names.now) c.deref-2.ensures.value)
    (ap (λ columns. first_of (key_tests columns [] c.args.names.now)) (sym c.deref.ensures.value)
    ∙ sym c.key_refusal.ensures ∙ c.in_default.is)
    c.self.invariant

pub returns-clause-key : goal.returns-clause-key
returns-clause-key c =
    ap (λ columns. map Some (key_of columns))
    (c.in_ok-keyed_columns.ensures ∙ ap (λ columns. keyed columns c.args.names.now) c.deref-2.ensures.value)
    ∙ key_of-keyed c.self.inside.columns.items c.args.names.now c.self.invariant.distinct
    (ap (λ columns. first_of (key_tests columns [] c.args.names.now)) (sym c.deref.ensures.value)
    ∙ sym c.key_refusal.ensures ∙ c.in_default.is)
    ∙ ap (λ columns. map (column_of columns) c.args.names.now) c.self.view_is
