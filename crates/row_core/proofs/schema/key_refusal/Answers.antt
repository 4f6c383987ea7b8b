use Rattle.std.proofs.Common.{◌∙◌, not, sym, ap}
use Rattle.std.specs.Prelude.{is_none, is_some}
use Rattle.row_core.proofs.SchemaLemmas.{key-next, key-twice}
use Rattle.row_core.proofs.schema.key_refusal.Goals as goal

pub returns-then-is_some : goal.returns-then-is_some
returns-then-is_some c =
    sym (key-twice c.args.columns.now c.args.names.now c.loop-i.i c.index-names-i.result c.loop-i-test.true
    c.index-names-i.is
    (ap is_none (sym c.column_place.ensures) ∙ ap not (c.is_none.ensures ∙ ap not c.if-is_none.false))
    (ap is_some (sym c.place_among.ensures) ∙ sym c.is_some.ensures ∙ c.if-is_some.true))
    ∙ c.loop-i.invariant

pub loop-i-preserved : goal.loop-i-preserved
loop-i-preserved c =
    sym (key-next c.args.columns.now c.args.names.now c.loop-i.i c.index-names-i.result c.loop-i-test.true
    c.index-names-i.is
    (ap is_none (sym c.column_place.ensures) ∙ ap not (c.is_none.ensures ∙ ap not c.if-is_none.false))
    (ap is_some (sym c.place_among.ensures) ∙ sym c.is_some.ensures ∙ c.if-is_some.false))
    ∙ c.loop-i.invariant
