use Rattle.std.proofs.Common.{◌∙◌, [], refl, subst, sym}
use Rattle.std.proofs.lemmas.List.{get_or_default}
use Rattle.command_core.specs.Seams.{EndsInField}
use Rattle.command_core.proofs.FrontLemmas.{EndsInField-more}
use Rattle.command_core.proofs.seams.end_in_fields.Goals as goal

pub loop-records-preserved : goal.loop-records-preserved
loop-records-preserved c =
    EndsInField-more c.args.lists.now c.loop-records.records-index c.records-item.result c.loop-records-test.true
    c.records-item.is c.loop-records.invariant (c.if-not-end_in_field.ensures.0 refl)

pub returns-then-not-end_in_field-clause-no : goal.returns-then-not-end_in_field-clause-no
returns-then-not-end_in_field-clause-no c = λ e.
    let lists = c.args.lists.now in
    let i = c.loop-records.records-index in
    let records = c.records-item.result in
    let here = c.records-item.is ∙ get_or_default lists i records [] c.loop-records-test.true in
    (i, c.loop-records-test.true, λ ends. cc (c.if-not-end_in_field.ensures.1 (subst EndsInField (sym here) ends)))
