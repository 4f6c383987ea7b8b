use Rattle.std.proofs.Common.{◌<◌, length, arith, sym, ◌∙◌, ap, get_or}
use Rattle.row_core.specs.Value.{same_kind, kind_of}
use Rattle.row_core.proofs.FitsLemmas.{is_fit, fits-lengths, fits-next, fits-none}
use Rattle.row_core.proofs.schema.values_fit.Goals as goal

pub returns-then-columns-values : goal.returns-then-columns-values
returns-then-columns-values c = sym (fits-lengths c.args.columns.now c.args.values.now c.if-columns-values.true)

pub returns-then-not-is_of : goal.returns-then-not-is_of
returns-then-not-is_of c =
    let lt : c.loop-i.i < length c.args.values.now = omega arith in
    sym (fits-none is_fit c.args.columns.now c.args.values.now c.loop-i.i _ c.index-values-i.result c.loop-i-test.true
    lt (ap (λ v. same_kind (get_or c.args.columns.now c.loop-i.i c.index-columns-i.result).kind (kind_of v))
    (sym c.index-values-i.is) ∙ sym c.is_of.ensures ∙ c.if-not-is_of.true)) ∙ c.loop-i.invariant

pub loop-i-preserved : goal.loop-i-preserved
loop-i-preserved c =
    let lt : c.loop-i.i < length c.args.values.now = omega arith in
    fits-next is_fit c.args.columns.now c.args.values.now c.loop-i.i _ c.index-values-i.result c.loop-i-test.true lt
    (ap (λ v. same_kind (get_or c.args.columns.now c.loop-i.i c.index-columns-i.result).kind (kind_of v))
    (sym c.index-values-i.is) ∙ sym c.is_of.ensures ∙ c.if-not-is_of.false) ∙ c.loop-i.invariant
