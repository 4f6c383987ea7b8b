use Rattle.std.proofs.Common.{◌<◌, arith}
use Rattle.std.proofs.lemmas.Option.{IfSome_then}
use Rattle.std.proofs.lemmas.Result.{IfOk-weaker}
use Rattle.round_core.specs.Spans.{AreOfOneClass}
use Rattle.round_core.proofs.SpanLemmas.{one_class}
use Rattle.round_core.proofs.spans.middle_instant.Goals as goal

pub returns : goal.returns
returns c =
    let some = c.if-cuts-eq0.false in
    let once : 0 < c.args.cuts = omega (arith, some) in
    let one : AreOfOneClass c.args.items.now =
    one_class c.args.items.now c.in-Some-Some.field-0-1-0.now c.in-Some-Some.field-0-1-1.now c.in-Some-Some.first.now
    c.in-Some-Some.last.now c.requires c.in-Some-Some.ensures.cases.0 c.in-Some-Some.ensures'.cases.0
    c.if-first-last.false in
    IfOk-weaker c.parting_instant.result _ _ (λ middle some. IfSome_then middle some (λ at is. (once, one)))
    c.parting_instant.ensures
