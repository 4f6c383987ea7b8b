use Rattle.std.proofs.Common.{None, Some}
use Rattle.std.proofs.lemmas.Result.{IfOk-at_ok, IfOk-weaker}
use Rattle.work_core.specs.Ranges.{range}
use Rattle.round_core.specs.Spans.{ArePlateausWithin}
use Rattle.round_core.proofs.SpanLemmas.{ArePlateaus-spliced}
use Rattle.round_core.proofs.splicing.both_spliced.Goals as goal

pub returns : goal.returns
returns c = λ measure at items one before behind.
    (let early = IfOk-at_ok (ArePlateausWithin (range None (Some at)) measure items) c.in_ok-early.was before in
    let late = IfOk-at_ok (ArePlateausWithin (range (Some at) None) measure items) c.in_ok-late.was behind in
    IfOk-weaker c.spliced.result _ _
    (λ rows s.
    ArePlateaus-spliced measure one.class at items early.cut late.cut one.own early.within late.within
    c.in_ok-early.field-0 c.in_ok-late.field-0 early.all late.all rows s)
    c.spliced.ensures)
