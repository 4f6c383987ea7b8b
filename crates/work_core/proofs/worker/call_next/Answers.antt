use Rattle.std.proofs.lemmas.Result.{IfOk-weaker}
use Rattle.work_core.specs.declared.kept.KeptValues.{KeptValues}
use Rattle.work_core.specs.Workers.{IsCalled}
use Rattle.work_core.proofs.worker.call_next.Goals as goal

pub returns-in-Ok : goal.returns-in-Ok
returns-in-Ok g c =
    IfOk-weaker c.call_one.result _ _
    (λ (new : KeptValues g.row.C-Out.Denot) (run : IsCalled (g.C.Calls.IsValue c.args.calls.now) c.args.number c.in-Ok.kept new).
    record { before = c.in-Ok.kept; was = c.in-Ok.is; call = run })
    c.call_one.ensures
