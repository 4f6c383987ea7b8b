use Rattle.std.proofs.Common.{refl}
use Rattle.std.specs.Fn.{FnOnceReturnsAtMut}
use Rattle.turn_core.proofs.Served.{keeps-on, ran-on}
use Rattle.turn_core.proofs.turn.Turn.with.Goals as goal

pub pass_on-requires-clause-keeps : goal.pass_on-requires-clause-keeps
pass_on-requires-clause-keeps g c =
    let ran : FnOnceReturnsAtMut g.F.FnOnce c.args.f c.take-state.result c.f-result.result c.f-result.new.arg2 =
    record { shown = _; shows = refl; left = _; met = c.f-result.ensures; leaves = refl } in
    keeps-on _ _ _ _ _ _ _ _ _ c.draw-ticket.ensures.drew.1 _ _ _ _ c.take-state.ensures.view
    c.take-state.ensures.lent c.requires.keeps ran

pub returns-clause-ran : goal.returns-clause-ran
returns-clause-ran g c =
    let ran : FnOnceReturnsAtMut g.F.FnOnce c.args.f c.take-state.result c.f-result.result c.f-result.new.arg2 =
    record { shown = _; shows = refl; left = _; met = c.f-result.ensures; leaves = refl } in
    ran-on _ _ _ _ _ _ _ _ _ c.draw-ticket.ensures.drew.1 _ _ _ _ c.take-state.ensures.view
    c.take-state.ensures.lent c.requires.keeps ran _ c.pass_on.ensures.view c.pass_on.ensures.numbered
