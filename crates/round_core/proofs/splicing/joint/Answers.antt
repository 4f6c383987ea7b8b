use Rattle.round_core.proofs.SpanLemmas.{joint_known}
use Rattle.round_core.proofs.splicing.joint.Goals as goal

pub returns : goal.returns
returns c =
    joint_known c.args.early.now c.args.late.now c.in_ok-last.ensures.0 c.in_ok-first.ensures.0 c.in_ok-last.last.now
    c.in_ok-first.first.now c.in_ok-last.ensures.1 c.in_ok-first.ensures.1 c.joined.result c.joined.ensures
