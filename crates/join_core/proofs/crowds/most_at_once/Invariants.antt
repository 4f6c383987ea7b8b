use Rattle.join_core.proofs.CrowdSweep.{IsSweeping}
use Rattle.join_core.proofs.crowds.most_at_once.Given as goal

abbrev pub invariant-loop-i : goal.invariant-loop-i
invariant-loop-i l = IsSweeping l.starts l.ends l.i l.most
