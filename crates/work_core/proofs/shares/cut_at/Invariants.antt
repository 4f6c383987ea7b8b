use Rattle.std.proofs.Common.{◌-◌}
use Rattle.work_core.specs.Shares.{IsCutUpto}
use Rattle.work_core.proofs.shares.cut_at.Given as goal

abbrev pub invariant-loop-part : goal.invariant-loop-part
invariant-loop-part g l = IsCutUpto g.T.Ord.cmp l.workers (l.parts - l.part) l.cuts.items l.last l.some l.left
