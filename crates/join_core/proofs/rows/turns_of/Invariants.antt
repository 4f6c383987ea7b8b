use Rattle.std.proofs.Common.{◌≡◌, take}
use Rattle.join_core.specs.PairValues.{turns_in}
use Rattle.join_core.proofs.rows.turns_of.Given as goal

abbrev pub invariant-loop-i : goal.invariant-loop-i
invariant-loop-i l = l.turns ≡ turns_in (take l.i l.outs)
