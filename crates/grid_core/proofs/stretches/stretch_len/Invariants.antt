use Rattle.std.proofs.Common.{◌≤◌}
use Rattle.grid_core.proofs.stretches.stretch_len.Given as goal

abbrev pub invariant-loop-len : goal.invariant-loop-len
invariant-loop-len l = l.items ≤ 3_000_000
