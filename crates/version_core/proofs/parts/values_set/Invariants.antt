use Rattle.std.proofs.Common.{◌≡◌, ◌++◌, drop}
use Rattle.version_core.specs.Wanted.{with_set}
use Rattle.version_core.proofs.parts.values_set.Given as goal

-- the first values are done
abbrev pub invariant-loop-column : goal.invariant-loop-column
invariant-loop-column l =
    l.now.items ++ with_set (drop l.column l.sets) (drop l.column l.values) ≡ with_set l.sets l.values
