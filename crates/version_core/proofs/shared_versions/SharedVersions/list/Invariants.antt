use Rattle.std.proofs.Common.{◌≡◌, take}
use Rattle.version_core.proofs.shared_versions.SharedVersions.list.Given as goal

-- the list has the first versions
abbrev pub invariant-loop-i : goal.invariant-loop-i
invariant-loop-i l = l.list.items ≡ take l.i l.self
