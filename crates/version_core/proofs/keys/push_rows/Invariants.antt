use Rattle.std.proofs.Common.{◌≡◌, ◌++◌, map, take}
use Rattle.draft_core.specs.Lent.{lent_draft}
use Rattle.version_core.proofs.keys.push_rows.Given as goal

-- the first rows have been added
abbrev pub invariant-loop-i : goal.invariant-loop-i
invariant-loop-i l =
    map lent_draft l.rows.items ≡ map lent_draft l.initial.rows.items ++ take l.i l.new
