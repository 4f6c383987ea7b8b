use Rattle.std.proofs.Common.{◌≡◌, map, take}
use Rattle.std.specs.Prelude.{filter}
use Rattle.draft_core.specs.Lent.{lent_draft}
use Rattle.version_core.specs.Finding.{passes}
use Rattle.version_core.specs.Keys.{is_left}
use Rattle.version_core.proofs.KeyLemmas.{drafts_at}
use Rattle.version_core.proofs.keys.rows_left.Given as goal

-- the list has the kept rows at the first positions
abbrev pub invariant-loop-place : goal.invariant-loop-place
invariant-loop-place l =
    map lent_draft l.rows.items ≡ drafts_at l.versions
    (filter (passes l.versions (is_left l.change)) (take l.place-index l.open_at))
