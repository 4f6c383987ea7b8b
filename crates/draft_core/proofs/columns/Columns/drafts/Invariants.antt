use Rattle.std.proofs.Common.{◌≡◌, take}
use Rattle.draft_core.proofs.columns.Columns.drafts.Given as goal

-- the list has the first rows
abbrev pub invariant-loop-place : goal.invariant-loop-place
invariant-loop-place l = l.drafts.items ≡ take l.place l.self.rows
