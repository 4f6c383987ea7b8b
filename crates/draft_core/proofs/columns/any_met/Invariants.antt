use Rattle.std.proofs.Common.{◌≡◌, take}
use Rattle.std.specs.List.{list_any}
use Rattle.draft_core.specs.Reached.{is_met}
use Rattle.draft_core.proofs.columns.any_met.Given as goal

-- whether the portion overlaps a period at one of the first indexes
abbrev pub invariant-loop-place : goal.invariant-loop-place
invariant-loop-place l = l.any ≡ list_any (is_met l.portion l.periods) (take l.place-index l.places)
