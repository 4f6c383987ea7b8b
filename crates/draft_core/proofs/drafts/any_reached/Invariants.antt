use Rattle.std.proofs.Common.{◌≡◌, take}
use Rattle.std.specs.List.{list_any}
use Rattle.draft_core.specs.Reached.{is_reached}
use Rattle.draft_core.proofs.drafts.any_reached.Given as goal

-- whether the portion overlaps a draft at one of the first indexes
abbrev pub invariant-loop-place : goal.invariant-loop-place
invariant-loop-place l = l.any ≡ list_any (is_reached l.portion l.drafts) (take l.place-index l.places)
