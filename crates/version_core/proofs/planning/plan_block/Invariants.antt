use Rattle.std.proofs.Common.{◌≡◌, ◌++◌, take}
use Rattle.std.specs.Prelude.{filter}
use Rattle.version_core.specs.Finding.{passes}
use Rattle.version_core.specs.OpenVersions.{is_taken}
use Rattle.version_core.specs.Plans.{parts_at}
use Rattle.version_core.specs.declared.change.RowsChange.TheVariants.{Portion}
use Rattle.version_core.proofs.planning.plan_block.Given as goal

-- the positions removed among the first ones, and what replaces their rows
abbrev pub invariant-loop-place : goal.invariant-loop-place
invariant-loop-place l = record {
  made : l.plan.parts ≡ parts_at (Portion l.change) l.versions l.plan.taken.items;
  taken : l.plan.taken.items ≡ l.initial.plan.taken.items
      ++ filter (passes l.versions (is_taken (Portion l.change))) (take l.place-index l.places);
}
