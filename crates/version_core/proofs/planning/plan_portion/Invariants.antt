use Rattle.std.proofs.Common.{◌≡◌, ◌<◌, ◌++◌, length}
use Rattle.std.specs.Prelude.{filter, All}
use Rattle.std.specs.Slice.Iter.{chunks_rest}
use Rattle.version_core.specs.Finding.{passes}
use Rattle.version_core.specs.OpenVersions.{is_taken}
use Rattle.version_core.specs.Plans.{parts_at}
use Rattle.version_core.specs.declared.change.RowsChange.TheVariants.{Portion}
use Rattle.version_core.proofs.planning.plan_portion.Given as goal

-- with the remaining positions, all are examined
abbrev pub invariant-loop-block : goal.invariant-loop-block
invariant-loop-block l = record {
  can_next : goal.iterator-loop-block.can_next l.block-iterator;
  is_finite : goal.iterator-loop-block.is_finite l.block-iterator;
  inside : All (λ place. place < length l.versions) (chunks_rest l.block-iterator);
  made : l.plan.parts ≡ parts_at (Portion l.change) l.versions l.plan.taken.items;
  taken : l.plan.taken.items ++ filter (passes l.versions (is_taken (Portion l.change)))
      (chunks_rest l.block-iterator)
      ≡ filter (passes l.versions (is_taken (Portion l.change))) l.places;
}
