use Rattle.std.proofs.Common.{◌≡◌, ◌++◌}
use Rattle.std.specs.Vec.Iter.{into_iter_items}
use Rattle.store_core.proofs.spare.changed_by.Given as goal

abbrev pub invariant-loop-commit : goal.invariant-loop-commit
invariant-loop-commit l =
    (goal.iterator-loop-commit).can_next l.commit-iterator × (goal.iterator-loop-commit).is_finite l.commit-iterator
    × (l.yielded ++ into_iter_items l.commit-iterator ≡ into_iter_items l.initial.commit-iterator)
    × (l.book ≡ l.initial.book ++ l.yielded)
