use Rattle.std.proofs.Common.{◌≡◌}
use Rattle.list_core.specs.Chunks.{all_in}
use Rattle.list_core.proofs.lists.in_one_list.Given as goal

-- the items of the first lists have been added
abbrev pub invariant-loop-list : goal.invariant-loop-list
invariant-loop-list g l = l.items.items ≡ all_in l.yielded
