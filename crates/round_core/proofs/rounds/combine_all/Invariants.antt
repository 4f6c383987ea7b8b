use Rattle.std.proofs.Common.{◌+◌, length, IsTrue}
use Rattle.std.specs.Prelude.{if◌then◌else◌}
use Rattle.round_core.specs.ClassLists.{HaveNoNeighbours, IsRound}
use Rattle.round_core.proofs.rounds.combine_all.Given as goal

abbrev pub invariant-rounds : goal.invariant-rounds
invariant-rounds g l = record {
  round : IsRound l.fn.lists.items l.lists.items;
  done : IsTrue l.done → HaveNoNeighbours l.lists.items;
}

abbrev pub decreases-rounds : goal.decreases-rounds
decreases-rounds g l = length l.lists.items + (if l.done then 0 else 1)
