use Rattle.std.proofs.Common.{◌-◌, ◌≤◌, take}
use Rattle.std.specs.Option.{ForSome}
use Rattle.dip_core.specs.Division.{all_of, part_at}
use Rattle.merge_core.specs.Gaps.{ListsGaps}
use Rattle.anti_core.specs.PairGaps.{AreGapsFrom}
use Rattle.anti_core.proofs.part_gaps.gaps_of_part.Given as goal

abbrev pub invariant-loop-done : goal.invariant-loop-done
invariant-loop-done g l = (l.done ≤ l.rights)
    × ListsGaps (part_at l.pairs.left.now l.number) (all_of (take l.done l.pairs.right.now)) l.gaps
    × ForSome l.supply (λ s. AreGapsFrom l.pairs.left.now l.pairs.right.now s.first s.values)

abbrev pub decreases-loop-done : goal.decreases-loop-done
decreases-loop-done g l = l.rights - l.done
