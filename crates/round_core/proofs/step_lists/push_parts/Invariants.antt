use Rattle.std.proofs.Common.{take}
use Rattle.dip_core.specs.Division.{all_of}
use Rattle.round_core.specs.ClassLists.{AddsSteps}
use Rattle.round_core.proofs.step_lists.push_parts.Given as goal

abbrev pub invariant-loop-number : goal.invariant-loop-number
invariant-loop-number l = AddsSteps l.class (all_of (take l.number l.division)) l.initial.lists.items l.lists.items
