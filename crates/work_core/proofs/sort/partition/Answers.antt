use Rattle.std.proofs.Common.{rules, ◌∙◌}
use Rattle.std.proofs.lemmas.List.Sorted.{IsPermutation-trans}
use Rattle.work_core.proofs.sort.partition.Goals as goal

pub loop-i-preserved : goal.loop-i-preserved
loop-i-preserved g c =
    let inv = c.loop-i.invariant in
    let swapped = c.swap-in-loop-i.ensures in
    (IsPermutation-trans _ _ _ inv.0 swapped.permutation, swapped.len ∙ inv.1, search rules)

pub returns-clause-permutation : goal.returns-clause-permutation
returns-clause-permutation g c =
    IsPermutation-trans _ _ _ c.pivot_of-pivot.ensures.permutation
    (IsPermutation-trans _ _ _ (IsPermutation-trans _ _ _ c.swap.ensures.permutation c.loop-i.invariant.0)
    c.swap-2.ensures.permutation)
