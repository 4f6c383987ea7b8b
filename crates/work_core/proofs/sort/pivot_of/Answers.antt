use Rattle.std.proofs.Common.{◌∙◌}
use Rattle.std.proofs.lemmas.List.Sorted.{IsPermutation-append, IsPermutation-refl, IsPermutation-trans}
use Rattle.work_core.proofs.sort.pivot_of.Goals as goal

pub loop-i-preserved : goal.loop-i-preserved
loop-i-preserved g c =
    let inv = c.loop-i.invariant in
    (IsPermutation-trans _ _ _ inv.0 c.swap.ensures.permutation, c.swap.ensures.len ∙ inv.1)

pub returns-clause-permutation : goal.returns-clause-permutation
returns-clause-permutation g c =
    IsPermutation-trans _ _ _ c.loop-i.invariant.0
    (rw c.split_at_mut-sample.ensures.value
    (IsPermutation-append _ _ _ _ c.sort.ensures.permutation (IsPermutation-refl _)))
