use Rattle.std.proofs.lemmas.List.Sorted.{IsPermutation-append, IsPermutation-trans}
use Rattle.work_core.proofs.sort.+parts.Goals as goal

pub sort_parts-returns-then-items-ge-SAMPLE-clause-permutation : goal.sort_parts-returns-then-items-ge-SAMPLE-clause-permutation
sort_parts-returns-then-items-ge-SAMPLE-clause-permutation g t c =
    let cut = c.split_at_mut-low.ensures in
    let both = c.sort_both.ensures in
    IsPermutation-trans _ _ _ c.partition-at.ensures.permutation
    (rw cut.value (IsPermutation-append _ _ _ _ both.low both.high))
