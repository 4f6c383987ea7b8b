use Rattle.std.proofs.Common.{subst}
use Rattle.std.specs.List.Sorted.{IsPermutation}
use Rattle.std.proofs.lemmas.List.Sorted.{IsPermutation-trans}
use Rattle.work_core.proofs.sort.sort_by.Goals.{then-not-one_is_enough, else-not-one_is_enough}
use Rattle.work_core.proofs.sort.sort_by.Goals as goal

pub returns-clause-permutation : goal.returns-clause-permutation
returns-clause-permutation g c = elim c.if-not-one_is_enough.branch [
  | then-not-one_is_enough w ↦
      IsPermutation-trans _ _ _ w.sort_parts.ensures.permutation
      (subst (λ l. IsPermutation l c.sort.new.items) w.items-is c.sort.ensures.permutation)
  | else-not-one_is_enough w ↦ subst (λ l. IsPermutation l c.sort.new.items) w.items-is c.sort.ensures.permutation
]
