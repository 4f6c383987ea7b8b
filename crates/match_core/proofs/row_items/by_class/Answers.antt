use Rattle.std.proofs.Common.{List, refl, rules, subst}
use Rattle.std.specs.List.Sorted.{IsNonDecreasingBy}
use Rattle.std.proofs.lemmas.List.Sorted.{IsNonDecreasingBy-from_sort_by_key, IsPermutation-refl}
use Rattle.match_core.specs.declared.row_items.ClassedPlace.{ClassedPlace}
use Rattle.match_core.proofs.row_items.by_class.Goals as goal

pub returns-clause-rise : goal.returns-clause-rise
returns-clause-rise g c =
    IsNonDecreasingBy-from_sort_by_key (λ (at : ClassedPlace). at.class) c.sort_unstable_by_key.new.items.items
    c.sort_unstable_by_key.ensures.sorted (λ a r f called. search rules)

pub returns-then-are_by_class-clause-same : goal.returns-then-are_by_class-clause-same
returns-then-are_by_class-clause-same g c = IsPermutation-refl c.args.places.items

pub returns-then-are_by_class-clause-rise : goal.returns-then-are_by_class-clause-rise
returns-then-are_by_class-clause-rise g c =
    subst (λ (l : List ClassedPlace). IsNonDecreasingBy (λ (at : ClassedPlace). at.class) l) c.deref.ensures.value
    (c.if-are_by_class.ensures refl)
