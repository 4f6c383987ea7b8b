use Rattle.std.proofs.Common.{rules}
use Rattle.std.proofs.lemmas.Fn.{always_returns_same}
use Rattle.match_core.specs.declared.row_items.ClassedPlace.{ClassedPlace}
use Rattle.match_core.proofs.PlacedLemmas.{rise-from_test}
use Rattle.match_core.proofs.row_items.are_by_class.Goals as goal

pub returns : goal.returns
returns c =
    rise-from_test c.args.places.now c.is_sorted_by_key.result
    (c.is_sorted_by_key.ensures.cases (λ (at : ClassedPlace). at.class)
    (always_returns_same _ _ _ (λ a r f called. search rules)))
