use Rattle.std.proofs.Common.{rules}
use Rattle.std.proofs.lemmas.List.Sorted.{answers_always}
use Rattle.cert_core.proofs.SearchLemmas.{place_found}
use Rattle.cert_core.proofs.places.place_of.Goals as goal

pub returns : goal.returns
returns c =
    let facts = c.binary_search_by_key.ensures in
    let found = place_found c.args.items.now c.args.id c.binary_search_by_key.result c.requires facts.bound
    (facts.position (λ x. x.id) (answers_always _ _ _ (λ f a r g called. search rules))) in
    rw c.ok.ensures.value found
