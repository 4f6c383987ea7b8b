-- The result of a binary search for an id.
use Rattle.std.proofs.Common.{◌≡◌, ◌≢◌, ℕ, ◌<◌, List, length, get_or, arith, sym, ap, ◌∙◌, inl, inr}
use Rattle.std.specs.Prelude.{Result, Ok, Err, MatchOption}
use Rattle.std.specs.Result.{result_ok}
use Rattle.std.specs.List.Sorted.{IsBinarySearchResult, IsSearchInRange}
use Rattle.std.specs.declared.cmp.Ordering.TheVariants.{Less, Equal, Greater}
use Rattle.std.specs.Ordering.{nat_cmp, MatchOrdering}
use Rattle.std.proofs.lemmas.Bool.{cases_lt}
use Rattle.std.proofs.lemmas.Cmp.{nat_cmp_total, ranked}
use Rattle.std.proofs.lemmas.List.Sorted.{searchable_from_sorted}
use Rattle.list_core.proofs.OrderedLemmas.{sorted-from_rise}
use Rattle.dip_core.specs.declared.item.Item.{Item}
use Rattle.dip_core.specs.Item.{IdsRise}
use Rattle.cert_core.specs.Places.{id_at}
use Rattle.cert_core.proofs.IdsLemmas.{id_at-get_or, item_at}

pub place_found : (items : List Item) (id : ℕ) (r : Result ℕ ℕ) → IdsRise items → IsSearchInRange r (length items)
    → IsBinarySearchResult (λ x. nat_cmp x.id id) items r
    → MatchOption (result_ok r) ((p : ℕ) → p < length items → id_at items p ≢ id)
    (λ p. (p < length items) × (id_at items p ≡ id))
place_found items id (Ok p) rise within found =
    let (x, is, same) = item_at items p within in
    let equal : MatchOrdering Equal ((get_or items p x).id < id) ((get_or items p x).id ≡ id)
    (id < (get_or items p x).id) = ranked (get_or items p x).id id Equal (sym (found x)) in
    (within, same ∙ (ap (λ (y : Item). y.id) (sym is) ∙ equal))
place_found items id (Err i) rise within found = λ p h same.
    let sorted = sorted-from_rise (λ (x : Item). x.id) items rise in
    let point = found (searchable_from_sorted nat_cmp_total (λ x. x.id) items id sorted) in
    let (x, is, _) = item_at items p h in
    let here : (get_or items p x).id ≡ id = sym (id_at-get_or items p x h) ∙ same in
    elim (cases_lt p i) [
      | inl less ↦
          let below : MatchOrdering Less ((get_or items p x).id < id) ((get_or items p x).id ≡ id)
          (id < (get_or items p x).id) =
          ranked (get_or items p x).id id Less (sym (point.0 p x (omega arith) less)) in
          absurd (omega arith)
      | inr more ↦
          let above : MatchOrdering Greater ((get_or items p x).id < id) ((get_or items p x).id ≡ id)
          (id < (get_or items p x).id) = ranked (get_or items p x).id id Greater (sym (point.1 p x more h)) in
          absurd (omega arith)
    ]
