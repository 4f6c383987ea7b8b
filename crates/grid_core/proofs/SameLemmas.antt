-- `==` decides equality of items.
use Rattle.std.proofs.Common.{◌≡◌, List, Bool, ap}
use Rattle.std.specs.Bool.{Decides}
use Rattle.std.proofs.lemmas.Bool.Decides.{Decides-eqb, Decides-int_eq, Decides-and, Decides-like}
use lib.Pointwise.{pointwise}
use Rattle.std.proofs.lemmas.Slice.Eq.{slice_eq-Decides}
use Rattle.period_core.proofs.PeriodLemmas.{Period-same}
use Rattle.dip_core.specs.declared.item.Item.{Item}
use Rattle.dip_core.specs.contracts.item.ItemPartialEq.TheImpl.{eq-value}
use Rattle.dip_core.proofs.PartedLemmas.{Item-same}

-- `==` decides whether two items are equal
pub item_eq-Decides : (a b : Item) → Decides (eq-value.it a b) (a ≡ b)
item_eq-Decides a b = Decides-like _
    (λ h. Item-same a b (Period-same a.period b.period h.0.0 h.0.1) h.1.0 h.1.1.0 h.1.1.1)
    (λ e. (
      (ap (λ (v : Item). v.period.from) e, ap (λ (v : Item). v.period.to) e),
      (ap (λ (v : Item). v.id) e, (ap (λ (v : Item). v.class) e, ap (λ (v : Item). v.amount) e)),
    ))
    (Decides-and _ _
    (Decides-and _ _ (Decides-int_eq a.period.from b.period.from) (Decides-int_eq a.period.to b.period.to))
    (Decides-and _ _ (Decides-eqb a.id b.id)
    (Decides-and _ _ (Decides-eqb a.class b.class) (Decides-int_eq a.amount b.amount))))

-- `==` decides whether two lists of items are equal
pub items_eq-Decides : (xs ys : List Item) (r : Bool) → r ≡ pointwise eq-value.it xs ys → Decides r (xs ≡ ys)
items_eq-Decides xs ys r e = slice_eq-Decides item_eq-Decides xs ys r e
