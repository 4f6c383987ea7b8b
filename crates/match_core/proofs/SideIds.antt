-- The ids of a side's items.
use Rattle.std.proofs.Common.{ℕ, ◌+◌, ◌<◌, List, [], ◌∷◌, AllPairs, ◌≡◌, sym, subst, arith}
use Rattle.row_core.specs.declared.row.Row.{Row}
use Rattle.row_core.specs.Rows.{RowsRise}
use Rattle.list_core.proofs.RisingLemmas.{AllPairs-head, AllPairs-tail}
use Rattle.list_core.proofs.WantedLemmas.{AllPairs-before}
use Rattle.dip_core.specs.declared.item.Item.{Item}
use Rattle.dip_core.specs.Item.{HasDistinctIds}
use Rattle.dip_core.proofs.IdsLemmas.{HasDistinctIds-from_rising}
use Rattle.match_core.specs.Items.{item_with, items_with}
use Rattle.match_core.proofs.RowItems.{row_of_item, ids_rise}
use Rattle.match_core.proofs.Sided.{IsSide}

-- the items' ids are in ascending order if the rows' ids are
items-rise : (rows : List Row) (classes : List ℕ) → AllPairs (λ x y. x.id < y.id) rows
    → AllPairs (λ x y. x.id < y.id) (items_with rows classes)
items-rise [] classes rise = λ i j d less h. absurd (omega arith)
items-rise (r ∷ rows) [] rise = λ i j d less h. absurd (omega arith)
items-rise (r ∷ rows) (c ∷ classes) rise =
    AllPairs-before (λ (x : Item) (y : Item). x.id < y.id) (item_with r c) (items_with rows classes)
    (λ y h.
    let a = row_of_item rows classes y h in
    let below : r.id < a.0.id = AllPairs-head (λ (x : Row) (z : Row). x.id < z.id) r rows a.0 rise a.1.row_in in
    let same : y.id ≡ a.0.id = a.1.id in
    omega (arith, below, same))
    (items-rise rows classes (AllPairs-tail (λ (x : Row) (z : Row). x.id < z.id) r rows rise))

-- so they are distinct
pub side-distinct : (rows : List Row) (classes : List ℕ) (items : List Item) → IsSide rows classes items → RowsRise rows
    → HasDistinctIds items
side-distinct rows classes items side rise =
    let all = items-rise rows classes (ids_rise rows rise) in
    subst HasDistinctIds (sym side.are)
    (HasDistinctIds-from_rising (items_with rows classes) (λ i d h. all i (i + 1) d (omega arith) h))
