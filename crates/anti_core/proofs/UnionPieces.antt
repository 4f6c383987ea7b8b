-- Coalesced partitions of rows.
use Rattle.std.proofs.Common.{◌∙◌, ℕ, List, ◌++◌, Some, None, sym, subst, ap, append-nil}
use Rattle.std.specs.Global.{Vec}
use Rattle.std.specs.Ordering.{nat_cmp}
use Rattle.std.proofs.lemmas.List.Elements.{filter-append}
use Rattle.row_core.specs.declared.row.Row.{Row}
use Rattle.dip_core.specs.declared.item.Item.{Item}
use Rattle.list_core.specs.Chunks.{all_in}
use Rattle.work_core.specs.Pieces.{items_within}
use Rattle.work_core.specs.Ranges.{has, range}
use Rattle.work_core.specs.Shares.{GivesFrom}
use Rattle.work_core.specs.declared.range.Range.{Range}
use Rattle.work_core.specs.declared.shares.Cut.{Cut}
use Rattle.work_core.proofs.PieceLemmas.{piece_cut}
use Rattle.work_core.proofs.ShareLemmas.{all_come}
use Rattle.match_core.specs.Items.{items_in_range, items_with}
use Rattle.match_core.proofs.RowItems.{items_with-piece}
use Rattle.grid_core.specs.Bundles.{items_in}
use Rattle.anti_core.specs.United.{IsUnion}
use Rattle.anti_core.proofs.UnitedLemmas.{AreUnions, unions_both}

-- The result for a partition: the number of workers, the partition's indices, and the coalesced items.
abbrev GivenUnion : Range ℕ → List Row → List ℕ → Range ℕ → Vec Item → Type 0
GivenUnion classed rows classes places union =
    ℕ × (Range ℕ × IsUnion (items_in_range classed (items_within places rows) (items_within places classes)) union.items)

-- the coalesced items of all partitions together cover the same instants as all rows
pub pieces-unions : (classed : Range ℕ) (rows : List Row) (classes : List ℕ) (cuts : List (Cut ℕ))
    (unions : List (Vec Item)) → GivesFrom nat_cmp (GivenUnion classed rows classes) None cuts unions
    → AreUnions (items_in_range classed rows classes) (all_in unions)
pieces-unions classed rows classes cuts unions given =
    let all = items_with rows classes in
    all_come nat_cmp (GivenUnion classed rows classes)
    (λ (places : Range ℕ) (us : List (Vec Item)). AreUnions (items_in classed (items_within places all)) (all_in us))
    (λ places x g.
    subst (AreUnions (items_in classed (items_within places all))) (sym (append-nil x.items)) (one places x g.1.1))
    (λ from at x us begun g rest.
    subst (λ (items : List Item). AreUnions items (x.items ++ all_in us))
    (sym (ap (items_in classed) (piece_cut from at all begun)
    ∙ filter-append (λ (y : Item). has nat_cmp classed y.class) (items_within (range from (Some at)) all)
    (items_within (range (Some at) None) all)))
    (unions_both (items_in classed (items_within (range from (Some at)) all))
    (items_in classed (items_within (range (Some at) None) all)) x.items (all_in us) (one (range from (Some at)) x g.1.1) rest))
    None cuts unions given
  where
    one : (places : Range ℕ) (x : Vec Item)
        → IsUnion (items_in_range classed (items_within places rows) (items_within places classes)) x.items
        → AreUnions (items_in classed (items_within places (items_with rows classes))) x.items
    one places x is =
        let u = subst (λ (items : List Item). IsUnion (items_in classed items) x.items)
        (items_with-piece places rows classes) is in (u.alike, u.fewer)
