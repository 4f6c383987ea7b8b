-- The rows of items, part by part, and for the items that were divided.
use Rattle.std.proofs.Common.{◌≡◌, ◌≢◌, ℕ, ◌+◌, ◌<◌, ℤ, List, [], ◌++◌, Option, Some, None, length, map, take, drop, refl, sym, subst, ap, ◌∙◌, inl, inr, arith, append-nil}
use Rattle.std.specs.Prelude.{◌<ℤ◌, Contains, IsPermutation}
use Rattle.std.specs.Global.{Vec}
use Rattle.std.specs.Ordering.{nat_cmp}
use Rattle.std.proofs.lemmas.Int.{ints}
use Rattle.std.proofs.lemmas.List.{take-append-drop}
use Rattle.std.proofs.lemmas.List.Elements.{Contains-append_left, Contains-append_right, Contains-append_cases}
use Rattle.std.proofs.lemmas.List.Sorted.{Contains-permutation, IsPermutation-sym}
use Rattle.dip_core.specs.declared.item.Item.{Item}
use Rattle.dip_core.specs.Item.{HasDistinctIds}
use Rattle.dip_core.specs.Division.{all_of, part_at}
use Rattle.list_core.specs.Chunks.{all_in}
use Rattle.list_core.specs.Wanted.{IsListOf}
use Rattle.list_core.proofs.RisingLemmas.{Contains-none}
use Rattle.list_core.proofs.WantedLemmas.{IsListOf-append, IsListOf-none, IsListOf-same}
use Rattle.merge_core.specs.declared.gap.Gap.{Gap}
use Rattle.merge_core.specs.Gaps.{IsCovered, IsUncovered, IsGap, GapStartsBefore, ListsGaps}
use Rattle.merge_core.proofs.SweepLemmas.{IsMaximal-same}
use Rattle.work_core.specs.Pieces.{items_within, piece_before, piece_from}
use Rattle.work_core.specs.Ranges.{range}
use Rattle.work_core.specs.Shares.{GivesFrom}
use Rattle.work_core.specs.declared.range.Range.{Range}
use Rattle.work_core.specs.declared.shares.Cut.{Cut}
use Rattle.work_core.proofs.PieceLemmas.{piece_cut}
use Rattle.work_core.proofs.ShareLemmas.{all_come}
use Rattle.anti_core.specs.declared.rows.AntiRow.{AntiRow}
use Rattle.anti_core.specs.Anti.{AntiRowBefore}
use Rattle.anti_core.specs.ItemAnti.{row_of_gap, IsItemsAntiRow, AreItemsRows, IsItemsAnti}
use Rattle.list_core.proofs.MadeLemmas.{Contains-map, Contains-map_source, AllPairs-map}
use Rattle.dip_core.proofs.PartedLemmas.{all_of-more, distinct-earlier, distinct-later, ids-apart}
use Rattle.anti_core.proofs.OrderLemmas.{AntiRow-same_fields}
use Rattle.anti_core.proofs.PartLemmas.{parts-apart}

-- ---- part by part

-- an empty list has no rows
pub AreItemsRows-none : (right : List Item) (rows : List AntiRow) → rows ≡ [] → AreItemsRows [] right rows
AreItemsRows-none right rows e =
    subst (AreItemsRows [] right) (sym e)
    (IsListOf-none (λ (a b : AntiRow). a ≢ b) (IsItemsAntiRow [] right) (λ row is. Contains-none is.x is.x_in))

-- the row of a gap
row-of_gap : (p right : List Item) (gap : Gap) → IsGap p right gap → IsItemsAntiRow p right (row_of_gap gap)
row-of_gap p right gap is = record { x = gap.left; x_in = is.left_in; id = refl; maximal = is.maximal }

-- a row belongs to a gap
row-from_gaps : (p right : List Item) (gaps : List Gap) → ListsGaps p right gaps → (row : AntiRow)
    → IsItemsAntiRow p right row → Contains (map row_of_gap gaps) row
row-from_gaps p right gaps lists row is =
    let gap : Gap = record { left = is.x; period = row.period } in
    let there : Contains gaps gap =
    (lists.exactly gap).1 (record { left_in = is.x_in; maximal = is.maximal }) in
    let e : row_of_gap gap ≡ row = AntiRow-same_fields (row_of_gap gap) row (sym is.id) refl in
    subst (Contains (map row_of_gap gaps)) e (Contains-map row_of_gap gaps gap there)

-- the gaps of one part are its rows
AreItemsRows-from_gaps : (p right : List Item) (gaps : List Gap) → ListsGaps p right gaps
    → AreItemsRows p right (map row_of_gap gaps)
AreItemsRows-from_gaps p right gaps lists = record {
  ordered = AllPairs-map GapStartsBefore (λ (a b : AntiRow). a ≢ b) row_of_gap gaps
      (λ g k there before same.
      let first : g.period.from <ℤ k.period.from = before in
      let e : g.period.from ≡ k.period.from = ap (λ (v : AntiRow). v.period.from) same in
      absurd (omega (arith, ints)))
      lists.ordered;
  exactly = λ row. (
    λ h. (let at = Contains-map_source row_of_gap gaps row h in
        subst (IsItemsAntiRow p right) at.2 (row-of_gap p right at.0 ((lists.exactly at.0).0 at.1))),
    λ is. row-from_gaps p right gaps lists row is,
  );
}

-- a row of some items is a row of more items
row-of_more : (xs ys right : List Item) → ((x : Item) → Contains xs x → Contains ys x) → (row : AntiRow)
    → IsItemsAntiRow xs right row → IsItemsAntiRow ys right row
row-of_more xs ys right more row is = record { x = is.x; x_in = more is.x is.x_in; id = is.id; maximal = is.maximal }

-- the rows of some items, followed by the rows of others
AreItemsRows-both : (xs ys right : List Item) (rows more : List AntiRow)
    → ((x y : Item) → Contains xs x → Contains ys y → x.id ≡ y.id → ⊥) → AreItemsRows xs right rows
    → AreItemsRows ys right more → AreItemsRows (xs ++ ys) right (rows ++ more)
AreItemsRows-both xs ys right rows more apart one other =
    IsListOf-append (λ (a b : AntiRow). a ≢ b) (IsItemsAntiRow xs right) (IsItemsAntiRow ys right)
    (IsItemsAntiRow (xs ++ ys) right)
    rows more one other
    (λ a b i j same. apart i.x j.x i.x_in j.x_in (sym i.id ∙ ap (λ (v : AntiRow). v.id) same ∙ j.id))
    (row-of_more xs (xs ++ ys) right (Contains-append_left xs ys))
    (row-of_more ys (xs ++ ys) right (Contains-append_right xs ys))
    (λ row is. elim (Contains-append_cases xs ys is.x is.x_in) [
      | inl k ↦ inl (record { x = is.x; x_in = k; id = is.id; maximal = is.maximal })
      | inr k ↦ inr (record { x = is.x; x_in = k; id = is.id; maximal = is.maximal })
    ])

-- the rows of one more left part
pub AreItemsRows-more : (ps : List (List Item)) (l : ℕ) (right : List Item) (old new : List AntiRow)
    (gaps slice : List Gap) → l < length ps → HasDistinctIds (all_of ps) → AreItemsRows (all_of (take l ps)) right old
    → ListsGaps (part_at ps l) right gaps → slice ≡ gaps → new ≡ old ++ map row_of_gap slice
    → AreItemsRows (all_of (take (l + 1) ps)) right new
AreItemsRows-more ps l right old new gaps slice inside distinct before lists same e =
    subst (λ z. AreItemsRows z right new) (sym (all_of-more ps l inside))
    (subst (AreItemsRows (all_of (take l ps) ++ part_at ps l) right)
    (sym (e ∙ ap (λ z. old ++ map row_of_gap z) same))
    (AreItemsRows-both (all_of (take l ps)) (part_at ps l) right old (map row_of_gap gaps)
    (λ x y h k same. parts-apart ps l x y inside distinct h k same) before
    (AreItemsRows-from_gaps (part_at ps l) right gaps lists)))

-- ---- the left items, partition by partition

-- ids that are distinct in the list are distinct in a partition
before-distinct : (end : Option ℕ) (items : List Item) → HasDistinctIds items → HasDistinctIds (piece_before end items)
before-distinct None items ids = ids
before-distinct (Some n) items ids =
    distinct-earlier (take n items) (drop n items) (subst HasDistinctIds (sym (take-append-drop n items)) ids)

from-distinct : (start : Option ℕ) (items : List Item) → HasDistinctIds items → HasDistinctIds (piece_from start items)
from-distinct None items ids = ids
from-distinct (Some n) items ids =
    distinct-later (take n items) (drop n items) (subst HasDistinctIds (sym (take-append-drop n items)) ids)

pub piece-distinct : (places : Range ℕ) (items : List Item) → HasDistinctIds items → HasDistinctIds (items_within places items)
piece-distinct places items ids =
    from-distinct places.from (piece_before places.before items) (before-distinct places.before items ids)

-- The result for a partition: the number of workers, the partition's indices, and the rows.
abbrev GivenRows : List Item → List Item → Range ℕ → Vec AntiRow → Type 0
GivenRows left right places rows = ℕ × (Range ℕ × AreItemsRows (items_within places left) right rows.items)

-- the rows of all partitions together are the rows of all left items
pub pieces-rows : (left right : List Item) (cuts : List (Cut ℕ)) (lists : List (Vec AntiRow)) → HasDistinctIds left
    → GivesFrom nat_cmp (GivenRows left right) None cuts lists → AreItemsRows left right (all_in lists)
pieces-rows left right cuts lists ids given =
    all_come nat_cmp (GivenRows left right)
    (λ (places : Range ℕ) (ls : List (Vec AntiRow)). AreItemsRows (items_within places left) right (all_in ls))
    (λ places x g. subst (AreItemsRows (items_within places left) right) (sym (append-nil x.items)) g.1.1)
    (λ from at x ls begun g rest.
    (let front = items_within (range from (Some at)) left in
    let back = items_within (range (Some at) None) left in
    let whole = piece_cut from at left begun in
    subst (λ (xs : List Item). AreItemsRows xs right (x.items ++ all_in ls)) (sym whole)
    (AreItemsRows-both front back right x.items (all_in ls)
    (λ y z h k same.
    ids-apart front back y z (subst HasDistinctIds whole (piece-distinct (range from None) left ids)) h k same)
    g.1.1 rest)))
    None cuts lists given

-- ---- in order

-- all rows, sorted
pub IsItemsAnti-ordered : (left right : List Item) (found rows : List AntiRow) → AreItemsRows left right found
    → IsListOf AntiRowBefore (Contains found) rows → IsItemsAnti left right rows
IsItemsAnti-ordered left right found rows all lists =
    IsListOf-same AntiRowBefore (Contains found) (IsItemsAntiRow left right) rows (λ row. (all.exactly row).0)
    (λ row. (all.exactly row).1) lists

-- ---- the items that were divided

-- an item that covers an instant is in the other list, too
pub covered-there : (right other : List Item) → ((y : Item) → Contains right y → Contains other y) → (x : Item) (t : ℤ)
    → IsCovered right x t → IsCovered other x t
covered-there right other there x t is =
    record { by = is.by; by_in = there is.by is.by_in; matches = is.matches; holds = is.holds }

-- permuted items have the same rows
module _ (left other_left right other_right : List Item) (lefts : IsPermutation left other_left)
    (rights : IsPermutation right other_right) where
  uncovered-there : (x : Item) (t : ℤ) → IsUncovered right x t → IsUncovered other_right x t
  uncovered-there x t is = record {
    held = is.held;
    uncovered = λ c. is.uncovered (covered-there other_right right
        (λ y h. Contains-permutation other_right right y (IsPermutation-sym right other_right rights) h) x t c);
  }

  uncovered-back : (x : Item) (t : ℤ) → IsUncovered other_right x t → IsUncovered right x t
  uncovered-back x t is = record {
    held = is.held;
    uncovered = λ c. is.uncovered
        (covered-there right other_right (λ y h. Contains-permutation right other_right y rights h) x t c);
  }

  row-there : (row : AntiRow) → IsItemsAntiRow left right row → IsItemsAntiRow other_left other_right row
  row-there row is = record {
    x = is.x;
    x_in = Contains-permutation left other_left is.x lefts is.x_in;
    id = is.id;
    maximal = IsMaximal-same (IsUncovered right is.x) (IsUncovered other_right is.x) row.period (uncovered-there is.x)
        (uncovered-back is.x) is.maximal;
  }

  row-back : (row : AntiRow) → IsItemsAntiRow other_left other_right row → IsItemsAntiRow left right row
  row-back row is = record {
    x = is.x;
    x_in = Contains-permutation other_left left is.x (IsPermutation-sym left other_left lefts) is.x_in;
    id = is.id;
    maximal = IsMaximal-same (IsUncovered other_right is.x) (IsUncovered right is.x) row.period (uncovered-back is.x)
        (uncovered-there is.x) is.maximal;
  }

  pub rows-permutation : (Before : AntiRow → AntiRow → Type 0) (rows : List AntiRow)
      → IsListOf Before (IsItemsAntiRow other_left other_right) rows → IsListOf Before (IsItemsAntiRow left right) rows
  rows-permutation Before rows lists =
      IsListOf-same Before (IsItemsAntiRow other_left other_right) (IsItemsAntiRow left right) rows row-back
      row-there lists
