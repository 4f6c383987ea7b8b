-- The rows of items, from the rows of parts of them that don't match each other, and from a permutation of them.
use Rattle.std.proofs.Common.{◌≢◌, List, [], ◌++◌, sym, ap, ◌∙◌, inl, inr}
use Rattle.std.specs.Prelude.{Contains, IsPermutation}
use Rattle.std.proofs.lemmas.List.Elements.{Contains-append_left, Contains-append_right, Contains-append_cases}
use Rattle.std.proofs.lemmas.List.Sorted.{Contains-permutation, IsPermutation-sym}
use Rattle.dip_core.specs.declared.item.Item.{Item}
use Rattle.dip_core.specs.Item.{HasDistinctIds}
use Rattle.dip_core.proofs.PartedLemmas.{ids-apart}
use Rattle.list_core.specs.Wanted.{IsListOf}
use Rattle.list_core.proofs.RisingLemmas.{Contains-none}
use Rattle.list_core.proofs.WantedLemmas.{IsListOf-append, IsListOf-none, IsListOf-same}
use Rattle.join_core.specs.declared.rows.JoinRow.{JoinRow}
use Rattle.join_core.specs.ItemJoin.{IsItemsJoinRow, AreItemsRows}

-- an empty list has no rows
pub AreItemsRows-none : (right : List Item) → AreItemsRows [] right []
AreItemsRows-none right =
    IsListOf-none (λ (a b : JoinRow). a ≢ b) (IsItemsJoinRow [] right) (λ row is. Contains-none is.x is.x_in)

-- a row of two items is a row of any lists that contain them
pub row-moved : (left right other_left other_right : List Item) (row : JoinRow) (is : IsItemsJoinRow left right row)
    → Contains other_left is.x → Contains other_right is.y → IsItemsJoinRow other_left other_right row
row-moved left right other_left other_right row is h k = record {
  x = is.x;
  y = is.y;
  x_in = h;
  y_in = k;
  left_id = is.left_id;
  right_id = is.right_id;
  matches = is.matches;
  shared = is.shared;
}

-- the rows of items, and of more items that match none of them
pub AreItemsRows-append : (left right p q : List Item) (rows more : List JoinRow) → HasDistinctIds (left ++ p)
    → ((x y : Item) → Contains left x → Contains q y → x.class ≢ y.class)
    → ((x y : Item) → Contains p x → Contains right y → x.class ≢ y.class) → AreItemsRows left right rows
    → AreItemsRows p q more → AreItemsRows (left ++ p) (right ++ q) (rows ++ more)
AreItemsRows-append left right p q rows more distinct forth back one other =
    IsListOf-append (λ (a b : JoinRow). a ≢ b) (IsItemsJoinRow left right) (IsItemsJoinRow p q)
    (IsItemsJoinRow (left ++ p) (right ++ q)) rows more one other
    (λ a b i j same.
    ids-apart left p i.x j.x distinct i.x_in j.x_in
    (sym i.left_id ∙ ap (λ (v : JoinRow). v.left) same ∙ j.left_id))
    (λ row is.
    row-moved left right (left ++ p) (right ++ q) row is (Contains-append_left left p is.x is.x_in)
    (Contains-append_left right q is.y is.y_in))
    (λ row is.
    row-moved p q (left ++ p) (right ++ q) row is (Contains-append_right left p is.x is.x_in)
    (Contains-append_right right q is.y is.y_in))
    (λ row is. elim (Contains-append_cases left p is.x is.x_in) [
      | inl h ↦ elim (Contains-append_cases right q is.y is.y_in) [
        | inl k ↦ inl (row-moved (left ++ p) (right ++ q) left right row is h k)
        | inr k ↦ absurd (forth is.x is.y h k is.matches)
      ]
      | inr h ↦ elim (Contains-append_cases right q is.y is.y_in) [
        | inl k ↦ absurd (back is.x is.y h k is.matches)
        | inr k ↦ inr (row-moved (left ++ p) (right ++ q) p q row is h k)
      ]
    ])

-- permuted items have the same rows
pub rows-permutation : (left right other_left other_right : List Item) → IsPermutation left other_left
    → IsPermutation right other_right → (Before : JoinRow → JoinRow → Type 0) (rows : List JoinRow)
    → IsListOf Before (IsItemsJoinRow other_left other_right) rows → IsListOf Before (IsItemsJoinRow left right) rows
rows-permutation left right other_left other_right lefts rights Before rows lists =
    IsListOf-same Before (IsItemsJoinRow other_left other_right) (IsItemsJoinRow left right) rows
    (λ row is.
    row-moved other_left other_right left right row is
    (Contains-permutation other_left left is.x (IsPermutation-sym left other_left lefts) is.x_in)
    (Contains-permutation other_right right is.y (IsPermutation-sym right other_right rights) is.y_in))
    (λ row is.
    row-moved left right other_left other_right row is (Contains-permutation left other_left is.x lefts is.x_in)
    (Contains-permutation right other_right is.y rights is.y_in))
    lists
