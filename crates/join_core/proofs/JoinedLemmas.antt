-- The join of two lists of items, from the values of all pairs of their parts.
use Rattle.std.proofs.Common.{◌≡◌, ◌≢◌, ℕ, ◌+◌, ◌*◌, ◌/◌, ◌%◌, ◌<◌, List, length, AllPairs, Some, sym, subst, ap, ◌∙◌, arith}
use Rattle.std.specs.Prelude.{IsPermutation, IsSorted, Contains, slice_get}
use Rattle.std.proofs.lemmas.List.Sorted.{Contains-permutation, IsPermutation-sym}
use Rattle.std.proofs.lemmas.Nat.{div-add-mod'}
use Rattle.std.proofs.Math.Arith.{digits_lt}
use Rattle.dip_core.specs.declared.item.Item.{Item}
use Rattle.dip_core.specs.Item.{HasDistinctIds}
use Rattle.dip_core.specs.Division.{all_of, part_at}
use Rattle.dip_core.proofs.DivisionLemmas.{HasDistinctIds-permutation}
use Rattle.dip_core.proofs.StepLemmas.{contains-all_of}
use Rattle.dip_core.proofs.PartedLemmas.{one_item}
use Rattle.join_core.specs.declared.join_pairs.JoinOut.{JoinOut}
use Rattle.join_core.specs.declared.rows.JoinRow.{JoinRow}
use Rattle.join_core.specs.Join.{join_cmp}
use Rattle.join_core.specs.ItemJoin.{IsItemsJoinRow, AreItemsRows, IsItemsJoin}
use Rattle.join_core.specs.PairValues.{AreFirstValues, rows_in}
use Rattle.join_core.proofs.ItemLemmas.{row-moved, rows-permutation}
use Rattle.join_core.proofs.ListLemmas.{AllPairs-flat_map, Contains-flat_map, Contains-flat_map_source}
use Rattle.join_core.proofs.OrderLemmas.{sorted_rows}
use Rattle.join_core.proofs.PairLemmas.{rows_at, rows_of, there}
use Rattle.join_core.proofs.PartLemmas.{one_part, part_of}

-- the item with an id is in one part
one-part_of_id : (ps : List (List Item)) (i j : ℕ) (x y : Item) → HasDistinctIds (all_of ps)
    → Contains (part_at ps i) x → Contains (part_at ps j) y → x.id ≡ y.id → i ≡ j
one-part_of_id ps i j x y distinct h k e =
    one_part ps i j x distinct h
    (subst (Contains (part_at ps j))
    (sym (one_item (all_of ps) x y distinct (contains-all_of ps i x h) (contains-all_of ps j y k) e)) k)

module _ (ps qs : List (List Item)) (outs : List (JoinOut JoinRow)) (len : length outs ≡ length ps * length qs)
    (values : AreFirstValues ps qs outs) (left_ids : HasDistinctIds (all_of ps))
    (right_ids : HasDistinctIds (all_of qs)) where
  -- the rows of a pair, by its number
  rows-of_pair : (i : ℕ) (o : JoinOut JoinRow) → slice_get outs i ≡ Some o
      → AreItemsRows (part_at ps (i / length qs)) (part_at qs (i % length qs)) o.hits.items
  rows-of_pair i o at = rows_at ps qs outs values left_ids right_ids i o at

  -- a row of some pair is a row of all items
  row-of_all : (row : JoinRow) → Contains (rows_in outs) row → IsItemsJoinRow (all_of ps) (all_of qs) row
  row-of_all row c =
      let (i, o, at, row_in) = Contains-flat_map_source (λ (out : JoinOut JoinRow). out.hits.items) outs row c in
      let w = ((rows-of_pair i o at).exactly row).0 row_in in
      row-moved (part_at ps (i / length qs)) (part_at qs (i % length qs)) (all_of ps) (all_of qs) row w
      (contains-all_of ps (i / length qs) w.x w.x_in) (contains-all_of qs (i % length qs) w.y w.y_in)

  -- a row of all items is a row of some pair
  row-of_pairs : (row : JoinRow) → IsItemsJoinRow (all_of ps) (all_of qs) row → Contains (rows_in outs) row
  row-of_pairs row w =
      let (l, l_in, x_in) = part_of ps w.x w.x_in in
      let (r, r_in, y_in) = part_of qs w.y w.y_in in
      let inside : l * length qs + r < length outs = (let d = digits_lt l_in r_in in omega (arith, d, len)) in
      let (o, at) = there outs (l * length qs + r) inside in
      Contains-flat_map (λ (out : JoinOut JoinRow). out.hits.items) outs (l * length qs + r) o row at
      (((rows_of ps qs outs values left_ids right_ids l r o r_in at).exactly row).1
      (row-moved (all_of ps) (all_of qs) (part_at ps l) (part_at qs r) row w x_in y_in))

  -- no row occurs twice
  rows-differ : AllPairs (λ x y. x ≢ y) (rows_in outs)
  rows-differ =
      AllPairs-flat_map (λ x y. x ≢ y) (λ (out : JoinOut JoinRow). out.hits.items) outs
      (λ i o at. (rows-of_pair i o at).ordered)
      (λ i j o u a b less at later h k e.
      let one = ((rows-of_pair i o at).exactly a).0 h in
      let other = ((rows-of_pair j u later).exactly b).0 k in
      let l : i / length qs ≡ j / length qs =
      one-part_of_id ps (i / length qs) (j / length qs) one.x other.x left_ids one.x_in other.x_in
      (sym one.left_id ∙ ap (λ (v : JoinRow). v.left) e ∙ other.left_id) in
      let r : i % length qs ≡ j % length qs =
      one-part_of_id qs (i % length qs) (j % length qs) one.y other.y right_ids one.y_in other.y_in
      (sym one.right_id ∙ ap (λ (v : JoinRow). v.right) e ∙ other.right_id) in
      let same : i ≡ j =
      sym (div-add-mod' i (length qs)) ∙ ap (λ n. n * length qs + i % length qs) l
      ∙ ap (λ n. j / length qs * length qs + n) r ∙ div-add-mod' j (length qs) in
      absurd (omega (arith, same, less)))

  -- the rows of all pairs are the rows of all items
  rows-of_all : AreItemsRows (all_of ps) (all_of qs) (rows_in outs)
  rows-of_all = record {
    ordered = rows-differ;
    exactly = λ row. (λ c. row-of_all row c, λ w. row-of_pairs row w);
  }

-- the rows of all pairs are the rows of the items that were divided
pub AreItemsRows-of_pairs : (A B : List Item) (ps qs : List (List Item)) (outs : List (JoinOut JoinRow))
    → length outs ≡ length ps * length qs → AreFirstValues ps qs outs → IsPermutation A (all_of ps)
    → IsPermutation B (all_of qs) → HasDistinctIds A → HasDistinctIds B → AreItemsRows A B (rows_in outs)
AreItemsRows-of_pairs A B ps qs outs len values pa pb da db =
    rows-permutation A B (all_of ps) (all_of qs) pa pb (λ (a b : JoinRow). a ≢ b) (rows_in outs)
    (rows-of_all ps qs outs len values (HasDistinctIds-permutation A (all_of ps) pa da)
    (HasDistinctIds-permutation B (all_of qs) pb db))

-- sorted, they are the join
pub IsItemsJoin-sorted : (A B : List Item) (found rows : List JoinRow) → AreItemsRows A B found
    → IsPermutation found rows → IsSorted join_cmp rows → IsItemsJoin A B rows
IsItemsJoin-sorted A B found rows all moved sorted = record {
  ordered = sorted_rows found rows all.ordered moved sorted;
  exactly = λ r. (
    λ h. (all.exactly r).0 (Contains-permutation rows found r (IsPermutation-sym found rows moved) h),
    λ w. Contains-permutation found rows r moved ((all.exactly r).1 w),
  );
}
