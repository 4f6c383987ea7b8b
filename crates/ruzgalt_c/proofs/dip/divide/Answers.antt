use Rattle.std.proofs.Common.{◌≡◌, ◌<◌, ◌≤◌, List, length, arith, subst, sym}
use Rattle.std.specs.Prelude.{IsPermutation}
use Rattle.std.proofs.lemmas.List.Sorted.{All-permutation, IsPermutation-trans, length_permutation}
use Rattle.dip_core.specs.declared.item.Item.{Item}
use Rattle.dip_core.specs.Item.{HasDistinctIds, item_limit}
use Rattle.dip_core.specs.Division.{all_of}
use Rattle.dip_core.proofs.DivisionLemmas.{HasDistinctIds-permutation, IsLeastDivision-permutation}
use Rattle.ruzgalt_c.specs.Rows.{periods}
use Rattle.ruzgalt_c.proofs.RowLemmas.{distinct-from_rows, ids-within}
use Rattle.ruzgalt_c.proofs.dip.divide.Goals as goal
use Rattle.ruzgalt_c.proofs.dip.divide.Goals.{After-number_rows-arg-1}

pub divide_sorted-requires-clause-few : goal.divide_sorted-requires-clause-few
divide_sorted-requires-clause-few c =
    let items = c.in_ok-items.items.items in
    let rows : length items ≡ length c.args.from.now = c.in_ok-items.ensures.rows.len in
    let same : length c.sort_unstable.new.self.items ≡ length items =
    length_permutation items c.sort_unstable.new.self.items c.sort_unstable.ensures.permutation in
    let few : length c.args.from.now ≤ item_limit = c.requires.few in
    rw c.deref.ensures.value (omega (arith, rows, same, few))

-- The parts have all items.
divided : (c : After-number_rows-arg-1) → IsPermutation c.in_ok-items.items.items (all_of c.in-Ok.division)
divided c =
    let items = c.in_ok-items.items.items in
    let sorted : IsPermutation items c.deref.result.now =
    subst (λ (xs : List Item). IsPermutation items xs) (sym c.deref.ensures.value) c.sort_unstable.ensures.permutation in
    IsPermutation-trans items c.deref.result.now (all_of c.in-Ok.division) sorted c.in-Ok.ensures.least.division.together

distinct : (c : After-number_rows-arg-1) → HasDistinctIds c.in_ok-items.items.items
distinct c = distinct-from_rows (periods c.args.from.now c.args.to.now) c.in_ok-items.items.items c.in_ok-items.ensures.rows

pub number_rows-requires-clause-distinct : goal.number_rows-requires-clause-distinct
number_rows-requires-clause-distinct c =
    HasDistinctIds-permutation c.in_ok-items.items.items (all_of c.in-Ok.division) (divided c) (distinct c)

pub number_rows-requires-clause-room : goal.number_rows-requires-clause-room
number_rows-requires-clause-room c =
    let items = c.in_ok-items.items.items in
    rw c.requires.room
    (All-permutation (λ (x : Item). x.id < length c.args.from.now) items (all_of c.in-Ok.division)
    (divided c) (ids-within (periods c.args.from.now c.args.to.now) items c.in_ok-items.ensures.rows))

pub returns-clause-dip : goal.returns-clause-dip
returns-clause-dip c =
    let items = c.in_ok-items.items.items in
    let sorted = c.deref.result.now in
    let rows = c.in_ok-items.ensures.rows in
    let moved : IsPermutation items sorted =
    subst (λ (xs : List Item). IsPermutation items xs) (sym c.deref.ensures.value) c.sort_unstable.ensures.permutation in
    let ids : HasDistinctIds items = distinct-from_rows (periods c.args.from.now c.args.to.now) items rows in
    let dip = c.in-Ok.ensures.dip (HasDistinctIds-permutation items sorted moved ids) in
    record {
      items = items;
      rows = rows;
      division = c.in-Ok.division;
      dip = record {
        divided = IsLeastDivision-permutation items sorted c.in-Ok.division moved dip.divided;
        placed = dip.placed;
      };
      numbers_are = c.number_rows.ensures.are;
      count_is = c.parts.ensures.value;
      instant_is = c.instant.ensures;
    }
