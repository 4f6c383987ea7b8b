use Rattle.std.proofs.Common.{◌≢◌, List, map, subst}
use Rattle.std.proofs.lemmas.List.Sorted.{IsPermutation-refl}
use Rattle.std.proofs.lemmas.Result.{on_ok_weaker}
use Rattle.dip_core.specs.declared.item.Item.{Item}
use Rattle.dip_core.specs.Division.{all_of}
use Rattle.dip_core.proofs.DivisionLemmas.{HasDistinctIds-permutation}
use Rattle.merge_core.specs.Gaps.{ListsGaps}
use Rattle.anti_core.specs.declared.rows.AntiRow.{AntiRow}
use Rattle.anti_core.specs.ItemAnti.{row_of_gap}
use Rattle.anti_core.proofs.ItemLemmas.{rows-permutation}
use Rattle.ruzgalt_c.proofs.AntiLemmas.{one_part-rows}
use Rattle.ruzgalt_c.proofs.anti.add_rows_of_class.Goals as goal

pub returns-in-Some : goal.returns-in-Some
returns-in-Some c =
    let left = c.args.left.now in
    let right = c.args.right.items.now in
    on_ok_weaker c.add_rows_of_part.result
    (λ h. record {
      added = map row_of_gap h.0;
      split = h.2;
      rows = one_part-rows left right h.0 c.requires.ids
          (subst (λ (xs : List Item). ListsGaps xs right h.0) c.in-Some.ensures.items h.1);
    })
    c.add_rows_of_part.ensures

pub add_rows_of_parts-requires : goal.add_rows_of_parts-requires
add_rows_of_parts-requires c =
    HasDistinctIds-permutation c.args.left.now (all_of c.in_ok-lefts.lefts) c.in_ok-lefts.ensures.division.together
    c.requires.ids

pub returns : goal.returns
returns c =
    let left = c.args.left.now in
    let right = c.args.right.items.now in
    let all = all_of c.in_ok-lefts.lefts in
    on_ok_weaker c.add_rows_of_parts.result
    (λ h. record {
      added = h.added;
      split = h.split;
      rows = rows-permutation left all right right c.in_ok-lefts.ensures.division.together (IsPermutation-refl right)
          (λ (a b : AntiRow). a ≢ b) h.added h.rows;
    })
    c.add_rows_of_parts.ensures
