use Rattle.std.proofs.Common.{◌≤◌, ◌<◌, ◌++◌, List, [], length, map, refl, sym, subst, ap, ◌∙◌, arith, append-nil, append_assoc}
use Rattle.std.proofs.lemmas.List.{take_all}
use Rattle.dip_core.specs.declared.item.Item.{Item}
use Rattle.dip_core.specs.Division.{all_of, part_at}
use Rattle.merge_core.specs.Gaps.{ListsGaps}
use Rattle.anti_core.specs.declared.rows.AntiRow.{AntiRow}
use Rattle.anti_core.specs.ItemAnti.{row_of_gap}
use Rattle.anti_core.proofs.ItemLemmas.{AreItemsRows-more, AreItemsRows-none}
use Rattle.ruzgalt_c.specs.Anti.{AddsAntiRows}
use Rattle.ruzgalt_c.proofs.anti.add_rows_of_parts.Goals as goal

pub loop-number-init : goal.loop-number-init
loop-number-init c = record {
  added = [];
  split = sym (append-nil c.args.rows.now.items);
  rows = AreItemsRows-none c.args.right.items.now [] refl;
}

pub loop-number-preserved : goal.loop-number-preserved
loop-number-preserved c =
    let ps = c.args.lefts.now in
    let n = c.loop-number.number in
    let right = c.args.right.items.now in
    let was = c.loop-number.invariant in
    let more = c.in_ok-add_rows_of_part.ensures in
    let inside : n < length ps = omega arith in
    let lists : ListsGaps (part_at ps n) right more.0 =
    subst (λ (xs : List Item). ListsGaps xs right more.0) c.part.ensures more.1 in
    record {
      added = was.added ++ map row_of_gap more.0;
      split = more.2 ∙ ap (λ (l : List AntiRow). l ++ map row_of_gap more.0) was.split
          ∙ append_assoc c.args.rows.now.items was.added (map row_of_gap more.0);
      rows = AreItemsRows-more ps n right was.added (was.added ++ map row_of_gap more.0) more.0 more.0 inside c.requires
          was.rows lists refl refl;
    }

pub returns : goal.returns
returns c =
    let ps = c.args.lefts.now in
    let all : length ps ≤ c.loop-number.number = omega arith in
    subst
    (λ (l : List (List Item)).
    AddsAntiRows (all_of l) c.args.right.items.now c.args.rows.now.items c.loop-number.rows.items)
    (take_all c.loop-number.number ps all) c.loop-number.invariant
