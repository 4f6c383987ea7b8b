use Rattle.std.proofs.Common.{◌≢◌, ◌≤◌, length, arith}
use Rattle.std.specs.Prelude.{IsPermutation}
use Rattle.std.proofs.lemmas.List.Sorted.{IsPermutation-refl, length_permutation}
use Rattle.std.proofs.lemmas.Result.{IfOk-weaker}
use Rattle.dip_core.specs.Item.{item_limit}
use Rattle.grid_core.proofs.RangeItems.{in-few, in-distinct}
use Rattle.dip_core.proofs.DivisionLemmas.{HasDistinctIds-permutation}
use Rattle.match_core.specs.Items.{items_in_range, items_with}
use Rattle.match_core.proofs.RowItems.{length-items_with}
use Rattle.anti_core.specs.declared.rows.AntiRow.{AntiRow}
use Rattle.anti_core.proofs.BundleLemmas.{united-rise}
use Rattle.anti_core.proofs.ItemLemmas.{rows-permutation}
use Rattle.anti_core.proofs.UnitedLemmas.{rows-alike}
use Rattle.anti_core.proofs.class_rows.rows_of_range.Goals as goal
use Rattle.anti_core.proofs.class_rows.rows_of_range.Goals.{After-deref-2}
use Rattle.anti_core.proofs.class_rows.rows_of_range.Given.{Over}

-- the left items by class are a permutation of the range's items
moved : (g : Over) (c : After-deref-2 g)
    → IsPermutation (items_in_range c.args.range c.args.left.now.rows.now c.args.left.now.classes.now) c.deref.result.now
moved g c = rw c.deref.ensures.value c.in_ok-lefts.ensures.permutation

pub rows_by_class-requires-clause-left_few : goal.rows_by_class-requires-clause-left_few
rows_by_class-requires-clause-left_few g c = λ κs outlives.
    (let rows = c.args.left.now.rows.now in
    let classes = c.args.left.now.classes.now in
    let few : length rows ≤ item_limit = c.args.left.now.few in
    let all = length-items_with rows classes c.args.left.now.enough in
    let some = in-few c.args.range (items_with rows classes) in
    let same = length_permutation (items_in_range c.args.range rows classes) c.deref.result.now (moved g c) in
    omega (arith, few, all, some, same))

pub rows_by_class-requires-clause-right_few : goal.rows_by_class-requires-clause-right_few
rows_by_class-requires-clause-right_few g c = λ κs outlives.
    (let rows = c.args.right.now.rows.now in
    let classes = c.args.right.now.classes.now in
    let few : length rows ≤ item_limit = c.args.right.now.few in
    let all = length-items_with rows classes c.args.right.now.enough in
    let some = in-few c.args.range (items_with rows classes) in
    let fewer : length c.deref-2.result.now ≤ length (items_in_range c.args.range rows classes) =
    rw c.deref-2.ensures.value c.in_ok-lefts.ensures.union.fewer in
    omega (arith, few, all, some, fewer))

pub rows_by_class-requires-clause-right_rise : goal.rows_by_class-requires-clause-right_rise
rows_by_class-requires-clause-right_rise g c = λ κs outlives.
    rw c.deref-2.ensures.value (united-rise c.in_ok-lefts.united.items c.in_ok-lefts.ensures.union.all.ordered)

pub rows_by_class-requires-clause-ids : goal.rows_by_class-requires-clause-ids
rows_by_class-requires-clause-ids g c = λ κs outlives.
    HasDistinctIds-permutation (items_in_range c.args.range c.args.left.now.rows.now c.args.left.now.classes.now)
    c.deref.result.now (moved g c)
    (in-distinct c.args.range (items_with c.args.left.now.rows.now c.args.left.now.classes.now) c.requires.ids)

pub returns : goal.returns
returns g c =
    let left = items_in_range c.args.range c.args.left.now.rows.now c.args.left.now.classes.now in
    let right = items_in_range c.args.range c.args.right.now.rows.now c.args.right.now.classes.now in
    let lefts = c.deref.result.now in
    let united = c.deref-2.result.now in
    IfOk-weaker c.rows_by_class.result _ _
    (λ found rows.
    rows-alike (λ (a b : AntiRow). a ≢ b) left right united found.items
    (rw c.deref-2.ensures.value c.in_ok-lefts.ensures.union.alike)
    (rows-permutation left lefts united united (rw c.deref.ensures.value c.in_ok-lefts.ensures.permutation)
    (IsPermutation-refl united) (λ (a b : AntiRow). a ≢ b) found.items rows))
    c.rows_by_class.ensures
