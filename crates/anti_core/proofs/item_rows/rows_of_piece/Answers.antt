use Rattle.std.proofs.Common.{◌≢◌, List, subst}
use Rattle.std.proofs.lemmas.List.Sorted.{IsPermutation-refl}
use Rattle.std.proofs.lemmas.Result.{IfOk-weaker}
use Rattle.dip_core.specs.declared.item.Item.{Item}
use Rattle.dip_core.specs.Division.{all_of}
use Rattle.dip_core.proofs.DivisionLemmas.{HasDistinctIds-permutation}
use Rattle.anti_core.specs.declared.rows.AntiRow.{AntiRow}
use Rattle.anti_core.specs.ItemAnti.{AreItemsRows}
use Rattle.anti_core.proofs.ItemLemmas.{rows-permutation}
use Rattle.anti_core.proofs.item_rows.rows_of_piece.Goals as goal

pub rows_of_parts-requires-clause-ids : goal.rows_of_parts-requires-clause-ids
rows_of_parts-requires-clause-ids g c = λ κs outlives.
    rw c.new.ensures.left
    (HasDistinctIds-permutation c.args.left.now (all_of c.in_ok-lefts.lefts)
    c.in_ok-lefts.ensures.division.together c.requires.ids)

pub returns : goal.returns
returns g c =
    let lefts = c.in_ok-lefts.lefts in
    let rights = c.args.rights.now in
    IfOk-weaker c.rows_of_parts.result _ _
    (λ rows all.
    rows-permutation c.args.left.now (all_of lefts) (all_of rights) (all_of rights)
    c.in_ok-lefts.ensures.division.together (IsPermutation-refl (all_of rights)) (λ (a b : AntiRow). a ≢ b) rows.items
    (subst (λ (qs : List (List Item)). AreItemsRows (all_of lefts) (all_of qs) rows.items) c.new.ensures.right
    (subst (λ (ps : List (List Item)). AreItemsRows (all_of ps) (all_of c.new.result.right.now) rows.items)
    c.new.ensures.left all)))
    c.rows_of_parts.ensures
