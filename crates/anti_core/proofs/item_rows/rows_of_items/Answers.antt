use Rattle.std.proofs.Common.{◌≢◌}
use Rattle.std.proofs.lemmas.List.Sorted.{IsPermutation-refl}
use Rattle.std.proofs.lemmas.Result.{IfOk-weaker}
use Rattle.dip_core.specs.Division.{all_of}
use Rattle.anti_core.specs.declared.rows.AntiRow.{AntiRow}
use Rattle.anti_core.proofs.ItemLemmas.{rows-permutation}
use Rattle.anti_core.proofs.item_rows.rows_of_items.Goals as goal

pub returns : goal.returns
returns g c =
    let left = c.args.left.now in
    IfOk-weaker c.rows_of_lefts.result _ _
    (λ rows all.
    rows-permutation left left c.args.right.now (all_of c.in_ok-rights.rights) (IsPermutation-refl left)
    c.in_ok-rights.ensures.division.together (λ (a b : AntiRow). a ≢ b) rows.items all)
    c.rows_of_lefts.ensures
