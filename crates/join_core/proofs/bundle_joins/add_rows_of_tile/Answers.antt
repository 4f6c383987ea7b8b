use Rattle.std.proofs.Common.{sym}
use Rattle.std.proofs.lemmas.Result.{IfOk-weaker}
use Rattle.join_core.proofs.FoundLemmas.{AddsItemsRows-one, made-fewer}
use Rattle.join_core.proofs.StretchLemmas.{AddsFirstPairs-of}
use Rattle.join_core.proofs.bundle_joins.add_rows_of_tile.Goals as goal

pub returns-clause-rows : goal.returns-clause-rows
returns-clause-rows g c =
    let left = c.args.tile.now.left.items in
    let right = c.args.tile.now.right.items in
    let lefts = c.in_ok-lefts.lefts in
    let rights = c.in_ok-rights.rights in
    IfOk-weaker c.add_rows_of_pairs.result _ _
    (λ made adds.
    AddsItemsRows-one left right lefts rights (rw (sym c.deref-3.ensures.value) c.in_ok-lefts.ensures)
    (rw (sym c.deref-4.ensures.value) c.in_ok-rights.ensures) _ _ made
    (AddsFirstPairs-of _ _ lefts rights _ _ made c.new.ensures.left c.new.ensures.right adds)
    c.requires.left_ids c.requires.right_ids)
    c.add_rows_of_pairs.ensures

pub returns-clause-few : goal.returns-clause-few
returns-clause-few g c =
    let left = c.args.tile.now.left.items in
    let right = c.args.tile.now.right.items in
    let lefts = c.in_ok-lefts.lefts in
    let rights = c.in_ok-rights.rights in
    IfOk-weaker c.add_rows_of_pairs.result _ _
    (λ made adds.
    made-fewer left right lefts rights (rw (sym c.deref-3.ensures.value) c.in_ok-lefts.ensures)
    (rw (sym c.deref-4.ensures.value) c.in_ok-rights.ensures) _ _ made
    (AddsFirstPairs-of _ _ lefts rights _ _ made c.new.ensures.left c.new.ensures.right adds))
    c.add_rows_of_pairs.ensures
