use Rattle.std.proofs.Common.{sym}
use Rattle.std.proofs.lemmas.Result.{IfOk-weaker}
use Rattle.join_core.proofs.FoundLemmas.{AddsItemsRows-one}
use Rattle.join_core.proofs.StretchLemmas.{AddsFirstPairs-of}
use Rattle.ruzgalt_c.proofs.tiles.add_rows_of_tile.Goals as goal

pub returns : goal.returns
returns c =
    let left = c.args.tile.now.left.items in
    let right = c.args.tile.now.right.items in
    let lefts = c.in_ok-lefts.lefts in
    let rights = c.in_ok-rights.rights in
    IfOk-weaker c.add_rows_of_pairs.result _ _
    (λ u h.
    AddsItemsRows-one left right lefts rights (rw (sym c.deref.ensures.value) c.in_ok-lefts.ensures)
    (rw (sym c.deref-2.ensures.value) c.in_ok-rights.ensures) _ _ h.0
    (AddsFirstPairs-of _ _ lefts rights _ _ h.0 c.new.ensures.left c.new.ensures.right h.1)
    c.requires.left_ids c.requires.right_ids)
    c.add_rows_of_pairs.ensures
