use Rattle.std.proofs.Common.{sym}
use Rattle.std.proofs.lemmas.Result.{IfOk-weaker}
use Rattle.join_core.proofs.FoundLemmas.{AddsItemsRows-one}
use Rattle.join_core.proofs.StretchLemmas.{AddsFirstPairs-of}
use Rattle.join_core.proofs.TileLemmas.{AreTiles-divisible}
use Rattle.join_core.proofs.TileRowLemmas.{AddsItemsRows-tiles, apart-rows}
use Rattle.ruzgalt_c.proofs.JoinLemmas.{some-made, tiles-found}
use Rattle.ruzgalt_c.proofs.join.add_rows_of_bundle.Goals as goal

pub add_rows_of_tiles-requires-clause-tiles : goal.add_rows_of_tiles-requires-clause-tiles
add_rows_of_tiles-requires-clause-tiles c =
    let left = c.args.left.now in
    let right = c.args.right.now in
    let are = tiles-found left right c.in-Some.tiles _ c.in-Some.is c.in_ok-tiles.ensures in
    rw c.deref.ensures.value (AreTiles-divisible left right c.in-Some.tiles.items are)

pub add_rows_of_tiles-requires-clause-apart : goal.add_rows_of_tiles-requires-clause-apart
add_rows_of_tiles-requires-clause-apart c =
    let left = c.args.left.now in
    let right = c.args.right.now in
    let are = tiles-found left right c.in-Some.tiles _ c.in-Some.is c.in_ok-tiles.ensures in
    rw c.deref.ensures.value
    (apart-rows left right c.in-Some.tiles.items are c.requires.left_ids c.requires.right_ids)

pub returns-in-Some : goal.returns-in-Some
returns-in-Some c =
    let left = c.args.left.now in
    let right = c.args.right.now in
    let are = tiles-found left right c.in-Some.tiles _ c.in-Some.is c.in_ok-tiles.ensures in
    IfOk-weaker c.add_rows_of_tiles.result _ _
    (λ u h. (
      AddsItemsRows-tiles left right c.in-Some.tiles.items are _ _ (rw (sym c.deref.ensures.value) h),
      some-made left right c.in_ok-lefts.lefts c.in_ok-rights.rights c.in_ok-lefts.ensures c.in_ok-rights.ensures,
    ))
    c.add_rows_of_tiles.ensures

pub returns : goal.returns
returns c =
    let left = c.args.left.now in
    let right = c.args.right.now in
    let lefts = c.in_ok-lefts.lefts in
    let rights = c.in_ok-rights.rights in
    IfOk-weaker c.add_rows_of_pairs.result _ _
    (λ u h. (
      AddsItemsRows-one left right lefts rights c.in_ok-lefts.ensures c.in_ok-rights.ensures _ _ h.0
          (AddsFirstPairs-of _ _ lefts rights _ _ h.0 c.new.ensures.left c.new.ensures.right h.1) c.requires.left_ids
          c.requires.right_ids,
      some-made left right lefts rights c.in_ok-lefts.ensures c.in_ok-rights.ensures,
    ))
    c.add_rows_of_pairs.ensures
