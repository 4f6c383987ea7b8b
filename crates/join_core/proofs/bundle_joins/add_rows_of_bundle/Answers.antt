use Rattle.std.proofs.Common.{◌≤◌, sym}
use Rattle.std.proofs.Math.Nat.{le_trans}
use Rattle.join_core.specs.Tiles.{reads_in}
use Rattle.join_core.proofs.FoundLemmas.{AddsItemsRows-one, AreMade-within, made-few}
use Rattle.join_core.proofs.StretchLemmas.{AddsFirstPairs-of}
use Rattle.join_core.proofs.TileLemmas.{AreTiles-divisible, are_found}
use Rattle.join_core.proofs.TileRowLemmas.{AddsItemsRows-tiles, apart-rows}
use Rattle.join_core.proofs.bundle_joins.add_rows_of_bundle.Goals as goal
use Rattle.join_core.proofs.bundle_joins.add_rows_of_bundle.Goals.{in-Some+in_ok-made-in-Some, in-None+in_ok-made-in-None}

pub add_rows_of_tiles-requires-clause-tiles : goal.add_rows_of_tiles-requires-clause-tiles
add_rows_of_tiles-requires-clause-tiles g c κs within =
    let are = are_found c.args.left.now c.args.right.now _ c.in-Some.tiles _ c.in-Some.is c.in_ok-tiles.ensures in
    rw c.deref.ensures.value
    (AreTiles-divisible c.args.left.now c.args.right.now c.in-Some.tiles.items are.0)

pub add_rows_of_tiles-requires-clause-apart : goal.add_rows_of_tiles-requires-clause-apart
add_rows_of_tiles-requires-clause-apart g c κs within =
    let are = are_found c.args.left.now c.args.right.now _ c.in-Some.tiles _ c.in-Some.is c.in_ok-tiles.ensures in
    rw c.deref.ensures.value
    (apart-rows c.args.left.now c.args.right.now c.in-Some.tiles.items are.0 c.requires.left_ids c.requires.right_ids)

pub returns-clause-rows : goal.returns-clause-rows
returns-clause-rows g c = elim c.match-branch-4.branch [
  | in-Some+in_ok-made-in-Some w ↦ (
      let are = are_found c.args.left.now c.args.right.now _ w.in-Some.tiles _ w.in-Some.is c.in_ok-tiles.ensures in
      rw w.rows-is
      (AddsItemsRows-tiles c.args.left.now c.args.right.now w.in-Some.tiles.items are.0 _ _
      (rw (sym w.deref.ensures.value) w.in_ok-made-in-Some.ensures.rows)))
  | in-None+in_ok-made-in-None w ↦ (
      let lefts = c.in_ok-lefts.lefts in
      let rights = c.in_ok-rights.rights in
      rw w.rows-is
      (AddsItemsRows-one c.args.left.now c.args.right.now lefts rights c.in_ok-lefts.ensures c.in_ok-rights.ensures _ _ _
      (AddsFirstPairs-of _ _ lefts rights _ _ _ w.new.ensures.left w.new.ensures.right
      w.in_ok-made-in-None.ensures)
      c.requires.left_ids c.requires.right_ids))
]

pub returns-clause-advances : goal.returns-clause-advances
returns-clause-advances g c =
    let left = c.args.left.now in
    let right = c.args.right.now in
    let lefts = c.in_ok-lefts.lefts in
    let rights = c.in_ok-rights.rights in
    let left_parts = c.parts-left_parts.ensures.value in
    let right_parts = c.parts-right_parts.ensures.value in
    AreMade-within left right lefts rights c.in_ok-lefts.ensures c.in_ok-rights.ensures _
    (elim c.match-branch-4.branch [
      | in-Some+in_ok-made-in-Some w ↦ (
          let are = are_found left right _ w.in-Some.tiles _ w.in-Some.is c.in_ok-tiles.ensures in
          let few : w.in_ok-made-in-Some.made ≤ reads_in w.in-Some.tiles.items =
          rw (sym w.deref.ensures.value) w.in_ok-made-in-Some.ensures.few in
          rw w.made-is (le_trans few are.1))
      | in-None+in_ok-made-in-None w ↦ (
          let few = made-few left right lefts rights c.in_ok-lefts.ensures c.in_ok-rights.ensures _ _ _
          (AddsFirstPairs-of _ _ lefts rights _ _ _ w.new.ensures.left w.new.ensures.right
          w.in_ok-made-in-None.ensures) in
          rw (w.made-is, left_parts, right_parts) few)
    ])
    left_parts right_parts
