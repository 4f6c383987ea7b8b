use Rattle.std.proofs.Common.{◌≤◌, Option, length, sym, arith}
use Rattle.std.specs.Global.{Vec}
use Rattle.std.proofs.lemmas.Option.{IfSome_then}
use Rattle.std.proofs.lemmas.Result.{IfOk-weaker}
use Rattle.std.proofs.lemmas.List.Sorted.{length_permutation}
use Rattle.dip_core.proofs.DivisionLemmas.{HasDistinctIds-permutation}
use Rattle.dip_core.specs.Item.{item_limit}
use Rattle.join_core.proofs.TileLemmas.{AreTiles-permutation}
use Rattle.join_core.specs.declared.tiles.Tile.{Tile}
use Rattle.join_core.proofs.tiles.tiles_of.Goals as goal

pub tiles_cut_at-requires-clause-left_few : goal.tiles_cut_at-requires-clause-left_few
tiles_cut_at-requires-clause-left_few g c =
    let few : length c.args.left.now ≤ item_limit = c.requires.left_few in
    let len = length_permutation c.args.left.now c.in_ok-lefts.lefts.items c.in_ok-lefts.ensures.same in
    rw c.deref.ensures.value (omega (arith, few, len))

pub tiles_cut_at-requires-clause-right_few : goal.tiles_cut_at-requires-clause-right_few
tiles_cut_at-requires-clause-right_few g c =
    let few : length c.args.right.now ≤ item_limit = c.requires.right_few in
    let len = length_permutation c.args.right.now c.in_ok-rights.rights.items c.in_ok-rights.ensures.same in
    rw c.deref-2.ensures.value (omega (arith, few, len))

pub tiles_cut_at-requires-clause-left_ids : goal.tiles_cut_at-requires-clause-left_ids
tiles_cut_at-requires-clause-left_ids g c =
    rw c.deref.ensures.value
    (HasDistinctIds-permutation c.args.left.now c.in_ok-lefts.lefts.items c.in_ok-lefts.ensures.same
    c.requires.left_ids)

pub tiles_cut_at-requires-clause-right_ids : goal.tiles_cut_at-requires-clause-right_ids
tiles_cut_at-requires-clause-right_ids g c =
    rw c.deref-2.ensures.value
    (HasDistinctIds-permutation c.args.right.now c.in_ok-rights.rights.items c.in_ok-rights.ensures.same
    c.requires.right_ids)

pub returns : goal.returns
returns g c =
    IfOk-weaker c.tiles_cut_at.result _ _
    (λ (found : Option (Vec Tile)) are.
    IfSome_then found are
    (λ (tiles : Vec Tile) is. (
      AreTiles-permutation c.args.left.now c.args.right.now c.in_ok-lefts.lefts.items c.in_ok-rights.rights.items
          tiles.items c.in_ok-lefts.ensures.same c.in_ok-rights.ensures.same
          (rw (sym c.deref.ensures.value, sym c.deref-2.ensures.value) is.0),
      is.1,
    )))
    c.tiles_cut_at.ensures
