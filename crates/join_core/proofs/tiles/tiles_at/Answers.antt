use Rattle.std.proofs.Common.{sym}
use Rattle.join_core.proofs.TileLemmas.{IsSide-all, side_next, tiling_cut, tiling_last, tiling_start}
use Rattle.join_core.proofs.tiles.tiles_at.Goals as goal

pub loop-cut-init : goal.loop-cut-init
loop-cut-init c =
    rw (c.new-tiles.ensures.items, c.new-early_lefts.ensures.items, c.new-early_rights.ensures.items) (
      IsSide-all c.args.left.now c.requires.left_ids c.requires.left_few c.requires.left_rise,
      IsSide-all c.args.right.now c.requires.right_ids c.requires.right_few c.requires.right_rise,
      tiling_start c.args.left.now c.args.right.now,
    )

pub loop-cut-preserved : goal.loop-cut-preserved
loop-cut-preserved c =
    let (one, other, is) = c.loop-cut.invariant in
    let lefts = c.cut_at.ensures in
    let rights = c.cut_at-in-loop-cut.ensures in (
      side_next c.args.left.now c.loop-cut.early_lefts.items c.loop-cut.lefts.now c.cut_at.result.0.now
          c.cut_at.result.1.now c.keep_holding.new.earlier.items c.cut-item.result one lefts
          c.in_ok-keep_holding.ensures,
      side_next c.args.right.now c.loop-cut.early_rights.items c.loop-cut.rights.now
          c.cut_at-in-loop-cut.result.0.now c.cut_at-in-loop-cut.result.1.now
          c.keep_holding-in-loop-cut.new.earlier.items c.cut-item.result other rights
          c.in_ok-keep_holding-2.ensures,
      tiling_cut c.args.left.now c.args.right.now c.loop-cut.early_lefts.items c.loop-cut.lefts.now
          c.loop-cut.early_rights.items c.loop-cut.rights.now c.cut_at.result.0.now c.cut_at.result.1.now
          c.cut_at-in-loop-cut.result.0.now c.cut_at-in-loop-cut.result.1.now c.keep_holding.new.earlier.items
          c.keep_holding-in-loop-cut.new.earlier.items c.cut-item.result one other lefts rights
          c.in_ok-keep_holding.ensures c.in_ok-keep_holding-2.ensures c.loop-cut.tiles.items
          c.push_tiles.new.tiles.items
          (rw (sym c.deref.ensures.value, sym c.deref-in-loop-cut.ensures.value) c.in_ok-push_tiles.ensures) is,
    )

pub returns : goal.returns
returns c =
    let (one, other, is) = c.loop-cut.invariant in
    tiling_last c.args.left.now c.args.right.now c.loop-cut.early_lefts.items c.loop-cut.lefts.now
    c.loop-cut.early_rights.items c.loop-cut.rights.now one other c.loop-cut.tiles.items c.push_tiles-2.new.tiles.items
    (rw (sym c.deref-2.ensures.value, sym c.deref-3.ensures.value) c.in_ok-push_tiles-2.ensures) is
