use Rattle.join_core.proofs.TileLemmas.{IsSide, IsTiling}
use Rattle.join_core.proofs.tiles.tiles_at.Given as goal

abbrev pub invariant-loop-cut : goal.invariant-loop-cut
invariant-loop-cut l =
    IsSide l.left l.early_lefts.items l.lefts × IsSide l.right l.early_rights.items l.rights
    × IsTiling l.left l.right l.early_lefts.items l.lefts l.early_rights.items l.rights l.tiles.items
