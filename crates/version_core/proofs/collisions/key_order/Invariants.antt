use Rattle.std.proofs.Common.{◌≡◌, drop}
use Rattle.draft_core.specs.Lent.{lent_draft}
use Rattle.version_core.specs.KeyOrder.{key_cmp}
use Rattle.version_core.proofs.collisions.key_order.Given as goal

-- the remaining columns decide
abbrev pub invariant-loop-column : goal.invariant-loop-column
invariant-loop-column l =
    key_cmp (drop l.column-index l.key) (lent_draft l.a).values (lent_draft l.b).values
    ≡ key_cmp l.key (lent_draft l.a).values (lent_draft l.b).values
