use Rattle.std.proofs.Common.{◌≡◌, ◌-◌, drop}
use Rattle.version_core.specs.Collisions.{collide}
use Rattle.draft_core.specs.Lent.{lent_draft}
use Rattle.version_core.specs.KeyOrder.{have_neighbours}
use Rattle.version_core.proofs.collisions.neighbours_collide.Given as goal

-- the remaining neighbours decide
abbrev pub invariant-loop-i : goal.invariant-loop-i
invariant-loop-i l =
    have_neighbours (λ a b. collide l.key (lent_draft a) (lent_draft b)) (drop (l.i - 1) l.rows) ≡ have_neighbours
    (λ a b. collide l.key (lent_draft a) (lent_draft b)) l.rows
