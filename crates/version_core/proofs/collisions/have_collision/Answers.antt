use Rattle.std.proofs.Common.{◌∙◌, ap}
use Rattle.version_core.specs.Collisions.{collide}
use Rattle.draft_core.specs.Lent.{lent_draft}
use Rattle.draft_core.specs.declared.draft_ref.DraftRef.{DraftRef}
use Rattle.version_core.specs.KeyOrder.{have_neighbours}
use Rattle.version_core.proofs.CollisionLemmas.{collision-from_neighbours}
use Rattle.version_core.proofs.collisions.have_collision.Goals as goal

pub returns-clause-collision : goal.returns-clause-collision
returns-clause-collision c =
    c.neighbours_collide.ensures
    ∙ ap (have_neighbours (λ (a b : DraftRef). collide c.args.key.now (lent_draft a) (lent_draft b)))
    c.deref.ensures.value
    ∙ collision-from_neighbours c.args.key.now c.args.rows.now.items c.sort_rows.new.rows.items
    c.sort_rows.ensures.permutation c.sort_rows.ensures.sorted
