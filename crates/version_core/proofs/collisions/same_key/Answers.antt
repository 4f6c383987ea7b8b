use Rattle.std.proofs.Common.{◌∙◌, ap}
use Rattle.std.specs.Ordering.{is_eq}
use Rattle.draft_core.specs.Lent.{lent_draft}
use Rattle.version_core.proofs.KeyOrderLemmas.{key-is_eq}
use Rattle.version_core.proofs.collisions.same_key.Goals as goal

pub returns : goal.returns
returns c =
    c.is_eq.ensures ∙ ap is_eq c.key_order.ensures
    ∙ key-is_eq c.args.key.now (lent_draft c.args.a).values (lent_draft c.args.b).values
