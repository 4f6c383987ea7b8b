use Rattle.std.proofs.Common.{◌∙◌, ap, length, subst}
use Rattle.book_core.specs.History.{IsLegal}
use Rattle.store_core.proofs.shelf.Shelf.commit.Goals as goal

pub returns-clause-reply : goal.returns-clause-reply
returns-clause-reply c = (
  c.in_ok-change.ensures.ok.0,
  c.in_ok-change.ensures.ok.1,
  c.commits.ensures.count ∙ ap length (c.deref.ensures ∙ c.current.ensures),
)

pub returns-clause-legal : goal.returns-clause-legal
returns-clause-legal c = subst IsLegal (c.deref.ensures ∙ c.current.ensures) c.commits.ensures.legal
