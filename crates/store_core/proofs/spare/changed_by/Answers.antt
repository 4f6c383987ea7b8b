use Rattle.std.proofs.Common.{◌∷◌, ◌++◌, ◌∙◌, [], ap, sym, append_assoc}
use Rattle.std.specs.Vec.Iter.{into_iter_items}
use Rattle.book_core.specs.History.{History}
use Rattle.store_core.proofs.spare.changed_by.Goals as goal

pub loop-commit-preserved : goal.loop-commit-preserved
loop-commit-preserved c =
    let step = c.in-Some.ensures.steps.0 in
    let inv = c.loop-commit.invariant in
    let yielded = c.loop-commit.yielded in
    let one : History = c.in-Some.commit ∷ [] in (
      tt,
      tt,
      append_assoc yielded one (into_iter_items c.next.new.self)
          ∙ (ap (λ (l : History). yielded ++ l) (sym step) ∙ inv.2),
      c.in-Ok.ensures.ok
          ∙ (ap (λ (h : History). h ++ one) inv.3 ∙ append_assoc c.args.book yielded one),
    )
