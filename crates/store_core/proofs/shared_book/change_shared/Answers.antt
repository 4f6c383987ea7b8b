use Rattle.std.proofs.Common.{◌≡◌, ◌∷◌, ◌++◌, ◌∙◌, [], IfSome, ap, refl, subst, sym}
use Rattle.std.specs.Arc.{arc_value}
use Rattle.book_core.specs.History.{History}
use Rattle.store_core.specs.Histories.{commit, RefusesCommit}
use Rattle.store_core.proofs.Refusing.{RefusesCommit-of}
use Rattle.store_core.proofs.shared_book.change_shared.Goals as goal

pub returns-in-Ok-clause-spare : goal.returns-in-Ok-clause-spare
returns-in-Ok-clause-spare c =
    let old : History = arc_value c.args.current.now in
    let one = commit c.args.by c.args.change in
    let same : c.in_ok-next.next ≡ old = c.in_ok-next.ensures ∙ c.deref-2.ensures in
    let new : arc_value c.replace.new.dest ≡ old ++ one ∷ [] =
    ap arc_value c.replace.ensures.after
    ∙ (c.in_ok-next-2.ensures.ok ∙ (c.in-Ok.ensures.ok ∙ ap (λ (h : History). h ++ one ∷ []) same)) in
    subst (λ (h : History). IfSome c.lagging.result (λ (spare : History). spare ≡ h)) (sym new)
    (c.lagging.ensures old one (c.new-before.ensures ∙ ap arc_value c.replace.ensures.value) c.made_later-later.ensures)

pub returns-in-Err-clause-err : goal.returns-in-Err-clause-err
returns-in-Err-clause-err c =
    let failed = c.in-Err.ensures in (
      refl,
      subst (λ (h : History). RefusesCommit h c.args.change c.in-Err.why) (c.in_ok-next.ensures ∙ c.deref-2.ensures)
          (RefusesCommit-of c.in_ok-next.next c.args.change c.in-Err.why failed.refused failed.accepted),
    )
