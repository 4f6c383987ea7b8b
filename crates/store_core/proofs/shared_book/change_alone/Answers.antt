use Rattle.std.proofs.Common.{◌≡◌, IfSome, subst, sym}
use Rattle.std.proofs.lemmas.Result.{err_from_is_err_and}
use Rattle.book_core.specs.History.{History}
use Rattle.book_core.specs.declared.commit.Commit.{Commit}
use Rattle.store_core.specs.Histories.{commit, RefusesCommit}
use Rattle.store_core.proofs.Refusing.{RefusesCommit-of, exit-answers}
use Rattle.store_core.proofs.shared_book.change_alone.Goals as goal
use Rattle.store_core.proofs.shared_book.change_alone.Goals.{then-is_some, else-is_some}

pub returns-in_err-apply-clause-err : goal.returns-in_err-apply-clause-err
returns-in_err-apply-clause-err c =
    let p = err_from_is_err_and c.from_residual.result c.from_residual.ensures.1 in
    let old : History = c.args.book.now in
    let why = c.in_err-apply.field-0.0 in
    let failed = c.in_err-apply.ensures in
    exit-answers c.from_residual.result why (λ e. (c.apply.new.self ≡ old) × RefusesCommit old c.args.change e) p
    (failed.err, RefusesCommit-of old c.args.change why failed.refused failed.accepted)

pub returns-clause-spare : goal.returns-clause-spare
returns-clause-spare c =
    let old : History = c.args.book.now in
    let one = commit c.args.by c.args.change in
    let later : IfSome c.if-is_some.later (λ (later : Commit). later ≡ one) =
    elim c.if-is_some.branch [
      | then-is_some w ↦
          subst (λ o. IfSome o (λ (later : Commit). later ≡ one)) (sym w.later-is) w.made_later-later.ensures
      | else-is_some w ↦ subst (λ o. IfSome o (λ (later : Commit). later ≡ one)) (sym w.later-is) tt
    ] in
    let behind = subst (λ o. IfSome o (λ (spare : History). spare ≡ old)) (sym c.take.ensures.value) c.requires in
    subst (λ (h : History). IfSome c.lagging.result (λ (spare : History). spare ≡ h)) (sym c.in_ok-apply.ensures.ok)
    (c.lagging.ensures old one behind later)
