-- A value without bytes, for one commit more.
use Rattle.book_core.proofs.Steps.{[], ◌∷◌, ◌++◌, refl, proved, named, Val, vptr, vstruct, vnil, tables, ‵, raw, ◌⊛◌, ◌$◌, ◌∵◌, !, qed, keep, move, split, suffices, done, no_more, returns, enter, agg, alloc_all, pass_all, free_all, look_at, sets, yes, owns, shr_vals, shr_Tells, pure_i, plain, types_at, alive, says, stay_none_ref, Stays, walk_of, ends_at, Goes-none_ref}
use Rattle.book_core.specs.contracts.commit.Commit as commit
use Rattle.book_core.specs.contracts.commit.Commits as made
use Rattle.book_core.specs.contracts.commit.Commits.followed_by as f
use Rattle.book_core.proofs.commit.Commits.followed_by.Statement.{statement}
use Rattle.book_core.proofs.commit.Commits.followed_by.Code as code

abbrev stayed : Stays f.ended.signature.params f.ended.kept
stayed = (stay_none_ref (0 ∷ []) tt (plain (λ _. made.the_row)) yes, (stay_none_ref (1 ∷ []) tt (plain (λ _. commit.the_row)) yes, tt))

pub followed_by_spec : {M : Type 1} → statement M
followed_by_spec 𝓤 𝓛 𝓜 𝓡 wired =
    let c = f.clauses 𝓛 𝓜.mem 𝓡.returns in
    let W = walk_of 𝓛 f.ended stayed c in
    let 𝓣 = tables 𝓤 𝓛.H 𝓜 𝓡 𝓡.env in
    proved 𝓛 f.ended stayed c 𝓜 𝓡
    (Goes-none_ref 𝓛 2 (0 ∷ []) tt (plain (λ _. made.the_row)) yes, (Goes-none_ref 𝓛 2 (1 ∷ []) tt (plain (λ _. commit.the_row)) yes, tt))
    f.Key.name code.function (code.unfolded 𝓤 𝓛.H 𝓜 𝓡 wired)
    (λ κs. (shr_vals, (shr_vals, tt)))
    (λ κs. (shr_Tells (named 0) κs.0 made.the_row, (shr_Tells (named 1) κs.1.0 commit.the_row, tt))) (λ κs qs bounds a g are.
    let before : Val = vptr a.0.ref_ptr.0 a.0.ref_ptr.1 in
    let more : Val = vptr a.1.0.ref_ptr.0 a.1.0.ref_ptr.1 in
    let y : W.Ghost = ((κs, qs, bounds, a, (before ∷ [], (more ∷ [], tt))), g) in
    let all = a.0.now.all ++ a.1.0.now ∷ [] in
    qed 𝓛 ((raw (alive 𝓛 f.signature κs qs) ⊛ ‵ (owns (types_at f.signature.params κs) a y.0.4)) ∷ raw ((c κs a).requires g) ∷ []) ∵
    keep ! (0 ∷ []) $ split ! $ enter ! 𝓣.C 𝓣.Λ code.function (before ∷ more ∷ []) (W.post y) $
    alloc_all ! (λ l. pass_all ! refl ((tt, tt), ((tt, tt), tt)) $ sets ! (agg ! (no_more !)) refl (tt, tt) $
    returns ! (look_at ! 0 refl) $ free_all ! refl $
    suffices ! _ (ends_at 𝓛 f.ended stayed c y (vstruct vnil) (record { all = all }) (tt, (tt, tt)) (tt, (tt, tt))) $
    says ! refl $ pure_i ! (made.the_row.own_val (record { all = all }) (vstruct vnil ∷ [])) ((λ vss. (tt, tt)), tt) ((tt, (refl, tt)), tt) $
    move ! (1 ∷ 2 ∷ 0 ∷ []) $ done !))
