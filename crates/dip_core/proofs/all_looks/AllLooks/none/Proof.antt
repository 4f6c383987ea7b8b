-- The result is a value without bytes, for no look.
use Rattle.dip_core.proofs.Steps.{[], ◌∷◌, refl, proved, vstruct, vnil, tables, ‵, raw, ◌⊛◌, ◌$◌, ◌∵◌, !, qed, keep, move, split, suffices, done, no_more, returns, enter, agg, alloc_all, pass_all, free_all, look_at, sets, owns, pure_i, types_at, alive, says, Stays, walk_of, ends_at}
use Rattle.dip_core.specs.contracts.all_looks.AllLooks as made
use Rattle.dip_core.specs.contracts.all_looks.AllLooks.none as f
use Rattle.dip_core.proofs.all_looks.AllLooks.none.Statement.{statement}
use Rattle.dip_core.proofs.all_looks.AllLooks.none.Code as code

abbrev stayed : Stays f.ended.signature.params f.ended.kept
stayed = tt

pub none_spec : {M : Type 1} → statement M
none_spec 𝓤 𝓛 𝓜 𝓡 wired =
    let c = f.clauses 𝓛 𝓜.mem 𝓡.returns in
    let W = walk_of 𝓛 f.ended stayed c in
    let 𝓣 = tables 𝓤 𝓛.H 𝓜 𝓡 𝓡.env in
    proved 𝓛 f.ended stayed c 𝓜 𝓡 tt f.Key.name code.function (code.unfolded 𝓤 𝓛.H 𝓜 𝓡 wired)
    (λ κs. tt) (λ κs. tt) (λ κs qs bounds a g are.
    let y : W.Ghost = ((κs, qs, bounds, a, tt), g) in
    qed 𝓛 ((raw (alive 𝓛 f.signature κs qs) ⊛ ‵ (owns (types_at f.signature.params κs) a y.0.4)) ∷ raw ((c κs a).requires g) ∷ []) ∵
    keep ! (0 ∷ []) $ split ! $ enter ! 𝓣.C 𝓣.Λ code.function [] (W.post y) $
    alloc_all ! (λ l. pass_all ! refl tt $ sets ! (agg ! (no_more !)) refl (tt, tt) $
    returns ! (look_at ! 0 refl) $ free_all ! refl $
    suffices ! _ (ends_at 𝓛 f.ended stayed c y (vstruct vnil) (record { count = 0 }) tt tt) $
    says ! refl $ pure_i ! (made.the_row.own_val (record { count = 0 }) (vstruct vnil ∷ [])) ((λ vss. (tt, tt)), tt) ((tt, (refl, tt)), tt) $
    move ! (1 ∷ 2 ∷ 0 ∷ []) $ done !))
