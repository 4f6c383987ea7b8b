use Rattle.std.proofs.Common.{◌≡◌, ◌+◌, ◌<◌, ◌++◌, ◌∷◌, [], ℕ, List, length, map, take, arith, sym, ap, ◌∙◌}
use Rattle.std.specs.Global.{Vec}
use Rattle.std.proofs.lemmas.List.{map_push, take_all, take_more}
use Rattle.ruzgalt_c.proofs.check.claim_of.Goals as goal

pub loop-list-preserved : goal.loop-list-preserved
loop-list-preserved c =
    let lists = c.args.lists.now in
    let i = c.loop-list.list-index in
    let item : Vec ℕ = c.list-item.result in
    let within : i < length lists = c.loop-list-test.true in
    c.in_ok-add_part.ensures
    ∙ ap (λ (l : List ℕ). c.loop-list.claim ++ l ∷ []) c.deref.ensures.value
    ∙ ap (λ (claim : List (List ℕ)). claim ++ item.items ∷ []) c.loop-list.invariant
    ∙ sym (map_push (λ (list : Vec ℕ). list.items) (take i lists) item)
    ∙ ap (λ (l : List (Vec ℕ)). map (λ (list : Vec ℕ). list.items) l)
    (ap (λ (v : Vec ℕ). take i lists ++ v ∷ []) c.list-item.is ∙ sym (take_more lists i item within))

pub returns : goal.returns
returns c =
    c.loop-list.invariant
    ∙ ap (map (λ (list : Vec ℕ). list.items)) (take_all c.loop-list.list-index c.args.lists.now (omega arith))
