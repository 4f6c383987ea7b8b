use Rattle.std.proofs.Common.{arith, ◌≡◌, ◌∙◌, ◌<◌, ◌++◌, ◌∷◌, [], List, length, ap, sym}
use Rattle.std.proofs.lemmas.List.{get_or_read}
use Rattle.dip_core.specs.declared.item.Item.{Item}
use Rattle.dip_core.specs.Division.{part_at}
use Rattle.dip_core.specs.Placing.{added}
use Rattle.dip_core.proofs.AddedLemmas.{added-push, added-set}
use Rattle.dip_core.proofs.parts.Parts.push.Goals as goal

pub returns-in_ok-push-2-clause-ok : goal.returns-in_ok-push-2-clause-ok
returns-in_ok-push-2-clause-ok c =
    let parts = c.args.self.now in
    let item = c.args.item.now in
    let inside : c.self.inside.list.items ≡ parts = c.self.view_is in
    let new : c.args.number ≡ length parts =
    omega (arith, c.if-number-len.true, c.len.ensures, c.self.inside.list.ok.0, ap length inside) in
    let part : c.push.new.self ≡ item ∷ [] =
    c.in_ok-push.ensures.ok ∙ ap (λ (ys : List Item). ys ++ item ∷ []) c.in_ok-part.ensures in
    c.in_ok-push-2.ensures.items
    ∙ ap (λ (p : List Item). c.self.inside.list.items ++ p ∷ []) part
    ∙ ap (λ (ps : List (List Item)). ps ++ (item ∷ []) ∷ []) inside
    ∙ added-push parts item
    ∙ ap (λ n. added parts n item) (sym new)

pub returns-in_ok-push-3-clause-ok : goal.returns-in_ok-push-3-clause-ok
returns-in_ok-push-3-clause-ok c =
    let parts = c.self.inside.list.items in
    let number = c.args.number in
    let item = c.args.item.now in
    let inside : parts ≡ c.args.self.now = c.self.view_is in
    let within : number < length parts =
    omega (arith, c.requires, c.if-number-len.false, c.len.ensures, c.self.inside.list.ok.0, ap length inside) in
    let same : c.index_mut.result.now ≡ part_at parts number =
    get_or_read parts number c.index_mut.result.now within c.index_mut.ensures.value [] in
    added-set parts number item c.push-else-number-len.new.self within
    (c.in_ok-push-3.ensures.ok ∙ ap (λ (part : List Item). part ++ item ∷ []) same)
    ∙ ap (λ (ps : List (List Item)). added ps number item) inside
