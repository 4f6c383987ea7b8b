use Rattle.std.proofs.Common.{◌≡◌, ◌∙◌, ◌+◌, Global, [], ◌∷◌, ◌++◌, Vec, take, sym, subst, ap}
use Rattle.std.proofs.lemmas.List.{take_more}
use Rattle.dip_core.specs.declared.item.Item.{Item}
use Rattle.round_core.specs.Spans.{AreWithin}
use Rattle.round_core.proofs.CutItems.{within_more, within_none, within_off}
use Rattle.round_core.proofs.within.items_within.Goals as goal
use Rattle.round_core.proofs.within.items_within.Goals.{in-Some+in_ok-push, in_default}

pub loop-item-init : goal.loop-item-init
loop-item-init c =
    let span = c.args.span.now in
    subst (AreWithin span []) (sym c.in_ok-cut.ensures.items) (within_none span)

pub loop-item-preserved : goal.loop-item-preserved
loop-item-preserved c =
    let span = c.args.span.now in
    let i = c.loop-item.item-index in
    let items = c.args.items.now in
    let x = c.item-item.result in
    let done = take i items in
    let was = c.loop-item.cut.items in
    let more : take (i + 1) items ≡ done ++ x ∷ [] =
    take_more items i x c.loop-item-test.true ∙ ap (λ y. done ++ y ∷ []) (sym c.item-item.is) in
    subst (λ xs. AreWithin span xs c.match-item_within.cut.items) (sym more)
    (elim c.match-item_within.branch [
      | in-Some+in_ok-push w ↦
          subst (AreWithin span (done ++ x ∷ []))
          (sym (ap (λ (l : Vec Item Global). l.items) w.cut-is ∙ w.in_ok-push.ensures.items))
          (within_more span done was x w.in-Some.part w.in-Some.ensures c.loop-item.invariant)
      | in_default w ↦
          subst (AreWithin span (done ++ x ∷ [])) (sym (ap (λ (l : Vec Item Global). l.items) w.cut-is))
          (within_off span done was x w.in_default.ensures c.loop-item.invariant)
    ])
