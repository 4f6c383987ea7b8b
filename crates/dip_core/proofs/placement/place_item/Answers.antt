use Rattle.std.proofs.Common.{◌≡◌, ◌-◌, ◌∙◌, List, ap, length, take}
use Rattle.dip_core.specs.declared.item.Item.{Item}
use Rattle.dip_core.specs.Placing.{added}
use Rattle.dip_core.proofs.AddedLemmas.{take-added}
use Rattle.dip_core.proofs.StepLemmas.{place-within}
use Rattle.dip_core.proofs.placement.place_item.Goals as goal

pub push-requires : goal.push-requires
push-requires c =
    place-within c.args.parts.now c.args.item.now.period.from c.part_for-number.result
    (c.part_for-number.ensures.place c.args.parts.now c.requires.last_ends)

pub returns-in-Err-clause-parts_err : goal.returns-in-Err-clause-parts_err
returns-in-Err-clause-parts_err c =
    let parts = c.args.parts.now in
    let item = c.args.item.now in
    let new : c.part_for-number.result ≡ length parts =
    c.in-Err.ensures.new ∙ ap length c.part_for-number.ensures.same ∙ c.requires.last_ends.long in
    c.pop.ensures
    ∙ ap (λ (ps : List (List Item)). take (length ps - 1) ps)
    (c.in_ok-push.ensures.ok ∙ ap (λ n. added parts n item) new)
    ∙ take-added parts item
