use Rattle.std.proofs.Common.{◌∙◌, ap, arith, get_or}
use Rattle.std.specs.List.{list_any}
use Rattle.std.specs.Prelude.{is_some}
use Rattle.std.proofs.lemmas.List.{take_all}
use Rattle.std.proofs.lemmas.Option.{slice_get-get_or}
use Rattle.period_core.specs.Period.{meet}
use Rattle.row_core.specs.declared.draft.Draft.{Draft}
use Rattle.draft_core.specs.Reached.{is_reached}
use Rattle.draft_core.proofs.ReachedLemmas.{any_at-more}
use Rattle.draft_core.proofs.drafts.any_reached.Goals as goal

pub loop-place-preserved : goal.loop-place-preserved
loop-place-preserved c =
    let drafts = c.args.drafts.now in
    let places = c.args.places.now in
    let i = c.loop-place.place-index in
    let draft = get_or drafts (get_or places i 0) c.index-drafts-place.result in
    let at = slice_get-get_or drafts (get_or places i 0) c.index-drafts-place.result
    (c.requires i 0 c.loop-place-test.true) in
    any_at-more (λ (it : Draft). is_some (meet it.period c.args.portion.now)) drafts places i draft
    c.loop-place.any c.overlaps-any.result c.loop-place-test.true at c.overlaps-any.ensures.shared
    c.loop-place.invariant

pub returns : goal.returns
returns c =
    c.loop-place.invariant
    ∙ ap (list_any (is_reached c.args.portion.now c.args.drafts.now))
    (take_all c.loop-place.place-index c.args.places.now (omega arith))
