use Rattle.std.proofs.Common.{◌∙◌, Some, ap, arith, get_or, sym}
use Rattle.std.specs.List.{list_any}
use Rattle.std.specs.Prelude.{is_some}
use Rattle.std.proofs.lemmas.List.{take_all}
use Rattle.std.proofs.lemmas.Option.{slice_get-get_or}
use Rattle.period_core.specs.Period.{meet}
use Rattle.period_core.specs.declared.period.Period.{Period}
use Rattle.draft_core.specs.Reached.{is_met}
use Rattle.draft_core.proofs.ReachedLemmas.{any_at-more}
use Rattle.draft_core.proofs.columns.any_met.Goals as goal

pub loop-place-preserved : goal.loop-place-preserved
loop-place-preserved c =
    let periods = c.args.periods.now in
    let places = c.args.places.now in
    let i = c.loop-place.place-index in
    let at = slice_get-get_or periods (get_or places i 0) c.index-periods-place.result
    (c.requires i 0 c.loop-place-test.true) ∙ ap Some (sym c.index-periods-place.is) in
    any_at-more (λ (it : Period). is_some (meet it c.args.portion.now)) periods places i c.index-periods-place.result
    c.loop-place.any c.overlaps-any.result c.loop-place-test.true at c.overlaps-any.ensures.shared
    c.loop-place.invariant

pub returns : goal.returns
returns c =
    c.loop-place.invariant
    ∙ ap (list_any (is_met c.args.portion.now c.args.periods.now))
    (take_all c.loop-place.place-index c.args.places.now (omega arith))
