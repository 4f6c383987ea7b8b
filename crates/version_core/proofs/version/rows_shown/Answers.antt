use Rattle.std.proofs.Common.{◌∙◌, sym}
use Rattle.std.proofs.lemmas.Result.{IfOk-weaker}
use Rattle.table_core.specs.Numbered.{numbered}
use Rattle.table_core.proofs.NumberedLemmas.{length-numbered}
use Rattle.version_core.specs.Shown.{shown}
use Rattle.version_core.proofs.Seen.{all-held}
use Rattle.version_core.proofs.StoredLemmas.{length-shown_of, shown-all}
use Rattle.version_core.proofs.version.rows_shown.Goals as goal

pub returns-then-count-system_periods : goal.returns-then-count-system_periods
returns-then-count-system_periods c =
    let slices = c.rows_and_system_periods.ensures in
    let counted = length-shown_of c.args.n (numbered 0 c.rows_and_system_periods.result.0.now)
    c.rows_and_system_periods.result.1.now
    c.args.versions.now slices.versions
    (length-numbered 0 c.rows_and_system_periods.result.0.now ∙ slices.rows ∙ sym slices.system_periods) in
    IfOk-weaker c.rows.result _ _
    (λ rows e. e ∙ shown-all c.args.n c.args.versions.now
    (sym counted ∙ sym c.count_shown-count.ensures ∙ c.if-count-system_periods.true ∙ slices.system_periods))
    c.rows.ensures

pub returns-in_ok-places_shown : goal.returns-in_ok-places_shown
returns-in_ok-places_shown c =
    IfOk-weaker c.at_places.result _ _
    (λ rows e. e ∙ c.in_ok-places_shown.ensures.shown ∙ all-held (shown c.args.n c.args.versions.now))
    c.at_places.ensures
