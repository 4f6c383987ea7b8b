use Rattle.std.proofs.Common.{◌<◌, ◌++◌, ◌∷◌, [], ◌∙◌, ap, sym, refl, length, get_or, arith, append_assoc, take}
use Rattle.std.specs.Prelude.{filter}
use Rattle.std.proofs.lemmas.List.{take_all}
use Rattle.version_core.specs.Finding.{passes}
use Rattle.version_core.specs.OpenVersions.{is_taken}
use Rattle.draft_core.specs.Lent.{lent_draft}
use Rattle.table_core.specs.Lent.{lent_row}
use Rattle.version_core.specs.Stored.{version_of}
use Rattle.version_core.specs.Plans.{parts_at}
use Rattle.version_core.specs.declared.change.RowsChange.TheVariants.{Portion}
use Rattle.version_core.proofs.StoredLemmas.{version-at}
use Rattle.version_core.proofs.OpenLemmas.{made-push, place-no, place-yes}
use Rattle.version_core.proofs.planning.plan_block.Goals as goal
use Rattle.version_core.proofs.planning.plan_block.Goals.{then-takes+in_ok-push_parts+in_ok-push, else-takes}

pub at-requires : goal.at-requires
at-requires c =
    let inside = c.requires.inside c.loop-place.place-index 0 c.loop-place-test.true in
    omega (arith, inside, c.rows_and_system_periods.ensures.rows)

pub bounds-system_periods-place : goal.bounds-system_periods-place
bounds-system_periods-place c =
    let inside = c.requires.inside c.loop-place.place-index 0 c.loop-place-test.true in
    omega (arith, inside, c.rows_and_system_periods.ensures.system_periods)

pub loop-place-preserved : goal.loop-place-preserved
loop-place-preserved c =
    let vs = c.args.versions.now in
    let places = c.args.places.now in
    let i = c.loop-place.place-index in
    let system_period = c.index-system_periods-place.result in
    let row = lent_row c.of_draft-row.result in
    let version = version_of row system_period in
    let taken = is_taken (Portion c.args.change.now) in
    let start = c.args.plan.now.taken.items in
    let so_far = filter (passes vs taken) (take i places) in
    let inside : get_or places i 0 < length vs = c.requires.inside i 0 c.loop-place-test.true in
    let beside : get_or places i 0 < length c.rows_and_system_periods.result.1.now =
    omega (arith, inside, c.rows_and_system_periods.ensures.system_periods) in
    let found = version-at c.rows_and_system_periods.result.0.now c.rows_and_system_periods.result.1.now
    (get_or places i 0)
    (lent_draft c.at.result) row system_period vs c.rows_and_system_periods.ensures.versions
    (omega (arith, inside, c.rows_and_system_periods.ensures.rows)) beside c.at.ensures c.of_draft-row.ensures
    c.index-system_periods-place.is in
    elim c.if-takes.branch [
      | then-takes+in_ok-push_parts+in_ok-push w ↦
          let test = sym c.takes.ensures ∙ w.if-takes.true in
          let grown = ap (λ p. p.taken.items) w.plan-is ∙ w.in_ok-push.ensures.items in
          record {
            made = made-push (Portion c.args.change.now) vs c.loop-place.plan.taken.items
                c.if-takes.plan.taken.items (get_or places i 0) version c.loop-place.plan.parts
                c.if-takes.plan.parts inside found c.loop-place.invariant.made
                (ap (λ p. p.parts) w.plan-is ∙ w.in_ok-push_parts.ensures) grown;
            taken = grown ∙ ap (λ l. l ++ get_or places i 0 ∷ []) c.loop-place.invariant.taken
                ∙ append_assoc start so_far (get_or places i 0 ∷ [])
                ∙ ap (λ l. start ++ l)
                (place-yes vs taken places i version so_far (so_far ++ get_or places i 0 ∷ []) c.loop-place-test.true
                inside found test refl refl);
          }
      | else-takes w ↦
          let test = sym c.takes.ensures ∙ w.if-takes.false in
          let same = ap (λ p. p.taken.items) w.plan-is in
          record {
            made = ap (λ p. p.parts) w.plan-is ∙ c.loop-place.invariant.made
                ∙ ap (parts_at (Portion c.args.change.now) vs) (sym same);
            taken = same ∙ c.loop-place.invariant.taken
                ∙ ap (λ l. start ++ l)
                (place-no vs taken places i version so_far so_far c.loop-place-test.true inside found test refl refl);
          }
    ]

pub returns-clause-taken : goal.returns-clause-taken
returns-clause-taken c =
    c.loop-place.invariant.taken
    ∙ ap (λ l. c.args.plan.now.taken.items ++ filter
    (passes c.args.versions.now (is_taken (Portion c.args.change.now))) l)
    (take_all c.loop-place.place-index c.args.places.now (omega arith))
