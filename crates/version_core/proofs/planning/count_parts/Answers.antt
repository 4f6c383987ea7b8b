use Rattle.std.proofs.Common.{◌≡◌, ◌<◌, ◌++◌, true, false, ◌∷◌, [], ◌∙◌, ap, sym, refl, length, get_or, arith, length-append, take}
use Rattle.std.specs.Prelude.{filter}
use Rattle.std.proofs.lemmas.List.{take_all}
use Rattle.version_core.specs.Finding.{passes}
use Rattle.version_core.specs.OpenVersions.{is_taken}
use Rattle.version_core.specs.Rows.{parts_of}
use Rattle.draft_core.specs.Lent.{lent_draft}
use Rattle.table_core.specs.Lent.{lent_row}
use Rattle.version_core.specs.Stored.{version_of}
use Rattle.version_core.proofs.StoredLemmas.{version-at}
use Rattle.version_core.specs.Plans.{parts_at}
use Rattle.version_core.specs.declared.change.RowsChange.TheVariants.{Portion}
use Rattle.version_core.proofs.OpenLemmas.{parts_at-push, parts_at-taken, place-no, place-yes}
use Rattle.version_core.proofs.planning.count_parts.Goals as goal
use Rattle.version_core.proofs.planning.count_parts.Goals.{then-takes, else-takes}

pub at-requires : goal.at-requires
at-requires c =
    let inside = c.requires.places.inside c.loop-place.place-index 0 c.loop-place-test.true in
    omega (arith, inside, c.rows_and_system_periods.ensures.rows)

pub bounds-system_periods-place : goal.bounds-system_periods-place
bounds-system_periods-place c =
    let inside = c.requires.places.inside c.loop-place.place-index 0 c.loop-place-test.true in
    omega (arith, inside, c.rows_and_system_periods.ensures.system_periods)

pub loop-place-preserved : goal.loop-place-preserved
loop-place-preserved c =
    let vs = c.args.versions.now in
    let places = c.args.places.now in
    let i = c.loop-place.place-index in
    let system_period = c.index-system_periods-place.result in
    let row = lent_row c.of_draft-row.result in
    let version = version_of row system_period in
    let taken = is_taken (Portion c.args.change.now) in
    let so_far = filter (passes vs taken) (take i places) in
    let inside : get_or places i 0 < length vs = c.requires.places.inside i 0 c.loop-place-test.true in
    let beside : get_or places i 0 < length c.rows_and_system_periods.result.1.now =
    omega (arith, inside, c.rows_and_system_periods.ensures.system_periods) in
    let found = version-at c.rows_and_system_periods.result.0.now c.rows_and_system_periods.result.1.now
    (get_or places i 0)
    (lent_draft c.at.result) row system_period vs c.rows_and_system_periods.ensures.versions
    (omega (arith, inside, c.rows_and_system_periods.ensures.rows)) beside c.at.ensures c.of_draft-row.ensures
    c.index-system_periods-place.is in
    let counted = c.loop-place.invariant.counted in
    let few = c.loop-place.invariant.few in
    elim c.if-takes.branch [
      | then-takes w ↦
          let test : taken version ≡ true =
          (sym c.takes.ensures ∙ w.if-takes.true) in
          let more = place-yes vs taken places i version so_far
          (so_far ++ get_or places i 0 ∷ []) c.loop-place-test.true inside found test refl refl
          in
          let grown = ap length
          (ap (parts_at (Portion c.args.change.now) vs) (sym more)
          ∙ parts_at-push (Portion c.args.change.now) vs so_far
          (get_or places i 0) version inside found) in
          let parts = w.count_parts-count.ensures.parts in
          let three = w.count_parts-count.ensures.few in
          let sum = w.count-is in
          record {
            counted = omega (
              arith,
              grown,
              counted,
              parts,
              sum,
              length-append
                  (parts_at (Portion c.args.change.now) vs so_far)
                  (parts_of (Portion c.args.change.now) version.row),
            );
            few = omega (arith, few, three, sum);
          }
      | else-takes w ↦
          let test : taken version ≡ false =
          (sym c.takes.ensures ∙ w.if-takes.false) in
          let same = place-no vs taken places i version so_far so_far c.loop-place-test.true inside
          found test refl refl in
          let kept = w.count-is in
          record {
            counted = kept ∙ counted ∙ ap (λ l. length
                (parts_at (Portion c.args.change.now) vs l)) same;
            few = omega (arith, few, kept);
          }
    ]

pub returns : goal.returns
returns c =
    c.loop-place.invariant.counted
    ∙ ap length (parts_at-taken (Portion c.args.change.now) c.args.versions.now _
    (ap (filter (passes c.args.versions.now (is_taken (Portion c.args.change.now))))
    (take_all c.loop-place.place-index c.args.places.now (omega arith)) ∙ c.requires.places.taken))
