use Rattle.std.proofs.Common.{◌<◌, sym, ◌∙◌, ap, map, get_or, length}
use Rattle.std.specs.Prelude.{filter}
use Rattle.std.proofs.lemmas.List.{take_all}
use Rattle.std.proofs.lemmas.Option.{get_or_from_slice_get}
use Rattle.draft_core.specs.Lent.{lent_draft}
use Rattle.version_core.specs.Finding.{passes}
use Rattle.version_core.specs.Keys.{is_left}
use Rattle.version_core.specs.Lent.{lent_version}
use Rattle.version_core.proofs.KeyLemmas.{drafts_at, left-listed, left-no, left-yes}
use Rattle.version_core.proofs.keys.rows_left.Goals as goal
use Rattle.version_core.proofs.keys.rows_left.Goals.{then-leaves+in_default, else-leaves}

pub at-version-requires : goal.at-version-requires
at-version-requires c = c.requires.inside c.loop-place.place-index 0 c.loop-place-test.true

pub loop-place-preserved : goal.loop-place-preserved
loop-place-preserved c =
    let vs = c.args.versions.now in
    let places = c.args.open_at.now in
    let i = c.loop-place.place-index in
    let version = (lent_version c.at-version.result) in
    let left = is_left c.args.change.now in
    let inside : get_or places i 0 < length vs = c.requires.inside i 0 c.loop-place-test.true in
    let here = sym (get_or_from_slice_get vs (get_or places i 0) version version c.at-version.ensures) in
    elim c.if-leaves.branch [
      | then-leaves+in_default w ↦
          ap (λ rows. map lent_draft rows.items) w.rows-is ∙ ap (map lent_draft) w.in_default.ensures.items
          ∙ left-yes vs left places i version c.loop-place.rows.items w.draft.result c.loop-place-test.true inside
          here
          (sym c.leaves.ensures ∙ w.if-leaves.true) w.draft.ensures c.loop-place.invariant
      | else-leaves w ↦
          ap (λ rows. map lent_draft rows.items) w.rows-is
          ∙ left-no vs left places i version c.loop-place.rows.items c.loop-place-test.true inside
          here (sym c.leaves.ensures ∙ w.if-leaves.false) c.loop-place.invariant
    ]

pub returns : goal.returns
returns c =
    c.loop-place.invariant
    ∙ ap (λ places. drafts_at c.args.versions.now
    (filter (passes c.args.versions.now (is_left c.args.change.now)) places))
    (take_all c.loop-place.place-index c.args.open_at.now c.loop-place-test.false)
    ∙ left-listed c.args.change.now c.args.versions.now c.args.open_at.now c.requires
