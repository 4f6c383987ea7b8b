use Rattle.std.proofs.Common.{◌<◌, All, length, map, arith, sym, subst, ◌∙◌, ap, ◌++◌, ◌∷◌, [], Global, Vec, ℕ}
use Rattle.std.specs.Prelude.{filter}
use Rattle.std.proofs.lemmas.List.{take_all}
use Rattle.std.proofs.lemmas.List.Elements.{All-push}
use Rattle.table_core.specs.Places.{at_places}
use Rattle.table_core.proofs.PlaceLemmas.{at_places-more}
use Rattle.draft_core.specs.Lent.{lent_draft}
use Rattle.table_core.specs.Lent.{lent_row}
use Rattle.version_core.specs.Shown.{holds_where, shown}
use Rattle.version_core.specs.Stored.{version_of}
use Rattle.version_core.specs.declared.version.Version.{Version}
use Rattle.version_core.proofs.Seen.{held-more, held-same, row-at}
use Rattle.version_core.proofs.StoredLemmas.{version-at}
use Rattle.version_core.proofs.version.places_shown.Goals as goal
use Rattle.version_core.proofs.version.places_shown.Goals.{then-is_listed+in_ok-as_place+in_ok-push, else-is_listed}

pub loop-i-preserved : goal.loop-i-preserved
loop-i-preserved c =
    let vs = c.args.versions.now in
    let all = map (λ (v : Version). v.row) vs in
    let i = c.loop-i.i in
    let drafts = c.rows_and_system_periods.result.0.now in
    let system_periods = c.rows_and_system_periods.result.1.now in
    let inside : i < length vs = omega (arith, c.loop-i-test.true, c.rows_and_system_periods.ensures.rows) in
    let beside : i < length system_periods = omega (arith, inside, c.rows_and_system_periods.ensures.system_periods) in
    let system_period = c.index-system_periods-i.result in
    let row = lent_row c.of_draft.result in
    let v = version_of row system_period in
    let found = version-at drafts system_periods i (lent_draft c.at.result) row system_period vs
    c.rows_and_system_periods.ensures.versions
    (omega (arith, c.loop-i-test.true)) beside c.at.ensures c.of_draft.ensures
    c.index-system_periods-i.is in
    elim c.if-is_listed.branch [
      | then-is_listed+in_ok-as_place+in_ok-push w ↦
          let grown = ap (λ (u : Vec ℕ Global). u.items) w.places-is ∙ w.in_ok-push.ensures.items
          ∙ ap (λ place. c.loop-i.places.items ++ place ∷ []) w.in_ok-as_place.ensures.index in
          record {
            within = subst (All (λ place. place < length vs)) (sym grown)
                (All-push (λ place. place < length vs) c.loop-i.places.items i c.loop-i.invariant.within inside);
            shown = ap (λ places. at_places places all) grown
                ∙ at_places-more c.loop-i.places.items all i v.row (row-at vs i v inside found)
                ∙ held-more c.args.n i (holds_where c.args.point) vs v (at_places c.loop-i.places.items all) inside found
                (sym c.is_listed.ensures ∙ w.if-is_listed.true) c.loop-i.invariant.shown;
          }
      | else-is_listed w ↦
          let same = ap (λ (u : Vec ℕ Global). u.items) w.places-is in
          record {
            within = subst (All (λ place. place < length vs)) (sym same) c.loop-i.invariant.within;
            shown = ap (λ places. at_places places all) same
                ∙ held-same c.args.n i (holds_where c.args.point) vs v (at_places c.loop-i.places.items all) inside found
                (sym c.is_listed.ensures ∙ w.if-is_listed.false) c.loop-i.invariant.shown;
          }
    ]

pub returns-clause-shown : goal.returns-clause-shown
returns-clause-shown c =
    c.loop-i.invariant.shown
    ∙ ap (λ vs. filter (holds_where c.args.point) (shown c.args.n vs))
    (take_all c.loop-i.i c.args.versions.now
    (omega (arith, c.loop-i-test.false, c.rows_and_system_periods.ensures.rows)))
