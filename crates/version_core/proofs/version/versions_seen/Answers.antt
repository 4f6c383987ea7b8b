use Rattle.std.proofs.Common.{◌≡◌, ◌<◌, ◌&&◌, All, Global, Vec, length, length-append, leb, map, arith, subst, sym, ◌∙◌, ap, ◌++◌, ◌∷◌, [], ℕ}
use Rattle.std.proofs.lemmas.List.Elements.{All-push}
use Rattle.table_core.specs.Numbered.{numbered}
use Rattle.table_core.specs.Places.{at_places}
use Rattle.table_core.proofs.NumberedLemmas.{length-numbered}
use Rattle.version_core.specs.Shown.{is_behind}
use Rattle.version_core.specs.Stored.{SystemPeriod, version_of, versions_of}
use Rattle.version_core.specs.declared.version.Version.{Version}
use Rattle.version_core.proofs.Seen.{row-at, versions_as_of-more, versions_as_of-same, versions_of-at_places}
use Rattle.version_core.proofs.StoredLemmas.{version-beside}
use Rattle.version_core.proofs.version.versions_seen.Goals as goal
use Rattle.version_core.proofs.version.versions_seen.Goals.{then-is_seen+in_ok-as_place+in_ok-push+in_ok-push-2, else-is_seen}

pub loop-i-preserved : goal.loop-i-preserved
loop-i-preserved c =
    let vs = c.args.versions.now in
    let all = map (λ (v : Version). v.row) vs in
    let i = c.loop-i.i in
    let drafts = c.rows_and_system_periods.result.0.now in
    let system_periods = c.rows_and_system_periods.result.1.now in
    let beside : i < length system_periods = omega (arith, c.loop-i-test.true) in
    let inside : i < length vs = omega (arith, beside, c.rows_and_system_periods.ensures.system_periods) in
    let same : length (numbered 0 drafts) ≡ length system_periods =
    omega (
      arith,
      length-numbered 0 drafts,
      c.rows_and_system_periods.ensures.rows,
      c.rows_and_system_periods.ensures.system_periods,
    ) in
    let system_period = c.index-system_periods-i.result in
    let found = version-beside (numbered 0 drafts) system_periods i system_period vs
    c.rows_and_system_periods.ensures.versions same beside
    c.index-system_periods-i.is in
    let v = version_of found.0 system_period in
    let now = c.as_of-system_period.result in
    let places = c.loop-i.places.items in
    let seen = c.loop-i.seen.items in
    let test = ap (λ (s : SystemPeriod). leb s.from c.args.at && (leb s.from c.args.last && is_behind s.to c.args.m))
    (sym c.as_of-system_period.ensures) ∙ sym c.is_seen.ensures in
    elim c.if-is_seen.branch [
      | then-is_seen+in_ok-as_place+in_ok-push+in_ok-push-2 w ↦
          let grown = ap (λ (u : Vec ℕ Global). u.items) w.places-is ∙ w.in_ok-push.ensures.items
          ∙ ap (λ place. places ++ place ∷ []) w.in_ok-as_place.ensures.index in
          let more = ap (λ (u : Vec SystemPeriod Global). u.items) w.seen-is ∙ w.in_ok-push-2.ensures.items in
          record {
            within = subst (All (λ place. place < length vs)) (sym grown)
                (All-push (λ place. place < length vs) places i c.loop-i.invariant.within inside);
            beside = let one = ap length grown in let other = ap length more in
                omega (arith, one, other, length-append places (i ∷ []), length-append seen (now ∷ []), c.loop-i.invariant.beside);
            seen = ap (λ l. versions_of (at_places l all) c.if-is_seen.seen.items) grown
                ∙ ap (versions_of (at_places (places ++ i ∷ []) all)) more
                ∙ versions_of-at_places places seen vs i v.row now c.loop-i.invariant.within c.loop-i.invariant.beside
                (row-at vs i v inside found.1)
                ∙ ap (λ s. versions_of (at_places places all) seen ++ version_of v.row s ∷ [])
                c.as_of-system_period.ensures
                ∙ versions_as_of-more c.args.at c.args.m c.args.last i vs v
                (versions_of (at_places places all) seen) inside found.1 (test ∙ w.if-is_seen.true) c.loop-i.invariant.seen;
          }
      | else-is_seen w ↦
          let same_places = ap (λ (u : Vec ℕ Global). u.items) w.places-is in
          let same_seen = ap (λ (u : Vec SystemPeriod Global). u.items) w.seen-is in
          record {
            within = subst (All (λ place. place < length vs)) (sym same_places) c.loop-i.invariant.within;
            beside = ap length same_places ∙ c.loop-i.invariant.beside ∙ sym (ap length same_seen);
            seen = ap (λ l. versions_of (at_places l all) c.if-is_seen.seen.items) same_places
                ∙ ap (versions_of (at_places places all)) same_seen
                ∙ versions_as_of-same c.args.at c.args.m c.args.last i vs v
                (versions_of (at_places places all) seen) inside found.1 (test ∙ w.if-is_seen.false)
                c.loop-i.invariant.seen;
          }
    ]
