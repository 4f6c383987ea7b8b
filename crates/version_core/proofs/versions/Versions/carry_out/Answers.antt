use Rattle.std.proofs.Common.{◌≡◌, ◌∙◌, ◌<◌, ap, length, length-append, map, take, refl, sym, arith}
use Rattle.std.specs.Prelude.{All, fold}
use Rattle.std.proofs.lemmas.List.{length-map}
use Rattle.version_core.specs.OpenVersions.{closed, closed_at, current, is_taken, places_from, versions_after}
use Rattle.version_core.specs.Made.{made}
use Rattle.table_core.specs.Numbered.{numbered}
use Rattle.version_core.specs.Rows.{drafts_of, removes}
use Rattle.version_core.proofs.FindingLemmas.{all-versions_after, versions_after-few, versions_after-front}
use Rattle.version_core.proofs.IndexLemmas.{indexes-closed}
use Rattle.version_core.proofs.KeyIndexLemmas.{kept-closed, kept-only}
use Rattle.version_core.proofs.OpenLemmas.{length-fresh, length-taken, newly, places_from-bounded, versions_after-by}
use Rattle.version_core.proofs.versions.Versions.carry_out.Goals as goal

pub add_versions-requires : goal.add_versions-requires
add_versions-requires c =
    let added = ap length (newly c.args.change.now c.args.self.now c.args.plan.parts
    c.take_rows-new.result c.take_rows-new.ensures c.requires.plan.parts) in
    omega (arith, added, c.requires.room, ap length c.self.view_is)

pub close_all-requires : goal.close_all-requires
close_all-requires c =
    let vs = c.self.inside.items in
    let test = is_taken c.args.change.now in
    let fresh = made c.args.commit (numbered (length vs) c.take_rows-new.result) in
    let places : c.deref.result.now ≡ places_from test 0 vs =
    c.deref.ensures.value ∙ (rw c.self.view_is c.requires.plan.taken) in
    let inside : All (λ place. place < length vs) c.deref.result.now = rw places (places_from-bounded test vs) in
    let grown = ap length c.in_ok-add_versions.ensures.ok in
    λ k d lt. let below = inside k d lt in
    omega (arith, below, grown, length-append vs fresh)

-- the versions that the indexes get
given : (c : goal.After-deref-2)
    → c.close_all.new.versions ≡ versions_after c.args.commit c.args.change.now c.self.inside.items
given c =
    versions_after-by c.args.commit c.args.change.now c.self.inside.items
    (made c.args.commit (numbered (length c.self.inside.items) c.take_rows-new.result)) c.add_versions.new.versions
    c.close_all.new.versions c.args.plan.taken.items (rw c.self.view_is c.requires.plan.taken)
    (ap (λ ds. made c.args.commit (numbered (length c.self.inside.items) ds))
    (newly c.args.change.now c.self.inside.items c.args.plan.parts c.take_rows-new.result
    c.take_rows-new.ensures (rw c.self.view_is c.requires.plan.parts))) c.in_ok-add_versions.ensures.ok
    (c.close_all.ensures ∙ ap (fold (closed_at c.args.commit) c.add_versions.new.versions) c.deref.ensures.value)

pub keep_indexes-requires-clause-few : goal.keep_indexes-requires-clause-few
keep_indexes-requires-clause-few c =
    versions_after-few c.args.commit c.args.change.now c.self.inside.items c.close_all.new.versions
    (given c) (rw c.self.view_is c.requires.room)

pub keep_indexes-requires-clause-inside : goal.keep_indexes-requires-clause-inside
keep_indexes-requires-clause-inside c =
    let vs = c.self.inside.items in
    let goes = removes c.args.change.now in
    let fresh = made c.args.commit (numbered (length vs) (drafts_of c.args.change.now (current vs))) in
    omega (
      arith,
      c.len-before.ensures,
      ap length (given c),
      length-append (map (closed c.args.commit goes) vs) fresh,
      length-map vs (closed c.args.commit goes),
    )

-- the versions before the new ones
front : (c : goal.After-deref-2)
    → take c.len-before.result c.close_all.new.versions
    ≡ map (closed c.args.commit (removes c.args.change.now)) c.self.inside.items
front c =
    versions_after-front c.args.commit c.len-before.result c.args.change.now c.self.inside.items
    c.close_all.new.versions (given c) c.len-before.ensures

pub keep_indexes-requires-clause-by_value : goal.keep_indexes-requires-clause-by_value
keep_indexes-requires-clause-by_value c =
    indexes-closed c.args.commit (removes c.args.change.now) c.self.inside.items _
    c.self.inside.indexes.items (front c) c.self.invariant.found.by_value

pub keep_indexes-requires-clause-by_key : goal.keep_indexes-requires-clause-by_key
keep_indexes-requires-clause-by_key c =
    kept-closed c.args.commit (removes c.args.change.now) c.self.inside.items _ c.self.inside.key_index
    (front c) c.self.invariant.by_key

pub keep_indexes-requires-clause-only : goal.keep_indexes-requires-clause-only
keep_indexes-requires-clause-only c =
    let vs = c.self.inside.items in
    let places : c.deref-2.result.now ≡ places_from (is_taken c.args.change.now) 0 vs =
    c.deref-2.ensures.value ∙ (rw c.self.view_is c.requires.plan.taken) in
    kept-only c.args.commit c.args.change.now vs _ c.deref-2.result.now c.self.inside.key_index (front c) places
    c.self.invariant.only

-- the versions afterwards
whole : (c : goal.After-drop-taken-2)
    → c.close_all.new.versions ≡ versions_after c.args.commit c.args.change.now c.self.inside.items
whole c =
    versions_after-by c.args.commit c.args.change.now c.self.inside.items
    (made c.args.commit (numbered (length c.self.inside.items) c.take_rows-new.result)) c.add_versions.new.versions
    c.close_all.new.versions c.args.plan.taken.items (rw c.self.view_is c.requires.plan.taken)
    (ap (λ ds. made c.args.commit (numbered (length c.self.inside.items) ds))
    (newly c.args.change.now c.self.inside.items c.args.plan.parts c.take_rows-new.result
    c.take_rows-new.ensures (rw c.self.view_is c.requires.plan.parts))) c.in_ok-add_versions.ensures.ok
    (c.close_all.ensures ∙ ap (fold (closed_at c.args.commit) c.add_versions.new.versions) c.deref.ensures.value)

pub invariant_of-self-2 : goal.invariant_of-self-2
invariant_of-self-2 c =
    let vs = c.self.inside.items in
    let new = c.take_rows-new.result in
    let fresh = made c.args.commit (numbered (length vs) new) in
    let drafts = newly c.args.change.now vs c.args.plan.parts new c.take_rows-new.ensures
    (rw c.self.view_is c.requires.plan.parts) in
    record {
      found = record {
        all = all-versions_after c.args.commit (length vs) (length new) c.args.change.now
            vs fresh _ c.self.inside.open_at c.add_versions.new.places (whole c)
            (ap (λ ds. made c.args.commit (numbered (length vs) ds)) drafts) refl
            (sym (length-fresh c.args.commit (length vs) new))
            c.in_ok-add_versions.ensures.places c.self.invariant.found.all;
        by_value = c.keep_indexes.ensures.by_value;
      };
      by_key = c.keep_indexes.ensures.by_key;
      only = c.keep_indexes.ensures.only;
    }

pub returns-clause-ok : goal.returns-clause-ok
returns-clause-ok c = whole c ∙ ap (versions_after c.args.commit c.args.change.now) c.self.view_is

pub returns-clause-counts : goal.returns-clause-counts
returns-clause-counts c =
    let vs = c.args.self.now in
    let new = c.take_rows-new.result in
    let added = ap length (newly c.args.change.now vs c.args.plan.parts new
    c.take_rows-new.ensures c.requires.plan.parts) in
    let taken = ap length c.requires.plan.taken ∙ length-taken c.args.change.now vs in
    let new_counted : c.len.result ≡ length new = c.len.ensures in
    let taken_counted : c.len-2.result ≡ length c.args.plan.taken.items =
    let counted = c.args.plan.taken.ok.0 in omega arith in
    (new_counted ∙ added, taken_counted ∙ taken)
