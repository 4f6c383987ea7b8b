use Rattle.std.proofs.Common.{◌≡◌, ◌≤◌, ◌+◌, ◌∙◌, ap, sym, subst, get_or, length, map}
use Rattle.std.specs.Arc.{arc_value}
use Rattle.std.specs.Prelude.{position, bytes_eq}
use Rattle.std.proofs.lemmas.Result.{IfErr-weaker, on_ok_weaker}
use Rattle.version_core.specs.Limits.{version_limit}
use Rattle.table_core.specs.Numbered.{unnumbered}
use Rattle.version_core.specs.Keys.{break_key, overlap_after}
use Rattle.version_core.specs.OpenVersions.{current}
use Rattle.version_core.specs.Rows as by_place
use Rattle.book_core.specs.Bound.{DoesTheSame}
use Rattle.book_core.specs.StoredTables.{IsUnbroken, IsWellKept, StoredTable}
use Rattle.book_core.proofs.ChangedTables.{holds-place}
use Rattle.book_core.proofs.Making.{made-absent, made-place}
use Rattle.book_core.proofs.apply.change_table.Goals as goal

pub returns-in_default : goal.returns-in_default
returns-in_default c = λ by_names named of same.
    let none = sym (c.place_of.ensures ∙ ap (position (λ t. bytes_eq t.name c.args.name)) c.deref.ensures.value)
    ∙ c.in_default.is in
    made-absent c.args.commits by_names c.args.tables.now.items c.no_versions.result of (rw named none)
    c.no_versions.ensures.added c.no_versions.ensures.closed

pub change_versions-requires-clause-room : goal.change_versions-requires-clause-room
change_versions-requires-clause-room c =
    let at = sym (c.place_of.ensures ∙ ap (position (λ t. bytes_eq t.name c.args.name)) c.deref.ensures.value)
    ∙ c.in-Some.is in
    let R : StoredTable → Type 0 =
    λ t. length t.versions + length (by_place.drafts_of c.args.change.now (current t.versions)) ≤ version_limit in
    subst R (sym c.table.view_is)
    (holds-place R c.args.name c.args.tables.now.items c.in-Some.at c.index_mut-table.result.now at
    c.index_mut-table.ensures.value c.requires.room)

pub change_versions-requires-clause-unbroken : goal.change_versions-requires-clause-unbroken
change_versions-requires-clause-unbroken c =
    let at = sym (c.place_of.ensures ∙ ap (position (λ t. bytes_eq t.name c.args.name)) c.deref.ensures.value)
    ∙ c.in-Some.is in
    let whole : IsUnbroken (record {
      name = c.table.inside.name;
      schema = c.table.inside.columns;
      versions = arc_value c.table.inside.versions;
    }) =
    subst IsUnbroken (sym c.table.view_is)
    (holds-place IsUnbroken c.args.name c.args.tables.now.items c.in-Some.at c.index_mut-table.result.now at
    c.index_mut-table.ensures.value c.requires.unbroken) in
    ap (λ key. break_key key (map unnumbered (current (arc_value c.table.inside.versions)))) c.key-key.ensures ∙ whole

pub returns : goal.returns
returns c = λ by_names named of same.
    let ts = c.args.tables.now.items in
    let key = c.key-key.ensures in
    let at = sym (c.place_of.ensures ∙ ap (position (λ t. bytes_eq t.name c.args.name)) c.deref.ensures.value)
    ∙ c.in-Some.is in
    let there = c.index_mut-table.ensures.value in
    let found = c.index_mut-table.result.now in
    let t : StoredTable = record {
      name = c.table.inside.name;
      schema = c.table.inside.columns;
      versions = arc_value c.table.inside.versions;
    } in
    made-place c.args.commits by_names c.args.change.now ts c.in-Some.at t (arc_value c.change_versions.new.shared)
    c.change_versions.result of (rw named at)
    (subst (λ (t : StoredTable). t ≡ get_or ts c.in-Some.at t) (sym c.table.view_is) there)
    (subst (IsWellKept c.args.commits) (sym c.table.view_is)
    (holds-place (IsWellKept c.args.commits) c.args.name ts c.in-Some.at found at there c.requires.well))
    (subst IsUnbroken (sym c.table.view_is)
    (holds-place IsUnbroken c.args.name ts c.in-Some.at found at there c.requires.unbroken))
    (subst (λ (t : StoredTable). DoesTheSame by_names t.schema c.args.change.now) (sym c.table.view_is)
    (holds-place (λ t. DoesTheSame by_names t.schema c.args.change.now) c.args.name ts c.in-Some.at found at there same))
    (rw c.next_commit-commit.ensures at c.change_versions.ensures.ok)
    c.change_versions.ensures.counts
    (on_ok_weaker c.change_versions.result
    (λ none. ap (λ k. overlap_after c.args.change.now k t.versions) (sym key) ∙ none) c.change_versions.ensures.apart)
    (IfErr-weaker c.change_versions.result _ _
    (λ why some other. ap (λ k. overlap_after c.args.change.now k t.versions) (sym key) ∙ some other)
    c.change_versions.ensures.overlap)
    c.change_versions.ensures.err
