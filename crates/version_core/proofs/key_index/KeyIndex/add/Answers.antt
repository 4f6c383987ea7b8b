use Rattle.std.proofs.Common.{◌≡◌, ◌∙◌, ap, refl, sym}
use Rattle.std.proofs.lemmas.Option.{get_or_from_slice_get}
use Rattle.version_core.specs.KeyIndex.{entry_of}
use Rattle.version_core.specs.Lent.{lent_version}
use Rattle.version_core.proofs.KeyIndexLemmas.{key_index-added, key_index-skipped, only-added, only-skipped}
use Rattle.version_core.proofs.key_index.KeyIndex.add.Goals as goal

pub returns-in_default-clause-index : goal.returns-in_default-clause-index
returns-in_default-clause-index c =
    let v = lent_version c.at-version.result in
    let here = sym (get_or_from_slice_get c.args.versions.now c.args.place v v c.at-version.ensures) in
    let entry : c.entry_of-entry.result ≡ entry_of c.args.self.now.columns.items c.args.place v =
    c.entry_of-entry.ensures v refl ∙ ap (λ key. entry_of key c.args.place v) c.deref.ensures.value in
    key_index-added c.args.versions.now c.args.place v c.args.self.now
    (record c.args.self.now { entries = c.insert.new.self }) c.requires.inside here refl
    (rw entry at c.in_default.ensures.updates) c.requires.before

pub returns-else-is_open-clause-index : goal.returns-else-is_open-clause-index
returns-else-is_open-clause-index c =
    let v = lent_version c.at-version.result in
    let here = sym (get_or_from_slice_get c.args.versions.now c.args.place v v c.at-version.ensures) in
    key_index-skipped c.args.versions.now c.args.place v c.args.self.now c.args.self.now c.requires.inside here refl
    (sym c.is_open.ensures ∙ c.if-is_open.false) refl c.requires.before

pub returns-in_default-clause-only : goal.returns-in_default-clause-only
returns-in_default-clause-only c = λ gone before.
    let v = lent_version c.at-version.result in
    let here = sym (get_or_from_slice_get c.args.versions.now c.args.place v v c.at-version.ensures) in
    let entry : c.entry_of-entry.result ≡ entry_of c.args.self.now.columns.items c.args.place v =
    c.entry_of-entry.ensures v refl ∙ ap (λ key. entry_of key c.args.place v) c.deref.ensures.value in
    only-added c.args.versions.now c.args.place v c.args.self.now
    (record c.args.self.now { entries = c.insert.new.self }) c.requires.inside here refl gone before
    (sym c.is_open.ensures ∙ c.if-is_open.true) (rw entry at c.in_default.ensures.updates)

pub returns-else-is_open-clause-only : goal.returns-else-is_open-clause-only
returns-else-is_open-clause-only c = λ gone before.
    let v = lent_version c.at-version.result in
    let here = sym (get_or_from_slice_get c.args.versions.now c.args.place v v c.at-version.ensures) in
    only-skipped c.args.versions.now c.args.place v c.args.self.now c.args.self.now c.requires.inside here refl gone
    before refl
