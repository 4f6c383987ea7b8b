use Rattle.std.proofs.Common.{◌≡◌, ◌∙◌, None, Some, ap, refl, sym}
use Rattle.std.specs.Prelude.{option_map, slice_get}
use Rattle.std.proofs.lemmas.Option.{same_Some}
use Rattle.version_core.specs.KeyIndex.{entry_of}
use Rattle.version_core.specs.OpenVersions.{is_open}
use Rattle.version_core.specs.Lent.{lent_version}
use Rattle.version_core.proofs.KeyIndexLemmas.{key_index-dropped, only-dropped, only-stays}
use Rattle.version_core.proofs.key_index.KeyIndex.drop_closed_at.Goals as goal

pub returns-then-not-is_open-clause-index : goal.returns-then-not-is_open-clause-index
returns-then-not-is_open-clause-index c =
    let vs = c.args.versions.now in
    let v = lent_version c.in-Some.version in
    let there : slice_get vs c.args.place ≡ Some v =
    sym c.get.ensures ∙ ap (option_map lent_version) c.in-Some.is in
    let entry : c.entry_of-entry.result ≡ entry_of c.args.self.now.columns.items c.args.place v =
    c.entry_of-entry.ensures v refl ∙ ap (λ key. entry_of key c.args.place v) c.deref.ensures.value in
    key_index-dropped vs c.args.place v c.args.self.now
    (record c.args.self.now { entries = c.remove.new.self }) there (sym c.is_open.ensures ∙ c.if-not-is_open.true) refl
    (rw entry at c.remove.ensures.updates) c.requires

pub returns-then-not-is_open-clause-only : goal.returns-then-not-is_open-clause-only
returns-then-not-is_open-clause-only c = λ gone before.
    let vs = c.args.versions.now in
    let v = lent_version c.in-Some.version in
    let there : slice_get vs c.args.place ≡ Some v =
    sym c.get.ensures ∙ ap (option_map lent_version) c.in-Some.is in
    let entry : c.entry_of-entry.result ≡ entry_of c.args.self.now.columns.items c.args.place v =
    c.entry_of-entry.ensures v refl ∙ ap (λ key. entry_of key c.args.place v) c.deref.ensures.value in
    only-dropped vs c.args.place v gone c.args.self.now
    (record c.args.self.now { entries = c.remove.new.self }) there refl (rw entry at c.remove.ensures.updates) before

pub returns-else-not-is_open-clause-only : goal.returns-else-not-is_open-clause-only
returns-else-not-is_open-clause-only c = λ gone before.
    let vs = c.args.versions.now in
    let v = lent_version c.in-Some.version in
    let there : slice_get vs c.args.place ≡ Some v =
    sym c.get.ensures ∙ ap (option_map lent_version) c.in-Some.is in
    only-stays vs c.args.place gone c.args.self.now
    (λ u at. ap is_open (same_Some u v (sym at ∙ there)) ∙ sym c.is_open.ensures ∙ c.if-not-is_open.false) before

pub returns-in_default-clause-only : goal.returns-in_default-clause-only
returns-in_default-clause-only c = λ gone before.
    let vs = c.args.versions.now in
    let nowhere : slice_get vs c.args.place ≡ None = sym c.get.ensures ∙ ap (option_map lent_version) c.in_default.is in
    only-stays vs c.args.place gone c.args.self.now
    (λ u at. let never : Some u ≡ None = sym at ∙ nowhere in absurd (cc)) before
