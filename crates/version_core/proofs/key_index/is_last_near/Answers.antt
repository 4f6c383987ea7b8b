use Rattle.std.proofs.Common.{◌≡◌, ◌∙◌, Some, sym, ap, rules}
use Rattle.std.specs.Prelude.{option_map, slice_get}
use Rattle.draft_core.specs.Lent.{lent_draft}
use Rattle.version_core.specs.KeyIndex.{key_number}
use Rattle.version_core.specs.Lent.{lent_version}
use Rattle.version_core.proofs.KeyIndexLemmas.{last-of_key, last-of_others, below-number}
use Rattle.version_core.proofs.key_index.is_last_near.Goals as goal

pub returns-then-entry-number-clause-last : goal.returns-then-entry-number-clause-last
returns-then-entry-number-clause-last c =
    λ less. last-of_others c.args.key.now (lent_draft c.args.new) c.args.versions.now c.args.entry.now
    (below-number c.args.entry.now.number c.args.number
    (key_number c.args.key.now (lent_draft c.args.new).values) less c.requires.number)

pub returns-in-Some-clause-last : goal.returns-in-Some-clause-last
returns-in-Some-clause-last c =
    let same : c.args.entry.now.number ≡ c.args.number = search rules in
    let there : slice_get c.args.versions.now c.args.entry.now.place ≡ Some (lent_version c.in-Some.version) =
    sym c.get.ensures ∙ ap (option_map lent_version) c.in-Some.is in
    λ holds. last-of_key c.args.key.now (lent_draft c.args.new) c.args.versions.now c.args.entry.now
    (lent_version c.in-Some.version) c.requires.unbroken (same ∙ c.requires.number) there (c.is_open_before.ensures.open holds)
    (c.is_open_before.ensures.begins holds) (c.is_open_before.ensures.before holds)
    (c.is_open_before.ensures.key holds)
