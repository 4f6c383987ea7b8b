use Rattle.draft_core.specs.Lent.{lent_draft}
use Rattle.version_core.specs.Finding.{passes}
use Rattle.version_core.specs.Keys.{collides_left}
use Rattle.version_core.proofs.KeyIndexLemmas.{AreLeft}
use Rattle.version_core.proofs.key_index.KeyIndex.any_collides.Given as goal

-- no version of a searched entry collides
abbrev pub invariant-loop-entry : goal.invariant-loop-entry
invariant-loop-entry l =
    AreLeft (λ e. passes l.versions
    (collides_left l.change l.self.columns.items (lent_draft l.new)) e.place)
    l.initial.entry-iterator.iter l.entry-iterator.iter
