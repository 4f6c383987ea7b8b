use Rattle.version_core.specs.Finding.{any_row}
use Rattle.version_core.proofs.FindingLemmas.{ListsOpen-swept}
use Rattle.version_core.proofs.versions.Versions.drop_closed.Goals as goal

pub invariant_of-self-then-self-len : goal.invariant_of-self-then-self-len
invariant_of-self-then-self-len c =
    record {
      found = record {
        all = rw c.drop_closed.ensures
            (ListsOpen-swept c.self.inside.items any_row c.self.inside.open_at c.self.invariant.found.all);
        by_value = c.sweep_indexes.ensures;
      };
      by_key = c.self.invariant.by_key;
      only = c.self.invariant.only;
    }
