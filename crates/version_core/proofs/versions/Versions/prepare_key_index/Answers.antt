use Rattle.std.proofs.Common.{[], subst, sym}
use Rattle.std.specs.Prelude.{IfSome}
use Rattle.version_core.specs.KeyIndex.{HasOnlyOpen, IsKeyIndex}
use Rattle.version_core.proofs.KeyIndexLemmas.{ok-kept}
use Rattle.version_core.proofs.versions.Versions.prepare_key_index.Goals as goal

pub invariant_of-self-then-may_overlap : goal.invariant_of-self-then-may_overlap
invariant_of-self-then-may_overlap c =
    let vs = c.self.inside.items in
    record {
      found = c.self.invariant.found;
      by_key = subst (λ o. IfSome o (IsKeyIndex vs)) (sym c.ok.ensures.value)
          (ok-kept (IsKeyIndex vs) c.of.result c.of.ensures.index);
      only = subst (λ o. IfSome o (HasOnlyOpen vs [])) (sym c.ok.ensures.value)
          (ok-kept (HasOnlyOpen vs []) c.of.result c.of.ensures.only);
    }
