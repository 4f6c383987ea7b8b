use Rattle.std.proofs.Common.{arith, subst}
use Rattle.std.proofs.lemmas.List.{take_all}
use Rattle.version_core.specs.KeyIndex.{HasOnlyOpen}
use Rattle.version_core.proofs.key_index.KeyIndex.extend.Goals as goal

pub returns-clause-only : goal.returns-clause-only
returns-clause-only c = λ gone before.
    subst (λ vs. HasOnlyOpen vs gone c.loop-place.self)
    (take_all c.loop-place.place c.args.versions.now (omega (arith, c.loop-place-test.false, c.len-place-end.ensures)))
    (c.loop-place.invariant.only gone before)
