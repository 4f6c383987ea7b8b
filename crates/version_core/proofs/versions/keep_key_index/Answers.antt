use Rattle.std.proofs.Common.{◌∙◌, subst, sym, take}
use Rattle.std.specs.Prelude.{IfSome}
use Rattle.version_core.specs.KeyIndex.{HasOnlyOpen}
use Rattle.version_core.proofs.KeyIndexLemmas.{ok-holds}
use Rattle.version_core.proofs.versions.keep_key_index.Goals as goal

pub drop_closed-requires-clause-only : goal.drop_closed-requires-clause-only
drop_closed-requires-clause-only c =
    let vs = c.args.versions.now in
    let taken = c.args.taken.now in
    let before = subst (λ o. IfSome o (HasOnlyOpen (take c.args.from vs) taken))
    (sym c.take.ensures.value ∙ c.in-Some.is) c.requires.only in
    ok-holds (HasOnlyOpen vs taken c.extend.new.self) c.extend.result (sym c.is_ok.ensures.value ∙ c.if-is_ok.true)
    (c.extend.ensures.only taken before)
