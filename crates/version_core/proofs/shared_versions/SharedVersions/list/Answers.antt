use Rattle.std.proofs.Common.{◌∙◌, ◌≤◌, ◌++◌, ◌∷◌, [], ap, arith, length}
use Rattle.std.proofs.lemmas.List.{take_all}
use Rattle.table_core.proofs.PlaceLemmas.{take-one_more}
use Rattle.version_core.proofs.shared_versions.SharedVersions.list.Goals as goal

pub loop-i-preserved : goal.loop-i-preserved
loop-i-preserved c =
    c.in_ok-push.ensures.items
    ∙ ap (λ versions. versions ++ c.in_ok-copy_at.field-0 ∷ []) c.loop-i.invariant
    ∙ take-one_more c.args.self.now c.loop-i.i c.in_ok-copy_at.field-0 c.in_ok-copy_at.ensures

pub returns : goal.returns
returns c =
    let past : length c.args.self.now ≤ c.loop-i.i = omega (arith, c.loop-i-test.false, c.len-i-end.ensures) in
    c.from.ensures ∙ c.loop-i.invariant ∙ take_all c.loop-i.i c.args.self.now past
