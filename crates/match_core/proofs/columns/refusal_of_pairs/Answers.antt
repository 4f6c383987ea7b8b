use Rattle.std.proofs.Common.{sym, ◌∙◌}
use Rattle.match_core.specs.Columns.{tests_of_names}
use Rattle.row_core.proofs.RefusalLemmas.{refused_here, allowed_here}
use Rattle.match_core.proofs.columns.refusal_of_pairs.Goals as goal

pub returns-then-is_some : goal.returns-then-is_some
returns-then-is_some c =
    refused_here
    (tests_of_names c.args.left.now c.args.right.now) c.args.on.now c.loop-pair.pair-index c.pair-item.result
    c.refusal_of_pair-refused.result _ c.loop-pair-test.true c.pair-item.is c.refusal_of_pair-refused.ensures
    (sym c.is_some.ensures ∙ c.if-is_some.true) c.loop-pair.invariant

pub loop-pair-preserved : goal.loop-pair-preserved
loop-pair-preserved c =
    allowed_here
    (tests_of_names c.args.left.now c.args.right.now) c.args.on.now c.loop-pair.pair-index c.pair-item.result
    c.refusal_of_pair-refused.result _ c.loop-pair-test.true c.pair-item.is c.refusal_of_pair-refused.ensures
    (sym c.is_some.ensures ∙ c.if-is_some.false) c.loop-pair.invariant
