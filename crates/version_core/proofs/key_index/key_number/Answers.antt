use Rattle.std.proofs.Common.{◌∙◌, ap}
use Rattle.draft_core.specs.Lent.{lent_draft}
use Rattle.version_core.specs.KeyIndex.{mixed}
use Rattle.version_core.proofs.KeyIndexLemmas.{key-more, key-none}
use Rattle.version_core.proofs.key_index.key_number.Goals as goal

pub loop-column-init : goal.loop-column-init
loop-column-init c = key-none (lent_draft c.args.row).values

pub loop-column-preserved : goal.loop-column-preserved
loop-column-preserved c =
    c.mixed-number.ensures
    ∙ ap (mixed c.loop-column.number) c.number_in.ensures
    ∙ key-more c.args.key.now (lent_draft c.args.row).values c.loop-column.column-index c.loop-column.number
    c.loop-column-test.true c.loop-column.invariant
