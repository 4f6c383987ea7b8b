use Rattle.std.proofs.Common.{List, ◌++◌, map, sym, ap, ◌∙◌, append-nil}
use Rattle.std.proofs.lemmas.List.{take_all}
use Rattle.merge_core.specs.declared.gap.Gap.{Gap}
use Rattle.anti_core.specs.ItemAnti.{row_of_gap}
use Rattle.anti_core.proofs.RowLemmas.{rows-more}
use Rattle.anti_core.proofs.rows.add_rows.Goals as goal

pub loop-gap-init : goal.loop-gap-init
loop-gap-init c = sym (append-nil c.args.rows.now.items)

pub loop-gap-preserved : goal.loop-gap-preserved
loop-gap-preserved c =
    rows-more c.args.rows.now.items c.args.gaps.now c.loop-gap.gap-index c.gap-item.result c.loop-gap.rows.items
    c.push.new.self.items c.loop-gap-test.true c.gap-item.is c.loop-gap.invariant c.in_ok-push.ensures.items

pub returns : goal.returns
returns c =
    c.loop-gap.invariant
    ∙ ap (λ (gaps : List Gap). c.args.rows.now.items ++ map row_of_gap gaps)
    (take_all c.loop-gap.gap-index c.args.gaps.now c.loop-gap-test.false)
