use Rattle.std.proofs.Common.{List, filter, ap, ◌∙◌, ◌++◌}
use Rattle.std.specs.Ordering.{nat_cmp}
use Rattle.std.specs.Global.{Vec}
use Rattle.std.proofs.lemmas.List.{take_all}
use Rattle.list_core.specs.Chunks.{all_in}
use Rattle.work_core.specs.Ranges.{has}
use Rattle.anti_core.specs.declared.rows.AntiRow.{AntiRow}
use Rattle.anti_core.proofs.OrderingLemmas.{kept_in-more}
use Rattle.anti_core.proofs.ordering.rows_of_ids.Goals as goal

pub loop-list-init : goal.loop-list-init
loop-list-init c = c.in_ok-rows.ensures.items

pub loop-list-preserved : goal.loop-list-preserved
loop-list-preserved c =
    let test = λ (row : AntiRow). has nat_cmp c.args.ids row.id in
    kept_in-more test c.args.lists.now c.loop-list.list-index c.list-item.result c.loop-list.rows.items
    c.add_rows_of_ids.new.rows.items c.loop-list-test.true c.list-item.is c.loop-list.invariant
    (c.in_ok-add_rows_of_ids.ensures
    ∙ ap (λ (l : List AntiRow). c.loop-list.rows.items ++ filter test l) c.deref.ensures.value)

pub returns : goal.returns
returns c =
    let test = λ (row : AntiRow). has nat_cmp c.args.ids row.id in
    c.loop-list.invariant
    ∙ ap (λ (lists : List (Vec AntiRow)). filter test (all_in lists))
    (take_all c.loop-list.list-index c.args.lists.now c.loop-list-test.false)
