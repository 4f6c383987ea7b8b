use Rattle.std.proofs.Common.{◌++◌, List, filter, sym, ap, ◌∙◌, append-nil}
use Rattle.std.specs.Ordering.{nat_cmp}
use Rattle.std.proofs.lemmas.List.{take_all}
use Rattle.work_core.specs.Ranges.{has}
use Rattle.anti_core.specs.declared.rows.AntiRow.{AntiRow}
use Rattle.anti_core.proofs.OrderingLemmas.{kept-more, kept-same}
use Rattle.anti_core.proofs.ordering.add_rows_of_ids.Goals.{then-has+in_ok-push, else-has}
use Rattle.anti_core.proofs.ordering.add_rows_of_ids.Goals as goal

pub loop-row-init : goal.loop-row-init
loop-row-init c = sym (append-nil c.args.rows.now.items)

pub loop-row-preserved : goal.loop-row-preserved
loop-row-preserved c =
    let test = λ (row : AntiRow). has nat_cmp c.args.ids row.id in
    let base = c.args.rows.now.items in
    let list = c.args.list.now in
    let i = c.loop-row.row-index in
    let row = c.row-item.result in
    elim c.if-has.branch [
      | then-has+in_ok-push w ↦
          kept-more test base list i row c.loop-row.rows.items c.if-has.rows.items c.loop-row-test.true c.row-item.is
          (sym c.has.ensures ∙ w.if-has.true) c.loop-row.invariant
          (ap (λ v. v.items) w.rows-is ∙ w.in_ok-push.ensures.items)
      | else-has w ↦
          kept-same test base list i row c.loop-row.rows.items c.if-has.rows.items c.loop-row-test.true c.row-item.is
          (sym c.has.ensures ∙ w.if-has.false) c.loop-row.invariant (ap (λ v. v.items) w.rows-is)
    ]

pub returns : goal.returns
returns c =
    let test = λ (row : AntiRow). has nat_cmp c.args.ids row.id in
    c.loop-row.invariant
    ∙ ap (λ (l : List AntiRow). c.args.rows.now.items ++ filter test l)
    (take_all c.loop-row.row-index c.args.list.now c.loop-row-test.false)
