use Rattle.std.proofs.Common.{◌++◌, ◌∙◌, ap, append_assoc, append-nil, rules, take_all}
use Rattle.std.specs.Prelude.{codes, decimal}
use Rattle.std.proofs.lemmas.Result.{IfOk-equal}
use Rattle.csv.specs.Writing.{fields_text, is_blank}
use Rattle.dip_core.specs.declared.item.Item.{Item}
use Rattle.answer_core.specs.RecordBytes.{field_behind}
use Rattle.answer_core.proofs.FieldLemmas.{body_so_far}
use Rattle.answer_core.proofs.record_text.RecordText.part.Goals as goal

pub loop-item-init : goal.loop-item-init
unfolding fields_text
loop-item-init c = search (rules, append_assoc, append-nil)

pub loop-item-preserved : goal.loop-item-preserved
loop-item-preserved c = record {
  same = c.loop-item.invariant.same;
  fields = body_so_far (λ (item : Item). decimal item.id) (codes "part") (decimal c.args.number)
      c.items-item-items.result.now c.loop-item.item-index c.item-item.result c.args.self.now c.loop-item.self
      c.number-in-loop-item.new.self c.loop-item-test.true c.loop-item.invariant.fields
      (c.in_ok-number-2.ensures
      ∙ ap (λ (item : Item). c.loop-item.self ++ field_behind (decimal item.id)) c.item-item.is);
}

pub returns : goal.returns
unfolding is_blank
returns c = search (rules, IfOk-equal, append_assoc, append-nil, take_all)
