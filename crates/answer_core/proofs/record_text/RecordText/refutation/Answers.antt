use Rattle.std.proofs.Common.{append_assoc, append-nil, rules, take_all}
use Rattle.std.specs.Prelude.{codes, decimal}
use Rattle.std.proofs.lemmas.Result.{IfOk-equal}
use Rattle.csv.specs.Writing.{fields_text, is_blank}
use Rattle.answer_core.proofs.FieldLemmas.{body_so_far}
use Rattle.answer_core.proofs.record_text.RecordText.refutation.Goals as goal

pub loop-number-init : goal.loop-number-init
unfolding fields_text
loop-number-init c = search (rules, append_assoc, append-nil)

pub loop-number-preserved : goal.loop-number-preserved
loop-number-preserved c =
    body_so_far decimal (codes "no") c.args.name.now c.args.numbers.now c.loop-number.number-index 0 c.args.self.now
    c.loop-number.self c.number.new.self c.loop-number-test.true c.loop-number.invariant c.in_ok-number.ensures

pub returns : goal.returns
unfolding is_blank
returns c = search (rules, IfOk-equal, append_assoc, append-nil, take_all)
