use Rattle.stream_core.specs.Counted.{sink_of}
use Rattle.answer_core.proofs.WritingLemmas.{on_any_error, part_of_texts}
use Rattle.answer_core.proofs.texts.write_each.Goals as goal

pub returns-in_err-write_all-clause-prefix : goal.returns-in_err-write_all-clause-prefix
returns-in_err-write_all-clause-prefix g c =
    let sink = sink_of g.W.Write.contents in
    on_any_error c.from_residual.result
    (part_of_texts c.args.texts.now c.loop-text.text-index c.text-item.result (sink c.args.writer.now)
    (sink c.loop-text.writer) (sink c.write_all.new.writer) c.loop-text-test.true c.text-item.is
    c.loop-text.invariant.written (rw c.deref.ensures.value at c.in_err-write_all.ensures.prefix))
