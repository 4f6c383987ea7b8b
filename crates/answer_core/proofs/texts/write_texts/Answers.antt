use Rattle.std.proofs.lemmas.Result.{on_err_weaker}
use Rattle.list_core.specs.Chunks.{all_in}
use Rattle.stream_core.specs.Counted.{sink_of}
use Rattle.answer_core.proofs.WritingLemmas.{part_behind}
use Rattle.answer_core.proofs.texts.write_texts.Goals as goal

pub returns-clause-prefix : goal.returns-clause-prefix
returns-clause-prefix g c =
    let sink = sink_of g.W.Write.contents in
    on_err_weaker c.write_all.result
    (part_behind (all_in c.args.texts.now) c.args.last.now (sink c.args.writer.now) (sink c.write_each.new.writer)
    (sink c.write_all.new.writer) c.in_ok-write_each.ensures.ok)
    c.write_all.ensures.prefix
