-- The rows of the chunks already visited are printed.
use Rattle.std.proofs.Common.{map, take}
use Rattle.list_core.specs.Chunks.{all_in}
use Rattle.agg_core.specs.Grouping.{agg_row_of}
use Rattle.answer_core.specs.PrintedRecords.{agg_record}
use Rattle.answer_core.specs.Unwritten.{Adds}
use Rattle.answer_core.proofs.writer.AnswerWriter.agg_share.Given as goal

abbrev pub invariant-loop-chunk : goal.invariant-loop-chunk
invariant-loop-chunk g l =
    Adds l.fn.self l.self
    (map agg_record (map (agg_row_of l.share.groups.items) (all_in (take l.chunk-index l.chunk-items))))
