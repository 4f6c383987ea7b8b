-- The rows of the chunks already visited are printed.
use Rattle.std.proofs.Common.{map, take}
use Rattle.list_core.specs.Chunks.{all_in}
use Rattle.answer_core.specs.PrintedRecords.{anti_record}
use Rattle.answer_core.specs.Unwritten.{Adds}
use Rattle.answer_core.proofs.writer.AnswerWriter.anti_chunks.Given as goal

abbrev pub invariant-loop-chunk : goal.invariant-loop-chunk
invariant-loop-chunk g l = Adds l.fn.self l.self (map (anti_record l.left) (all_in (take l.chunk-index l.chunks)))
