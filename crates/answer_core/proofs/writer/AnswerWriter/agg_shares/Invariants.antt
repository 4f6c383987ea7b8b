-- The rows of the partitions already visited are printed.
use Rattle.std.proofs.Common.{map, take}
use Rattle.agg_core.specs.Shares.{rows_in_shares}
use Rattle.answer_core.specs.PrintedRecords.{agg_record}
use Rattle.answer_core.specs.Unwritten.{Adds}
use Rattle.answer_core.proofs.writer.AnswerWriter.agg_shares.Given as goal

abbrev pub invariant-loop-share : goal.invariant-loop-share
invariant-loop-share g l = Adds l.fn.self l.self (map agg_record (rows_in_shares (take l.share-index l.shares)))
