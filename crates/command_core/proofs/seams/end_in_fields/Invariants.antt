-- No list already tested ends with a line feed.
use Rattle.std.proofs.Common.{take}
use Rattle.command_core.specs.Seams.{EndsInField, joined}
use Rattle.command_core.proofs.seams.end_in_fields.Given as goal

abbrev pub invariant-loop-records : goal.invariant-loop-records
invariant-loop-records l = EndsInField (joined (take l.records-index l.lists))
