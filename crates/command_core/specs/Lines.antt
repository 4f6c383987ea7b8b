-- The fields and the records that a `Line` and `Lines` stand for.
use Rattle.std.specs.Prelude.{List, ◌-◌, take, drop}
use Rattle.command_core.specs.Records.{Record}
use Rattle.command_core.specs.declared.line.Line.{Line}
use Rattle.command_core.specs.declared.lines.Lines.{Lines}

-- The fields of a record.
abbrev pub fields_in : Line → Record
fields_in line = take (line.to - line.from) (drop line.from line.fields.now)

-- The records, in order.
abbrev pub lines_in : Lines → List Record
lines_in lines = take (lines.to - lines.from) (drop lines.from lines.records.now)
