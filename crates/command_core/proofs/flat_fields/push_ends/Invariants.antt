-- `ends` has the ends of the fields already pushed.
use Rattle.std.proofs.Common.{◌≡◌, ◌+◌, ◌++◌, length, take}
use Rattle.csv.specs.Records.{fields_of}
use Rattle.command_core.specs.Flat.{ends_from, size_of}
use Rattle.command_core.proofs.flat_fields.push_ends.Given as goal

abbrev pub invariant-loop-place : goal.invariant-loop-place
invariant-loop-place l = record {
  before : l.count ≡ length l.initial.ends.items;
  pushed : l.ends.items ≡ l.initial.ends.items ++ ends_from l.start (take l.place (fields_of l.row));
  last : l.end ≡ l.start + size_of (take l.place (fields_of l.row));
}
