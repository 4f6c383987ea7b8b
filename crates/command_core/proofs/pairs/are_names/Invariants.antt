-- The fields already tested are names.
use Rattle.std.proofs.Common.{◌≡◌, drop}
use Rattle.std.specs.List.{list_all}
use Rattle.row_core.specs.Name.{is_name}
use Rattle.command_core.specs.Lines.{fields_in}
use Rattle.command_core.proofs.pairs.are_names.Given as goal

abbrev pub invariant-loop-place : goal.invariant-loop-place
invariant-loop-place l = list_all is_name (drop l.place (fields_in l.line)) ≡ list_all is_name (fields_in l.line)
