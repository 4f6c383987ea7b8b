-- The texts already read are names.
use Rattle.std.proofs.Common.{◌≡◌, drop, take}
use Rattle.std.specs.List.{list_all}
use Rattle.row_core.specs.Name.{is_name}
use Rattle.command_core.specs.Lines.{fields_in}
use Rattle.command_core.proofs.table_command.name_key.Given as goal

abbrev pub invariant-loop-place : goal.invariant-loop-place
invariant-loop-place l = record {
  left : list_all is_name (drop l.place (fields_in l.key)) ≡ list_all is_name (fields_in l.key);
  named : l.names.items ≡ take l.place (fields_in l.key);
}
