-- The columns already read have names.
use Rattle.std.proofs.Common.{◌≡◌, drop, take}
use Rattle.std.specs.List.{list_all}
use Rattle.row_core.specs.Name.{is_name}
use Rattle.command_core.specs.TableCommand.{raw_of}
use Rattle.command_core.proofs.table_command.name_columns.Given as goal

abbrev pub invariant-loop-name : goal.invariant-loop-name
invariant-loop-name l = record {
  left : list_all (λ column. is_name column.0) (raw_of (drop l.name-index l.raw)) ≡ list_all
      (λ column. is_name column.0) (raw_of l.raw);
  named : l.columns.items ≡ raw_of (take l.name-index l.raw);
}
