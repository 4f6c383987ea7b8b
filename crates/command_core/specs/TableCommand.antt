-- A new table's columns and the names of its key, as fields in memory give them.
use Rattle.std.specs.Prelude.{ℕ, List, ◌∷◌, Option, None, map, option_map}
use Rattle.std.specs.Borrow.{Bor}
use Rattle.row_core.specs.declared.value.Kind.{Kind}
use Rattle.command_core.specs.Lines.{fields_in}
use Rattle.command_core.specs.Meaning.{TableForm, kind_named}
use Rattle.command_core.specs.Records.{Record}
use Rattle.command_core.specs.declared.table_command.RawTable.{RawTable}

-- A column's name and kind.
abbrev pub raw_column : Bor (List ℕ) × Kind → List ℕ × Kind
raw_column column = (column.0.now, column.1)

-- The names and kinds of all columns.
abbrev pub raw_of : List (Bor (List ℕ) × Kind) → List (List ℕ × Kind)
raw_of columns = map raw_column columns

-- The columns, and the names of the key.
abbrev pub form_of : RawTable → TableForm
form_of table = (raw_of table.columns.items, fields_in table.key)

-- The column that the first two fields give.
abbrev pub first_column : Record → Option (List ℕ × Kind)
first_column (name ∷ word ∷ fields) = option_map (λ kind. (name, kind)) (kind_named word)
first_column fields = None
