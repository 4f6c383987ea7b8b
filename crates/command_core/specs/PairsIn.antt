-- The pairs that fields in memory stand for.
use Rattle.std.specs.Prelude.{List}
use Rattle.command_core.specs.Lines.{fields_in}
use Rattle.row_core.specs.Name.{NamePair}
use Rattle.command_core.specs.Pairs.{Compared, TextPair, pairs_of}
use Rattle.command_core.specs.declared.pairs.NamePairs.{NamePairs}
use Rattle.command_core.specs.declared.pairs.TextPairs.{TextPairs}
use Rattle.command_core.specs.declared.pairs.TwoTables.{TwoTables}

-- The pairs of names and texts.
abbrev pub pairs_in : TextPairs → List TextPair
pairs_in pairs = pairs_of (fields_in pairs.fields)

-- The pairs of names.
abbrev pub name_pairs_in : NamePairs → List NamePair
name_pairs_in pairs = pairs_of (fields_in pairs.fields)

-- The two tables that are compared.
abbrev pub compared_in : TwoTables → Compared
compared_in tables = record { left = tables.left; right = tables.right; on = name_pairs_in tables.on }
