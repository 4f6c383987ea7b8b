-- The names of refusals.
use Rattle.std.specs.Prelude.{ℕ, List, codes}
use Rattle.row_core.specs.declared.schema.KeyRefused.{KeyRefused}
use Rattle.row_core.specs.declared.schema.KeyRefused.TheVariants as key
use Rattle.row_core.specs.declared.schema.SchemaRefused.{SchemaRefused}
use Rattle.row_core.specs.declared.schema.SchemaRefused.TheVariants as schema
use Rattle.command_core.specs.declared.refusal.Fault.{Fault}
use Rattle.command_core.specs.declared.refusal.Refusal.{Refusal}
use Rattle.command_core.specs.declared.refusal.Refusal.TheVariants.{BadCommand, BadName, BadNumber, BadPeriod, BadPoint, BadUtf8, Full, Future, KeyOverlap, NoColumn, NoTable, NotInBlock, TableExists, TooLong, TooMany, TwiceNamed, Unended, WrongKind, WrongWidth}

-- The name of a refusal as it is printed.
abbrev pub refusal_text : Refusal → List ℕ
refusal_text BadCommand = codes "BadCommand"
refusal_text BadName = codes "BadName"
refusal_text BadNumber = codes "BadNumber"
refusal_text BadPeriod = codes "BadPeriod"
refusal_text BadPoint = codes "BadPoint"
refusal_text BadUtf8 = codes "BadUtf8"
refusal_text Full = codes "Full"
refusal_text Future = codes "Future"
refusal_text KeyOverlap = codes "KeyOverlap"
refusal_text NoColumn = codes "NoColumn"
refusal_text NoTable = codes "NoTable"
refusal_text NotInBlock = codes "NotInBlock"
refusal_text TableExists = codes "TableExists"
refusal_text TooLong = codes "TooLong"
refusal_text TooMany = codes "TooMany"
refusal_text TwiceNamed = codes "TwiceNamed"
refusal_text Unended = codes "Unended"
refusal_text WrongKind = codes "WrongKind"
refusal_text WrongWidth = codes "WrongWidth"

-- The fault of the record of this number.
abbrev pub fault : ℕ → Refusal → Fault
fault number refusal = record { number = number; refusal = refusal }

-- The refusal for columns that don't make a schema.
abbrev pub schema_refusal : SchemaRefused → Refusal
schema_refusal schema.TooMany = TooMany
schema_refusal schema.TwiceNamed = TwiceNamed

-- The refusal for columns that don't make a key.
abbrev pub key_refusal : KeyRefused → Refusal
key_refusal key.NoColumn = NoColumn
key_refusal key.TwiceNamed = TwiceNamed
