-- The records of a script.
use Rattle.std.specs.Prelude.{ℕ, List}
use Rattle.csv.specs.Reading.{AreRecords, default_config, strip_bom}
use Rattle.csv.specs.declared.parser.State.TheVariants as st

-- A record is the list of its fields' bytes.
abbrev pub Record : Type 0
Record = List (List ℕ)

-- These are the records that `csv` reads from a script's bytes, in order, up to the end.
abbrev pub AreScriptRecords : List ℕ → List Record → Type 0
AreScriptRecords script records = AreRecords default_config st.StartRecord (strip_bom script) records
