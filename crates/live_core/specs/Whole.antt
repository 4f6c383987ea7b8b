-- The records that are known when only the first bytes of a script have arrived.
use Rattle.std.specs.Prelude.{ℕ, ◌≡◌, ◌≤◌, ◌⊎◌, List, [], ◌++◌, length}
use Rattle.command_core.specs.Meaning.{Meaning, MeansUnended}
use Rattle.command_core.specs.Records.{AreScriptRecords, Record}
use Rattle.command_core.specs.Statement.{Statement, StatesUnended}

-- Whatever follows these bytes, the script's first records are these.
abbrev pub BeginWith : List ℕ → List Record → Type 0
BeginWith bytes records =
    (more : List ℕ) (all : List Record) → AreScriptRecords (bytes ++ more) all
    → (later : List Record) × (all ≡ records ++ later)

-- The whole records: the longest list of records that are the first ones whatever follows.
pub record AreWhole (bytes : List ℕ) (records : List Record) : Type 0 where
  pub first : BeginWith bytes records
  pub longest : (others : List Record) → BeginWith bytes others → length others ≤ length records

-- A block whose `end` is missing.
abbrev pub IsUnended : ℕ → List Record → Type 0
IsUnended number records =
    ((meaning : Meaning) × MeansUnended number records [] meaning)
    ⊎ ((statement : Statement) × StatesUnended number records [] statement)
