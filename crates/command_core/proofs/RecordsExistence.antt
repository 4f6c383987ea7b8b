-- Each text has a list of records: reading a record leaves less text.
use Rattle.std.proofs.Common.{◌≡◌, ℕ, zero, suc, ◌<◌, List, [], ◌∷◌, Option, Some, None, refl, arith}
use Rattle.csv.specs.Machine.{Read, next_record}
use Rattle.csv.specs.Reading.{AreRecords, Reached, default_config, strip_bom}
use Rattle.csv.specs.declared.parser.Config.{Config}
use Rattle.csv.specs.declared.parser.State.{State}
use Rattle.csv.specs.declared.parser.State.TheVariants as st
use Rattle.command_core.specs.Records.{AreScriptRecords, Record}
use Rattle.command_core.proofs.Shrinking.{next_record-shrinks, work_left}

some_reading : (n : ℕ) (config : Config) (s : State) (text : List ℕ) → work_left s text < n → (records : List Record)
    × AreRecords config s text records
unfolding Reached
some_reading zero config s text few = absurd (omega arith)
some_reading (suc n) config s text few = by_read (some_reading n config) (next_record config s [] [] text) refl where
  by_read :
      ((t : State) (rest : List ℕ) → work_left t rest < n → (records : List Record) × AreRecords config t rest records)
      → (read : Option Read) → next_record config s [] [] text ≡ read → (records : List Record)
      × AreRecords config s text records
  by_read later None none = ([], (s, text, (refl, refl), none))
  by_read later (Some read) is =
      let less = next_record-shrinks config s [] [] text read is in
      let (records, (s', left, reached, none)) = later read.1 read.2 (omega (arith, less, few)) in
      (read.0 ∷ records, (s', left, (read, is, refl, reached), none))

pub some_records : (script : List ℕ) → (records : List Record) × AreScriptRecords script records
some_records script =
    some_reading (suc (work_left st.StartRecord (strip_bom script))) default_config st.StartRecord (strip_bom script)
    (omega arith)
