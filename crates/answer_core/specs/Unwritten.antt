-- The bytes of an answer that were made and not yet written.
use Rattle.std.specs.Prelude.{ℕ, ◌≡◌, List, [], ◌++◌}
use Rattle.command_core.specs.Records.{Record}
use Rattle.answer_core.specs.RecordBytes.{bytes_of}
use Rattle.stream_core.specs.declared.fault.RunFault.{RunFault}
use Rattle.stream_core.specs.declared.fault.RunFault.TheVariants.{NoMemory}

-- These records were appended.
abbrev pub Adds : List ℕ → List ℕ → List Record → Type 0
Adds old new records = new ≡ old ++ bytes_of records

-- The bytes that are left after writing failed: none if memory was refused, otherwise all.
abbrev pub left_by : RunFault → List ℕ → List ℕ
left_by NoMemory unwritten = []
left_by why unwritten = unwritten
