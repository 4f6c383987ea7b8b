-- Fields that are stored one after another.
use Rattle.std.specs.Prelude.{ℕ, ◌+◌, List, [], ◌∷◌, length, sum_by}
use Rattle.command_core.specs.Records.{Record}

-- The number of bytes of all fields.
abbrev pub size_of : Record → ℕ
size_of fields = sum_by length fields

-- The index where each field ends, if the first starts at `start`.
abbrev pub ends_from : ℕ → Record → List ℕ
ends_from start [] = []
ends_from start (field ∷ fields) = (start + length field) ∷ ends_from (start + length field) fields
