-- The bytes of a text, however they are stored.
use Rattle.std.specs.Prelude.{ℕ, List, ◌≤◌, length, take}
use Rattle.std.specs.Arc.{arc_value}
use Rattle.std.specs.Str.{IsUtf8}
use Rattle.std.specs.String.{string_bytes}
use Rattle.row_core.specs.Limits.{text_limit}
use Rattle.row_core.specs.declared.text.Bytes.{Bytes}
use Rattle.row_core.specs.declared.text.Bytes.TheVariants.{Short, Long}

-- the stored bytes
abbrev pub bytes_in : Bytes → List ℕ
bytes_in (Short len bytes) = take len bytes
bytes_in (Long text) = string_bytes (arc_value text)

-- the bytes can be a text's
abbrev pub IsText : List ℕ → Type 0
IsText bytes = (length bytes ≤ text_limit) × IsUtf8 bytes
