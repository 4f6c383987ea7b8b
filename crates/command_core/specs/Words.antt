-- What the words of a record say.
use Rattle.std.specs.Prelude.{ℕ, List, [], ◌∷◌, Bool, ◌||◌, false, Option, Some, None, bytes_eq, codes, if◌then◌else◌}
use Rattle.command_core.specs.Records.{Record}
use Rattle.command_core.specs.declared.words.Verb.{Verb}
use Rattle.command_core.specs.declared.words.Verb.TheVariants.{Table, Update, Delete, Rows, At, Between, FromTo, Dip, Join, Anti, Agg, Log}

-- The first field is `word`.
abbrev pub begins : List ℕ → Record → Bool
begins word [] = false
begins word (first ∷ rest) = bytes_eq first word

-- The command of one record that the first field names.
abbrev pub verb_of : Record → Option Verb
verb_of line =
    if begins (codes "table") line then Some Table
    else if begins (codes "update") line then Some Update
    else if begins (codes "delete") line then Some Delete
    else if begins (codes "rows") line then Some Rows
    else if begins (codes "at") line then Some At
    else if begins (codes "between") line then Some Between
    else if begins (codes "fromto") line then Some FromTo
    else if begins (codes "dip") line then Some Dip
    else if begins (codes "join") line then Some Join
    else if begins (codes "anti") line then Some Anti
    else if begins (codes "agg") line then Some Agg
    else if begins (codes "log") line then Some Log
    else None

-- The record is the one field `end`.
abbrev pub is_end : Record → Bool
is_end (first ∷ []) = bytes_eq first (codes "end")
is_end line = false

-- The record opens a block by its word, whatever its other fields are.
abbrev pub opens_block : Record → Bool
opens_block line = begins (codes "load") line || begins (codes "check") line
