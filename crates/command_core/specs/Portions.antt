-- The settings and the conditions that the fields after a portion's two points give.
use Rattle.std.specs.Prelude.{List, [], ◌∷◌, Option, Some, None, bytes_eq, codes, option_map, if◌then◌else◌}
use Rattle.std.specs.Option.{option_and_then}
use Rattle.command_core.specs.Pairs.{TextPair, paired_behind, pairs_of}
use Rattle.command_core.specs.Records.{Record}

-- The conditions: the pairs after `where`. Without any field, no conditions.
abbrev pub conditions_in : Record → Option (List TextPair)
conditions_in fields = option_map pairs_of (paired_behind (codes "where") fields)

-- The settings with one more at the beginning, and the conditions.
abbrev pub set_before : TextPair → List TextPair × List TextPair → List TextPair × List TextPair
set_before pair parts = (pair ∷ parts.0, parts.1)

-- The settings, each a column and its value, then the conditions. These begin at the first `where` in a column's
-- position.
abbrev pub parts_in : Record → Option (List TextPair × List TextPair)
parts_in [] = Some ([], [])
parts_in (column ∷ []) = None
parts_in (column ∷ text ∷ fields) =
    if bytes_eq column (codes "where") then option_map (λ conds. ([], conds)) (conditions_in (column ∷ text ∷ fields))
    else option_map (set_before (column, text)) (parts_in fields)

-- The settings and the conditions, if there is at least one setting.
abbrev pub some_set : List TextPair × List TextPair → Option (List TextPair × List TextPair)
some_set ([], conds) = None
some_set (set ∷ sets, conds) = Some (set ∷ sets, conds)

-- The settings after `set`, at least one, and the conditions.
abbrev pub settings_in : Record → Option (List TextPair × List TextPair)
settings_in [] = None
settings_in (word ∷ fields) =
    if bytes_eq word (codes "set") then option_and_then some_set (parts_in fields) else None
