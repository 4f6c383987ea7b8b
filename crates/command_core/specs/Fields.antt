-- Values that are read from a record's fields, or the first refusal.
use Rattle.std.specs.Prelude.{ℕ, ℤ, pos, negsuc, List, [], ◌∷◌, Option, Some, None, Result, Ok, Err, bytes_eq, codes, if◌then◌else◌}
use Rattle.std.specs.Option.{ok_or, option_and_then}
use Rattle.period_core.specs.Point.{point_of}
use Rattle.period_core.specs.declared.period.Period.{Period}
use Rattle.row_core.specs.Name.{name_of}
use Rattle.row_core.specs.Number.{number_of}
use Rattle.row_core.specs.Reading.{period_by}
use Rattle.row_core.specs.Refusals.{and_then, map_ok}
use Rattle.command_core.specs.Pairs.{Compared, compared_by, name_pairs, paired_behind}
use Rattle.command_core.specs.Records.{Record}
use Rattle.command_core.specs.declared.refusal.Refusal.{Refusal}
use Rattle.command_core.specs.declared.refusal.Refusal.TheVariants.{BadCommand, BadName, BadNumber, BadPeriod, BadPoint}

-- The name that a text spells, or `BadName`.
abbrev pub name_in : List ℕ → Result (List ℕ) Refusal
name_in text = ok_or (name_of text) BadName

-- The point that a text spells, or `BadPoint`.
abbrev pub point_in : List ℕ → Result ℤ Refusal
point_in text = ok_or (point_of text) BadPoint

-- A number that isn't negative.
abbrev pub natural : ℤ → Option ℕ
natural (pos n) = Some n
natural (negsuc n) = None

-- The number that a text spells in the form of a column's number, if it isn't negative.
abbrev pub natural_of : List ℕ → Option ℕ
natural_of text = option_and_then natural (number_of text)

-- The same number, or `BadNumber`.
abbrev pub natural_in : List ℕ → Result ℕ Refusal
natural_in text = ok_or (natural_of text) BadNumber

-- An instant: a point, or none for `-`.
abbrev pub instant_in : List ℕ → Result (Option ℤ) Refusal
instant_in text = if bytes_eq text (codes "-") then Ok None else map_ok Some (point_in text)

-- Both values, or the first refusal.
abbrev pub both_ok : {S T E : Type 0} → Result S E → Result T E → Result (S × T) E
both_ok (Err e) second = Err e
both_ok (Ok x) (Err e) = Err e
both_ok (Ok x) (Ok y) = Ok (x, y)

-- The period from the first point to before the second.
abbrev pub period_in : List ℕ → List ℕ → Result Period Refusal
period_in from to = period_by BadPoint BadPeriod from to

-- The name in a record that has just a name after its word.
abbrev pub named : Record → Result (List ℕ) Refusal
named (word ∷ name ∷ []) = name_in name
named line = Err BadCommand

-- The name and the point in a record that has just these after its word.
abbrev pub dated : Record → Result (List ℕ × ℤ) Refusal
dated (word ∷ name ∷ point ∷ []) = both_ok (name_in name) (point_in point)
dated line = Err BadCommand

-- The name and the two numbers in a record that has just these after its word.
abbrev pub spanned : Record → Result (List ℕ × (ℕ × ℕ)) Refusal
spanned (word ∷ name ∷ first ∷ last ∷ []) = both_ok (name_in name) (both_ok (natural_in first) (natural_in last))
spanned line = Err BadCommand

-- The name, the number and the instant in a record that has just these after its word.
abbrev pub claimed : Record → Result (List ℕ × (ℕ × Option ℤ)) Refusal
claimed (word ∷ name ∷ parts ∷ instant ∷ []) = both_ok (name_in name) (both_ok (natural_in parts) (instant_in instant))
claimed line = Err BadCommand

-- Two tables and the pairs of their columns that follow the word `on`, if it is there.
abbrev pub compared : Record → Result Compared Refusal
compared (word ∷ left ∷ right ∷ fields) =
    and_then (ok_or (paired_behind (codes "on") fields) BadCommand)
    (λ names. map_ok compared_by (both_ok (both_ok (name_in left) (name_in right)) (name_pairs names)))
compared line = Err BadCommand

-- The split record with one more field in its beginning.
abbrev pub field_before : List ℕ → Record × Option (List ℕ) → Record × Option (List ℕ)
field_before field parts = (field ∷ parts.0, parts.1)

-- A record without the suffix `asof,N`, and the text of `N`, or `None` if the suffix is missing.
abbrev pub split_asof : Record → Record × Option (List ℕ)
split_asof [] = ([], None)
split_asof (only ∷ []) = (only ∷ [], None)
split_asof (word ∷ text ∷ []) =
    if bytes_eq word (codes "asof") then ([], Some text) else (word ∷ text ∷ [], None)
split_asof (field ∷ word ∷ text ∷ fields) = field_before field (split_asof (word ∷ text ∷ fields))

-- The commit that a suffix names, or `None` without a suffix.
abbrev pub commit_named : Option (List ℕ) → Result (Option ℕ) Refusal
commit_named None = Ok None
commit_named (Some text) = map_ok Some (natural_in text)

-- What a record says without its suffix, and the commit that the suffix names. `None` means the newest commit.
abbrev pub with_asof : {T : Type 0} → (Record → Result T Refusal) → Record → Result (T × Option ℕ) Refusal
with_asof read line = both_ok (read (split_asof line).0) (commit_named (split_asof line).1)
