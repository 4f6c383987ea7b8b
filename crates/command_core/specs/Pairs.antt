-- Fields two by two: a column's name and the text of a value, or the names of two columns.
use Rattle.std.specs.Prelude.{ℕ, List, [], ◌∷◌, ◌&&◌, Bool, true, false, Option, Some, None, Result, Ok, Err, bytes_eq, if◌then◌else◌}
use Rattle.std.specs.List.{list_all}
use Rattle.row_core.specs.Name.{NamePair, is_name}
use Rattle.command_core.specs.Records.{Record}
use Rattle.command_core.specs.declared.refusal.Refusal.{Refusal}
use Rattle.command_core.specs.declared.refusal.Refusal.TheVariants.{BadName}

-- A column's name and the text of a value.
abbrev pub TextPair : Type 0
TextPair = List ℕ × List ℕ

-- The fields two by two. An odd field at the end is in no pair.
abbrev pub pairs_of : Record → List TextPair
pairs_of [] = []
pairs_of (column ∷ []) = []
pairs_of (column ∷ text ∷ fields) = (column, text) ∷ pairs_of fields

-- There are fields, and an even number of them.
abbrev pub are_pairs : Record → Bool
are_pairs [] = false
are_pairs (column ∷ []) = false
are_pairs (column ∷ text ∷ []) = true
are_pairs (column ∷ text ∷ third ∷ fields) = are_pairs (third ∷ fields)

-- The fields after `word` if they are pairs. Without any field, no fields.
abbrev pub paired_behind : List ℕ → Record → Option Record
paired_behind word [] = Some []
paired_behind word (first ∷ fields) = if bytes_eq first word && are_pairs fields then Some fields else None

-- The first text of each pair is a name.
abbrev pub all_columns : List TextPair → Bool
all_columns pairs = list_all (λ pair. is_name pair.0) pairs

-- The pairs, or `BadName` if the first text of a pair isn't a name.
abbrev pub named_pairs : List TextPair → Result (List TextPair) Refusal
named_pairs pairs = if all_columns pairs then Ok pairs else Err BadName

-- The pairs of names, or `BadName` if a field isn't a name.
abbrev pub name_pairs : Record → Result (List NamePair) Refusal
name_pairs fields = if list_all is_name fields then Ok (pairs_of fields) else Err BadName

-- Two tables whose rows are compared, and the pairs of columns that must be equal.
pub record Compared : Type 0 where
  pub left : List ℕ
  pub right : List ℕ
  pub on : List NamePair

-- The two tables, and the pairs that were read.
abbrev pub compared_by : (List ℕ × List ℕ) × List NamePair → Compared
compared_by read = record { left = read.0.0; right = read.0.1; on = read.1 }
