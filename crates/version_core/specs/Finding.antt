-- Lists of positions, used by a change to find the versions that it closes.
use Rattle.std.specs.Prelude.{◌≡◌, ℕ, ◌+◌, ◌<◌, List, [], length, filter, find, Bool, ◌&&◌, if◌then◌else◌, option_and_then, option_map, slice_get, unwrap_or, Option, ◌*◌, ◌%◌, ◌≤◌, get_or, fold, All, true, false, Some, None, ◌==◌, unsigned_abs, IfSome}
use Rattle.version_core.specs.declared.portion_change.PortionChange.{PortionChange}
use Rattle.row_core.specs.declared.row.Row.{Row}
use Rattle.row_core.specs.declared.value.Value.{Value}
use Rattle.row_core.specs.declared.value.Value.TheVariants.{Int, Text}
use Rattle.version_core.specs.Limits.{bucket_count}
use Rattle.version_core.specs.KeyIndex.{HasOnlyOpen, IsKeyIndex}
use Rattle.version_core.specs.Rows.{removes}
use Rattle.version_core.specs.OpenVersions.{is_open, places_from, is_taken}
use Rattle.version_core.specs.declared.change.RowsChange.{RowsChange}
use Rattle.version_core.specs.declared.change.RowsChange.TheVariants.{Load, Portion}
use Rattle.version_core.specs.declared.version.Version.{Version}
use Rattle.version_core.specs.declared.index.Index.{Index}
use Rattle.version_core.specs.declared.index.Lookup.{Lookup}
use Rattle.version_core.specs.declared.key_index.KeyIndex.{KeyIndex}

-- the version at the position passes the test
abbrev pub passes : List Version → (Version → Bool) → ℕ → Bool
passes vs test place = unwrap_or (option_map test (slice_get vs place)) false

-- the open versions at the positions are the open versions whose rows pass the test, in order; positions of closed
-- versions may be between them
pub record ListsOpen (vs : List Version) (test : Row → Bool) (places : List ℕ) : Type 0 where
  pub inside : All (λ place. place < length vs) places
  pub few : length places ≤ length vs
  pub exact : filter (passes vs is_open) places ≡ places_from (λ v. is_open v && test v.row) 0 vs

-- any row
abbrev pub any_row : Row → Bool
any_row row = true

-- the bucket of a text's bytes
unfoldable pub bucket_of_bytes : List ℕ → ℕ
bucket_of_bytes bytes = fold (λ bucket byte. (bucket * 31 + byte) % bucket_count) 0 bytes

-- the bucket of a value
unfoldable pub bucket_of : Value → ℕ
bucket_of (Int number) = unsigned_abs number % bucket_count
bucket_of (Text bytes) = bucket_of_bytes bytes

-- the row's value in the column hashes to the bucket
abbrev pub falls_into : ℕ → ℕ → Row → Bool
falls_into column bucket row =
    unwrap_or (option_map (λ value. bucket_of value == bucket) (slice_get row.values column)) false

-- the bucket of a version's value in the column, if it is open and has one
abbrev pub bucket_in : ℕ → Version → Option ℕ
bucket_in column v = if is_open v then option_map bucket_of (slice_get v.row.values column) else None

-- each bucket lists the open versions whose value in the column hashes to it
pub record IsIndex (vs : List Version) (index : Index) : Type 0 where
  pub whole : length index.buckets.items ≡ bucket_count
  pub each : (bucket : ℕ) → bucket < bucket_count
      → ListsOpen vs (falls_into index.column bucket) (get_or index.buckets.items bucket [])

-- the data that finds open versions: all of them, and by the values of some columns
pub record AreFound (vs : List Version) (places : List ℕ) (indexes : List Index) : Type 0 where
  pub all : ListsOpen vs any_row places
  pub by_value : All (IsIndex vs) indexes

-- the positions in a lookup's bucket, if its column has an index
abbrev pub bucket_at : List Index → Lookup → Option (List ℕ)
bucket_at indexes lookup = option_map (λ (index : Index). get_or index.buckets.items lookup.bucket [])
    (find (λ (index : Index). index.column == lookup.column) indexes)

-- the positions that a lookup finds, if there is one and its column has an index
abbrev pub led_to : List Index → Option Lookup → Option (List ℕ)
led_to indexes lookup = option_and_then (bucket_at indexes) lookup

-- the lookup of a value in a column: its bucket
abbrev pub lookup_in : Value → ℕ → Lookup
lookup_in value column = record { column = column; bucket = bucket_of value }

-- the lookup of the value wanted in a column, if one is
abbrev pub lookup_at : List (Option Value) → ℕ → Option Lookup
lookup_at wanted column = option_map (λ value. lookup_in value column) (get_or wanted column None)

-- if the other lookup finds positions, so does this one, and no more of them
abbrev pub AreNoMore : Option (List ℕ) → Option (List ℕ) → Type 0
AreNoMore places None = Unit {0}
AreNoMore None (Some others) = ⊥
AreNoMore (Some places) (Some others) = length places ≤ length others

-- the data stored with the versions: what finds the open ones
pub record AreBeside
    (vs : List Version) (places : List ℕ) (indexes : List Index) (key_index : Option KeyIndex) : Type 0 where
  pub found : AreFound vs places indexes
  pub by_key : IfSome key_index (IsKeyIndex vs)
  pub only : IfSome key_index (HasOnlyOpen vs [])

-- the change of a portion, unless it is a load
abbrev pub portion_of : RowsChange → Option PortionChange
portion_of (Load rows) = None
portion_of (Portion change) = Some change

-- all rows that the change removes hash to the bucket
abbrev pub IsLookupOf : RowsChange → Lookup → Type 0
IsLookupOf c lookup =
    (row : Row) → removes c row ≡ true → falls_into lookup.column lookup.bucket row ≡ true

-- the positions include those of all versions that the change closes, in order
pub record AreCandidates (c : RowsChange) (vs : List Version) (places : List ℕ) : Type 0 where
  pub inside : All (λ place. place < length vs) places
  pub few : length places ≤ length vs
  pub taken : filter (passes vs (is_taken c)) places ≡ places_from (is_taken c) 0 vs
