-- The open versions by key and start.
use Rattle.std.specs.Prelude.{◌≡◌, ◌⊎◌, ℕ, ◌+◌, ◌*◌, ◌%◌, ◌^◌, List, true, Some, Contains, fold, option_map, slice_get, unwrap_or}
use Rattle.std.specs.Int.{cast_unsigned, w64}
use Rattle.std.specs.declared.cmp.Ordering.{Ordering}
use Rattle.std.specs.declared.cmp.Ordering.TheVariants.{Less}
use Rattle.std.specs.Ordering.{nat_cmp, int_cmp, ordering_then}
use Rattle.std.specs.BTreeSet.{contains}
use Rattle.row_core.specs.declared.draft.Draft.{Draft}
use Rattle.row_core.specs.declared.value.Value.{Value}
use Rattle.row_core.specs.declared.value.Value.TheVariants.{Int, Text}
use Rattle.version_core.specs.Collisions.{collide}
use Rattle.version_core.specs.Made.{draft_of}
use Rattle.version_core.specs.OpenVersions.{is_open}
use Rattle.version_core.specs.declared.key_index.Entry.{Entry}
use Rattle.version_core.specs.declared.key_index.KeyIndex.{KeyIndex}
use Rattle.version_core.specs.declared.version.Version.{Version}

-- two hashes combined into one of 64 bits
abbrev pub mixed : ℕ → ℕ → ℕ
mixed number next = (number * 1099511628211 + next) % 2 ^ 64

-- the hash of a text's bytes
unfoldable pub number_of_bytes : List ℕ → ℕ
number_of_bytes bytes = fold mixed 0 bytes

-- the hash of a value
unfoldable pub number_of : Value → ℕ
number_of (Int number) = cast_unsigned w64 number
number_of (Text bytes) = number_of_bytes bytes

-- the hash of the value in a column, or 0 without a value
abbrev pub number_in : List Value → ℕ → ℕ
number_in values column = unwrap_or (option_map number_of (slice_get values column)) 0

-- the hash of the values in the key's columns; equal keys have the same hash
unfoldable pub key_number : List ℕ → List Value → ℕ
key_number key values = fold (λ number column. mixed number (number_in values column)) 0 key

-- the entry of the version at a position
abbrev pub entry_of : List ℕ → ℕ → Version → Entry
entry_of key place v = record { number = key_number key v.row.values; from = v.row.period.from; place = place }

-- the order of entries: by hash, then by start, then by position
abbrev pub entry_cmp : Entry → Entry → Ordering
entry_cmp a b = ordering_then (nat_cmp a.number b.number)
    (ordering_then (int_cmp a.from b.from) (nat_cmp a.place b.place))

-- the index has an entry for each open version
abbrev pub IsKeyIndex : List Version → KeyIndex → Type 0
IsKeyIndex vs index =
    (place : ℕ) (v : Version) → slice_get vs place ≡ Some v → is_open v ≡ true
    → contains entry_cmp index.entries (entry_of index.columns.items place v) ≡ true

-- the entry of a version that is open, or whose index is in the list
pub record IsEntryOf (vs : List Version) (gone key : List ℕ) (entry : Entry) : Type 0 where
  pub version : Version
  pub at : slice_get vs entry.place ≡ Some version
  pub is : entry ≡ entry_of key entry.place version
  pub left : (is_open version ≡ true) ⊎ Contains gone entry.place

-- each entry is that of an open version, or of a version whose index is in the list
abbrev pub HasOnlyOpen : List Version → List ℕ → KeyIndex → Type 0
HasOnlyOpen vs gone index =
    (entry : Entry) → contains entry_cmp index.entries entry ≡ true → IsEntryOf vs gone index.columns.items entry

-- no open version whose entry comes before `entry` collides with the row
abbrev pub IsLastNear : List ℕ → Draft → List Version → Entry → Type 0
IsLastNear key other vs entry =
    (place : ℕ) (v : Version) → slice_get vs place ≡ Some v → is_open v ≡ true → collide key (draft_of v) other ≡ true
    → entry_cmp (entry_of key place v) entry ≡ Less → ⊥
