-- Open versions, and how a change affects them.
use Rattle.std.specs.Prelude.{ℕ, ◌+◌, List, [], ◌∷◌, ◌++◌, length, map, Bool, ◌&&◌, if◌then◌else◌, Some, is_none, filter, option_map, slice_get, slice_set, unwrap_or}
use Rattle.row_core.specs.declared.row.Row.{Row}
use Rattle.table_core.specs.Numbered.{numbered}
use Rattle.version_core.specs.Rows.{drafts_of, removes}
use Rattle.version_core.specs.Made.{made}
use Rattle.version_core.specs.declared.change.RowsChange.{RowsChange}
use Rattle.version_core.specs.declared.version.Version.{Version}

-- no commit has closed the version
abbrev pub is_open : Version → Bool
is_open v = is_none v.systo

-- the rows of the open versions
abbrev pub current : List Version → List Row
current versions = map (λ v. v.row) (filter is_open versions)

-- the positions of the versions that pass the test, if the first is at position `at`
abbrev pub places_from : (Version → Bool) → ℕ → List Version → List ℕ
places_from test at [] = []
places_from test at (v ∷ vs) = if test v then at ∷ places_from test (at + 1) vs else places_from test (at + 1) vs

-- the version is open, and the change removes its row
abbrev pub is_taken : RowsChange → Version → Bool
is_taken c v = is_open v && removes c v.row

-- a version after commit n, which closes it if it is open and its row is removed
abbrev pub closed : ℕ → (Row → Bool) → Version → Version
closed n goes v = if is_none v.systo && goes v.row then record v { systo = Some n } else v

-- the versions, with the one at a position closed by the commit
abbrev pub closed_at : ℕ → List Version → ℕ → List Version
closed_at commit versions place =
    unwrap_or
    (option_map (λ v. slice_set versions place (record v { systo = Some commit })) (slice_get versions place)) versions

-- the versions after a change of their table's rows, made by that commit
abbrev pub versions_after : ℕ → RowsChange → List Version → List Version
versions_after commit c versions = map (closed commit (removes c)) versions
    ++ made commit (numbered (length versions) (drafts_of c (current versions)))
