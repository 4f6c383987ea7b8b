-- The test of a key on the rows that a change keeps and adds.
use Rattle.std.specs.Prelude.{ℕ, List, [], ◌∷◌, ◌++◌, map, filter, Bool, false, ◌&&◌, not, Option, None, get_or, is_some}
use Rattle.row_core.specs.declared.draft.Draft.{Draft}
use Rattle.row_core.specs.declared.row.Row.{Row}
use Rattle.row_core.specs.declared.value.Value.{Value}
use Rattle.version_core.specs.Collisions.{have_collision, collide}
use Rattle.version_core.specs.Rows.{removes, drafts_of}
use Rattle.table_core.specs.Numbered.{unnumbered}
use Rattle.version_core.specs.OpenVersions.{current, is_open}
use Rattle.version_core.specs.Made.{draft_of}
use Rattle.version_core.specs.declared.change.RowsChange.{RowsChange}
use Rattle.version_core.specs.declared.version.Version.{Version}

-- two of the rows, at different indexes, are equal in each column of the key and overlap; a key without columns is no
-- key
abbrev pub break_key : List ℕ → List Draft → Bool
break_key [] rows = false
break_key (column ∷ columns) rows = have_collision (column ∷ columns) rows

-- the rows that the change keeps
abbrev pub rows_left : RowsChange → List Row → List Draft
rows_left c rows = map unnumbered (filter (λ row. not (removes c row)) rows)

-- two of the rows that the change keeps and adds are equal in each column of the key and overlap
abbrev pub overlap_after : RowsChange → List ℕ → List Version → Bool
overlap_after c key versions =
    break_key key (rows_left c (current versions) ++ drafts_of c (current versions))

-- the version is open, and the change keeps its row
abbrev pub is_left : RowsChange → Version → Bool
is_left c v = is_open v && not (removes c v.row)

-- a value is set in the column
abbrev pub is_set : List (Option Value) → ℕ → Bool
is_set sets column = is_some (get_or sets column None)

-- the version is open, the change keeps its row, and the row collides with the other
abbrev pub collides_left : RowsChange → List ℕ → Draft → Version → Bool
collides_left c key other v = is_left c v && collide key (draft_of v) other
