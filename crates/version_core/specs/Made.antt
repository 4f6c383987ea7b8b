-- New versions.
use Rattle.std.specs.Prelude.{ℕ, List, map, None}
use Rattle.row_core.specs.declared.row.Row.{Row}
use Rattle.row_core.specs.declared.draft.Draft.{Draft}
use Rattle.table_core.specs.Numbered.{unnumbered}
use Rattle.version_core.specs.declared.version.Version.{Version}

-- new versions, created by commit n
abbrev pub made : ℕ → List Row → List Version
made n rows = map (λ row. record { row = row; sysfrom = n; systo = None }) rows

-- a version's row without its id
abbrev pub draft_of : Version → Draft
draft_of v = unnumbered v.row
