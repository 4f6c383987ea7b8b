-- Versions as they are stored: rows and system periods.
use Rattle.std.specs.Prelude.{ℕ, List, [], ◌∷◌, Option}
use Rattle.row_core.specs.declared.row.Row.{Row}
use Rattle.version_core.specs.declared.version.Version.{Version}

-- the system period of a version: the commits from one on, and before another if it has an end
pub record SystemPeriod : Type 0 where
  pub from : ℕ
  pub to : Option ℕ

-- the version with a row and a system period
abbrev pub version_of : Row → SystemPeriod → Version
version_of row system_period = record { row = row; sysfrom = system_period.from; systo = system_period.to }

-- the versions with these rows and system periods
abbrev pub versions_of : List Row → List SystemPeriod → List Version
versions_of [] system_periods = []
versions_of (row ∷ rows) [] = []
versions_of (row ∷ rows) (system_period ∷ system_periods) =
    version_of row system_period ∷ versions_of rows system_periods
