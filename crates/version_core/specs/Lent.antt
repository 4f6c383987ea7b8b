-- Borrowed versions.
use Rattle.table_core.specs.Lent.{lent_row}
use Rattle.version_core.specs.Stored.{version_of}
use Rattle.version_core.specs.declared.version_ref.VersionRef.{VersionRef}
use Rattle.version_core.specs.declared.version.Version.{Version}

-- the version that is borrowed
abbrev pub lent_version : VersionRef → Version
lent_version lent = version_of (lent_row lent.row) lent.system_period
