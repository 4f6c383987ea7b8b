-- Which versions are visible as of a commit, and as of the first commits.
use Rattle.std.specs.Prelude.{ℕ, ℤ, List, Bool, true, ◌&&◌, if◌then◌else◌, Option, Some, None, nat_le, nat_lt}
use Rattle.std.specs.List.{filter_map}
use Rattle.std.specs.Option.{option_map_or}
use Rattle.period_core.specs.Period.{holds_at}
use Rattle.row_core.specs.declared.row.Row.{Row}
use Rattle.version_core.specs.declared.version.Version.{Version}

-- the end of a system period is after n
abbrev pub is_behind : Option ℕ → ℕ → Bool
is_behind None n = true
is_behind (Some to) n = nat_lt n to

-- the version is visible as of commit n
abbrev pub shows : ℕ → Version → Bool
shows n v = nat_le v.sysfrom n && is_behind v.systo n

-- the version's row, if it is visible as of commit n
abbrev pub row_shown : ℕ → Version → Option Row
row_shown n v = if shows n v then Some v.row else None

-- the rows visible as of commit n
abbrev pub shown : ℕ → List Version → List Row
shown n versions = filter_map (row_shown n) versions

-- the row holds at the point, if one is given
abbrev pub holds_where : Option ℤ → Row → Bool
holds_where point row = option_map_or (λ at. holds_at at row.period) point true

-- the end of a system period as of commit `at`: an end after it is dropped
abbrev pub end_at : ℕ → Option ℕ → Option ℕ
end_at at None = None
end_at at (Some to) = if nat_le to at then Some to else None

-- the version as of commit `at`, if it starts at `last` or before and ends after m
abbrev pub version_as_of : ℕ → ℕ → ℕ → Version → Option Version
version_as_of at m last v = let end = end_at at v.systo in
    if nat_le v.sysfrom at && (nat_le v.sysfrom last && is_behind end m) then Some
    (record { row = v.row; sysfrom = v.sysfrom; systo = end }) else None

-- all such versions
abbrev pub versions_as_of : ℕ → ℕ → ℕ → List Version → List Version
versions_as_of at m last versions = filter_map (version_as_of at m last) versions
