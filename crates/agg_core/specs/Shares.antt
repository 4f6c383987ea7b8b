-- The rows of an aggregate, in shares.
use Rattle.std.specs.Prelude.{◌≡◌, ℕ, List, length, map, flat_map}
use Rattle.std.specs.Option.{option_copied}
use Rattle.agg_core.specs.Grouping.{agg_row_of}
use Rattle.agg_core.specs.declared.rows.AggRow.{AggRow}
use Rattle.agg_core.specs.declared.rows.AggRowRef.{AggRowRef}
use Rattle.agg_core.specs.declared.rows.AggShare.{AggShare}

-- The rows of a share: one for each constant interval, in order.
abbrev pub rows_in : AggShare → List AggRow
rows_in share = map (agg_row_of share.groups.items) share.plateaus

-- The rows of all shares, in order.
abbrev pub rows_in_shares : List AggShare → List AggRow
rows_in_shares shares = flat_map rows_in shares

-- A borrowed row as a row, with a copy of its group.
abbrev pub lent_row : AggRowRef → AggRow
lent_row row = record { group = option_copied row.group; period = row.period; value = row.value }

-- The number of rows in all shares.
abbrev pub AreShares : List AggShare → ℕ → Type 0
AreShares shares count = count ≡ length (rows_in_shares shares)
