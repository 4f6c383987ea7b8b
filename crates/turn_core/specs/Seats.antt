-- What contracts read of a turn and of a seat.
use Rattle.std.specs.Prelude.{◌≡◌}
use Rattle.atomic_table.specs.Seated.{TableId}
use Rattle.turn_core.specs.declared.kept.Kept.{Ghosts}
use Rattle.turn_core.specs.declared.seat.Seat.{Seat}
use Rattle.turn_core.specs.declared.turn.Turn.{Turn}
use Rattle.turn_core.specs.declared.view.View.{View}

-- the table of the turn
abbrev pub table_in : {S E : Type 0} → Turn S E → TableId
table_in turn = turn.table.shared.table_id

module _ {S E : Type 0} {kept : Ghosts S E} where
  -- what the seat knows
  abbrev pub view_of : Seat S E kept → View E
  view_of seat = seat.seat.me.0

  -- the seat is one of this turn, or was split off from one
  abbrev pub IsSeatOf : Turn S E → Seat S E kept → Type 0
  IsSeatOf turn seat = seat.seat.table_id ≡ table_in turn
