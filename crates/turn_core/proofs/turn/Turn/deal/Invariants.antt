use Rattle.std.proofs.Common.{◌≡◌, ℕ, ◌+◌, ◌-◌, ◌≤◌, [], slice_get, Some, vec_len, vec_capacity}
use Rattle.turn_core.specs.Steps.{view_from, fresh}
use Rattle.turn_core.proofs.turn.Turn.deal.Given as goal

abbrev pub decreases-loop-number : goal.decreases-loop-number
decreases-loop-number g l = l.seats - l.number

abbrev pub invariant-loop-number : goal.invariant-loop-number
invariant-loop-number g l =
    (1 ≤ l.number) × (l.number ≤ l.seats) × (vec_len l.list + 1 ≡ l.number)
    × (vec_capacity l.list ≡ vec_capacity l.initial.list)
    × (l.last.table_id ≡ l.self.table.shared.table_id)
    × (l.last.me ≡ (view_from l.number l.seats, []))
    × ((i : ℕ) (s : _) → slice_get l.list.items i ≡ Some s → (s.seat.table_id ≡ l.self.table.shared.table_id)
    × (s.seat.me.0 ≡ fresh (i + 1) l.seats))
