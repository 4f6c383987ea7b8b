-- The indices of the rows before `i` are stored.
use Rattle.answer_core.proofs.FoundRows.{ArePlacesOf}
use Rattle.answer_core.proofs.rows_by_id.put_places.Given as goal

abbrev pub invariant-loop-i : goal.invariant-loop-i
invariant-loop-i l = ArePlacesOf l.i l.first l.rows l.places
