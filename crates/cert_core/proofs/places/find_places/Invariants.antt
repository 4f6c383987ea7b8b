use Rattle.std.proofs.Common.{take}
use Rattle.cert_core.specs.Places.{ArePlaces}
use Rattle.cert_core.proofs.places.find_places.Given as goal

-- the indices of the ids before `id-index`
abbrev pub invariant-loop-id : goal.invariant-loop-id
invariant-loop-id l = ArePlaces l.items (take l.id-index l.ids) l.places.items
