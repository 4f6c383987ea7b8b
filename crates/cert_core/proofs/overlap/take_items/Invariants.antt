use Rattle.std.proofs.Common.{◌≡◌, take}
use Rattle.std.specs.Prelude.{All, Contains, map}
use Rattle.cert_core.specs.Places.{id_at}
use Rattle.cert_core.proofs.overlap.take_items.Given as goal

-- the items at the indices before `place-index`
abbrev pub invariant-loop-place : goal.invariant-loop-place
invariant-loop-place l = record {
  members : All (Contains l.items) l.taken.items;
  named : map (λ x. x.id) l.taken.items ≡ map (id_at l.items) (take l.place-index l.places);
}
