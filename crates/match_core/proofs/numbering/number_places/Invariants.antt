-- The indices before `i` have their numbers, the others their ranks.
use Rattle.std.proofs.Common.{◌≡◌, ◌≤◌, ℕ, length, map, slice_index_or, take}
use Rattle.match_core.specs.declared.row_items.ClassedPlace.{ClassedPlace}
use Rattle.match_core.specs.ClassedPlaces.{numbered_by}
use Rattle.match_core.proofs.numbering.number_places.Given as goal

abbrev pub invariant-loop-i : goal.invariant-loop-i
invariant-loop-i l = record {
  long : length l.places ≡ length l.initial.places;
  done : take l.i l.places ≡ map (numbered_by l.numbers) (take l.i l.initial.places);
  left : (k : ℕ) (d : ClassedPlace) → l.i ≤ k → slice_index_or l.places k d ≡ slice_index_or l.initial.places k d;
}
