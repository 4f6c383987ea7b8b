-- the left keys before the index come before the other key
use Rattle.std.proofs.Common.{◌≡◌, ◌≤◌, All, length, take, true}
use Rattle.match_core.specs.Cells.{is_before}
use Rattle.match_core.proofs.numbering.first_from.Given as goal

abbrev pub invariant-loop-at : goal.invariant-loop-at
invariant-loop-at g l = record {
  within : l.at ≤ length l.lefts;
  before : All (λ x. is_before g.V.Ord.cmp x l.cell ≡ true) (take l.at l.lefts);
}
