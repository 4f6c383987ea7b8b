-- The remaining pairs decide.
use Rattle.std.proofs.Common.{◌≡◌, drop}
use Rattle.std.specs.Prelude.{flat_map}
use Rattle.row_core.specs.Refusals.{first_of}
use Rattle.match_core.specs.Columns.{tests_of_names}
use Rattle.match_core.proofs.columns.refusal_of_pairs.Given as goal

abbrev pub invariant-loop-pair : goal.invariant-loop-pair
invariant-loop-pair l =
    first_of (flat_map (tests_of_names l.left l.right) (drop l.pair-index l.on)) ≡ first_of
    (flat_map (tests_of_names l.left l.right) l.on)
