-- The columns already tested have names.
use Rattle.std.proofs.Common.{◌≡◌, ◌*◌, drop}
use Rattle.command_core.specs.Lines.{fields_in}
use Rattle.command_core.specs.Pairs.{all_columns, pairs_of}
use Rattle.command_core.proofs.pairs.all_columns.Given as goal

abbrev pub invariant-loop-pair : goal.invariant-loop-pair
invariant-loop-pair l =
    all_columns (pairs_of (drop (2 * l.pair) (fields_in l.line))) ≡ all_columns (pairs_of (fields_in l.line))
