use Rattle.std.proofs.Common.{◌≡◌, List, drop, length, take}
use Rattle.std.specs.Prelude.{flat_map, fold}
use Rattle.row_core.specs.Limits.{column_limit}
use Rattle.row_core.specs.Refusals.{first_of}
use Rattle.row_core.specs.declared.value.Value.{Value}
use Rattle.version_core.specs.Wanted.{with_set}
use Rattle.book_core.specs.Rows.{set_at}
use Rattle.book_core.specs.State.{pair_tests}
use Rattle.book_core.proofs.bind.bind_settings.Given as goal

-- the first pairs are bound, and the remaining ones decide
abbrev pub invariant-loop-pair : goal.invariant-loop-pair
invariant-loop-pair l = record {
  decides : first_of (flat_map (pair_tests l.schema) (drop l.pair-index l.sets))
      ≡ first_of (flat_map (pair_tests l.schema) l.sets);
  width : length l.bound ≡ column_limit;
  set : (values : List Value) → with_set l.bound values ≡ fold (set_at l.schema) values (take l.pair-index l.sets);
}
