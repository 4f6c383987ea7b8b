use Rattle.std.proofs.Common.{◌≡◌, ◌&&◌, List, drop, length, take}
use Rattle.std.specs.Prelude.{flat_map}
use Rattle.std.specs.List.{list_all}
use Rattle.row_core.specs.Limits.{column_limit}
use Rattle.row_core.specs.Refusals.{first_of}
use Rattle.row_core.specs.declared.value.Value.{Value}
use Rattle.version_core.specs.Wanted.{are_wanted}
use Rattle.book_core.specs.Rows.{is_equal_at}
use Rattle.book_core.specs.State.{pair_tests}
use Rattle.book_core.proofs.bind.bind_conds.Given as goal

-- the first pairs are bound, and the remaining ones decide
abbrev pub invariant-loop-pair : goal.invariant-loop-pair
invariant-loop-pair l = record {
  decides : first_of (flat_map (pair_tests l.schema) (drop l.pair-index l.conds))
      ≡ first_of (flat_map (pair_tests l.schema) l.conds);
  width : length l.wanted ≡ column_limit;
  met : (values : List Value)
      → (l.agree && are_wanted l.wanted values) ≡ list_all (is_equal_at l.schema values) (take l.pair-index l.conds);
}
