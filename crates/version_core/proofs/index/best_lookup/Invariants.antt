use Rattle.std.proofs.Common.{◌≡◌, ◌<◌, ℕ, true}
use Rattle.std.specs.Prelude.{IfSome, IsSome}
use Rattle.version_core.specs.Wanted.{are_wanted}
use Rattle.row_core.specs.declared.row.Row.{Row}
use Rattle.version_core.specs.Finding.{AreNoMore, bucket_at, falls_into, led_to, lookup_at}
use Rattle.version_core.specs.Limits.{bucket_count}
use Rattle.version_core.proofs.index.best_lookup.Given as goal

-- the best lookup among the first columns: it is one for all wanted values, and the shortest
abbrev pub invariant-loop-column : goal.invariant-loop-column
invariant-loop-column l = record {
  few : IfSome l.best (λ lookup. lookup.bucket < bucket_count);
  lookup : IfSome l.best
      (λ lookup. (row : Row) → are_wanted l.wanted row.values ≡ true
      → falls_into lookup.column lookup.bucket row ≡ true);
  indexed : IfSome l.best (λ lookup. IsSome (bucket_at l.indexes lookup));
  shortest : (k : ℕ) → k < l.column
      → AreNoMore (led_to l.indexes l.best) (led_to l.indexes (lookup_at l.wanted k));
}
