use Rattle.std.proofs.Common.{◌≡◌, [], ℕ, List, length}
use Rattle.std.specs.Prelude.{All}
use Rattle.version_core.proofs.index.empty_buckets.Given as goal

-- one empty bucket for each turn
abbrev pub invariant-loop : goal.invariant-loop
invariant-loop l = record {
  many : length l.buckets.items ≡ l.counter;
  empty : All (λ (places : List ℕ). places ≡ []) l.buckets.items;
}
