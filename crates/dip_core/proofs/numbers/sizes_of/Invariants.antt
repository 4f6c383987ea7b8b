-- The numbers up to the index are counted.
use Rattle.std.proofs.Common.{◌≡◌, ◌==◌, ◌<◌, ℕ, length, take}
use Rattle.std.specs.Prelude.{count_by}
use Rattle.std.specs.List.{HoldsAt}
use Rattle.dip_core.proofs.numbers.sizes_of.Given as goal

abbrev pub invariant-loop-number : goal.invariant-loop-number
invariant-loop-number l = record {
  len : length l.sizes.items ≡ l.count;
  counts : (k : ℕ) → k < l.count
      → HoldsAt (λ size. size ≡ count_by (λ n. n == k) (take l.number-index l.numbers)) l.sizes.items k;
}
