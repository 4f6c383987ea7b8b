use Rattle.std.proofs.Common.{◌≡◌, ℕ, ◌<◌, length}
use Rattle.ruzgalt_c.specs.Dip.{AreNumbersOf}
use Rattle.ruzgalt_c.proofs.dip.number_rows.Given as goal

-- The items of the parts before `k` have their parts' numbers.
abbrev pub invariant-loop-k : goal.invariant-loop-k
invariant-loop-k l = record {
  len : length l.numbers ≡ length l.fn.numbers;
  are : (j : ℕ) → j < l.k → AreNumbersOf l.division l.numbers j;
}
