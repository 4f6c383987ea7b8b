-- Ranges of numbers.
use Rattle.std.proofs.Common.{arith, ◌≡◌, ℕ, ◌<◌, nat_le, refl, not}
use Rattle.std.specs.declared.cmp.Ordering.{Ordering}
use Rattle.std.specs.declared.cmp.Ordering.TheVariants.{Less, Equal, Greater}
use Rattle.std.specs.Ordering.{MatchOrdering, is_lt, nat_cmp}
use Rattle.std.proofs.lemmas.Bool.Decides.{nat_tests}
use Rattle.std.proofs.lemmas.Cmp.{ranked}
use Rattle.work_core.specs.Ranges.{is_from}

-- a comparison of numbers says whether the first is at most the second
not_less : (first x : ℕ) (o : Ordering) → MatchOrdering o (x < first) (x ≡ first) (first < x)
    → not (is_lt o) ≡ nat_le first x
not_less first x Less below = grind (arith, nat_tests, below)
not_less first x Equal same = grind (arith, nat_tests, same)
not_less first x Greater above = grind (arith, nat_tests, above)

-- a number is in the range from `first` on if it isn't less
pub from_is : (first x : ℕ) → is_from nat_cmp first x ≡ nat_le first x
from_is first x = not_less first x (nat_cmp x first) (ranked x first (nat_cmp x first) refl)
