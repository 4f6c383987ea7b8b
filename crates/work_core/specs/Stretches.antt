-- A stretch of a job: consecutive pairs, numbered from 0; and the laws of these numbers.
use Rattle.std.specs.Prelude.{◌≡◌, ℕ, ◌+◌, ◌-◌, ◌<◌, ◌≤◌, Bool, true, List, length, Option, Some, None, if◌then◌else◌, ◌&&◌, nat_le, nat_lt, slice_get, option_and_then}
use Rattle.std.proofs.Common.{arith, ap, ◌∙◌}
use Rattle.std.proofs.lemmas.Bool.Decides.{nat_tests}
use Rattle.std.proofs.lemmas.Option.{cond_some, option_and_then_some}
use Rattle.work_core.specs.declared.job.PairWork as PairWork
use Rattle.work_core.specs.Jobs.{Gives}
use Rattle.work_core.specs.Limits.{pair_limit}

-- whether a number is one of the `count` numbers from `first` on
abbrev pub is_within : ℕ → ℕ → ℕ → Bool
is_within first count i = nat_le first i && nat_lt i (first + count)

-- the number in the stretch of a pair with this number in the job, if the stretch has the pair
abbrev pub number_within : ℕ → ℕ → Option ℕ → Option ℕ
number_within first count at = option_and_then (λ i. if is_within first count i then Some (i - first) else None) at

module _ {W Out : Type 0} (g : PairWork.Ghosts W Out) where
  -- the values of the `count` pairs of a job from number `first` on, in order
  pub record AreValuesFrom (w : W) (first count : ℕ) (outs : List Out) : Type 0 where
    pub len : length outs ≡ count
    pub each : (i : ℕ) (o : Out) → slice_get outs i ≡ Some o → Gives g w (g.name_of w (first + i)) o

-- a number of the stretch passes the test
within_test : (first count i : ℕ) → i < count → is_within first count (first + i) ≡ true
within_test first count i h = grind (arith, nat_tests)

-- a number that passes the test is one of the stretch
from_test : (first count i : ℕ) → is_within first count i ≡ true → (first ≤ i) × (i < first + count)
from_test first count i e = (grind (arith, nat_tests), grind (arith, nat_tests))

-- a number of the stretch is found again
pub number_within-at : (first count i : ℕ) (at : Option ℕ) → i < count → at ≡ Some (first + i)
    → number_within first count at ≡ Some i
number_within-at first count i at h e =
    rw (e, within_test first count i h) (ap (λ (k : ℕ). Some k) (omega arith))

-- the number found is the number minus `first`
pub number_within-is : (first count i : ℕ) (at : Option ℕ) → number_within first count at ≡ Some i
    → (i < count) × (at ≡ Some (first + i))
number_within-is first count i at e =
    option_and_then_some (λ k. if is_within first count k then Some (k - first) else None) at i e
    (λ k is found.
    let t = cond_some (is_within first count k) (k - first) i found in
    let inside = from_test first count k t.0 in
    (omega (arith, inside.0, inside.1, t.1), is ∙ ap (λ (j : ℕ). Some j) (omega (arith, inside.0, t.1))))

-- a stretch has no more pairs than a job may have
pub stretch-few : (first count pairs : ℕ) → first + count ≤ pairs → pairs ≤ pair_limit → count ≤ pair_limit
stretch-few first count pairs h few = omega (arith, h, few)

-- a number of the stretch is one of the job
pub stretch-inside : (first count i pairs : ℕ) → i < count → first + count ≤ pairs → first + i < pairs
stretch-inside first count i pairs h inside = omega (arith, h, inside)
