-- `==` decides equality of steps.
use Rattle.std.proofs.Common.{◌≡◌, List, Bool, ap}
use Rattle.std.specs.Bool.{Decides}
use Rattle.std.proofs.lemmas.Bool.Decides.{Decides-eqb, Decides-int_eq, Decides-and, Decides-like}
use lib.Pointwise.{pointwise}
use Rattle.std.proofs.lemmas.Slice.Eq.{slice_eq-Decides}
use Rattle.period_core.proofs.PeriodLemmas.{Period-same}
use Rattle.merge_core.specs.declared.step.Step.{Step}
use Rattle.merge_core.specs.contracts.step.StepPartialEq.TheImpl.{eq-value}
use Rattle.merge_core.proofs.CombineLemmas.{Tally-same}

Step-same : (a b : Step) → a.period ≡ b.period → a.tally ≡ b.tally → a ≡ b
Step-same a b p t = λ k. record { period = p k; tally = t k }

step_decides : (a b : Step) → Decides (eq-value.it a b) (a ≡ b)
step_decides a b = Decides-like _
    (λ h. Step-same a b (Period-same a.period b.period h.0.0 h.0.1)
    (Tally-same a.tally b.tally h.1.0 h.1.1.0 h.1.1.1.0 h.1.1.1.1))
    (λ e. (
      (ap (λ (v : Step). v.period.from) e, ap (λ (v : Step). v.period.to) e),
      (
        ap (λ (v : Step). v.tally.count) e,
        (
          ap (λ (v : Step). v.tally.sum) e,
          (ap (λ (v : Step). v.tally.min) e, ap (λ (v : Step). v.tally.max) e),
        ),
      ),
    ))
    (Decides-and _ _
    (Decides-and _ _ (Decides-int_eq a.period.from b.period.from) (Decides-int_eq a.period.to b.period.to))
    (Decides-and _ _ (Decides-eqb a.tally.count b.tally.count)
    (Decides-and _ _ (Decides-int_eq a.tally.sum b.tally.sum)
    (Decides-and _ _ (Decides-int_eq a.tally.min b.tally.min) (Decides-int_eq a.tally.max b.tally.max)))))

-- `==` decides whether two slices of steps are equal
pub steps_decide : (xs ys : List Step) (r : Bool) → r ≡ pointwise eq-value.it xs ys → Decides r (xs ≡ ys)
steps_decide xs ys r e = slice_eq-Decides step_decides xs ys r e
