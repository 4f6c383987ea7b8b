use Rattle.std.proofs.Common.{◌∷◌, [], ap, get_or, length}
use Rattle.period_core.proofs.point.three_pairs.Goals as goal
use Rattle.period_core.proofs.point.three_pairs.Goals.{then-text-ne8-via-then-text-ne8, then-text-ne8-via-else-text-ne8+then-text-between, then-text-ne8-via-else-text-ne8+else-text-between+then-text-between-2}

pub returns-then-text-ne8 : goal.returns-then-text-ne8
returns-then-text-ne8 c = λ x y z e.
    elim c.then-text-ne8.branch [
      | then-text-ne8-via-then-text-ne8 w ↦ w.if-text-ne8.true (ap length e)
      | then-text-ne8-via-else-text-ne8+then-text-between w ↦ w.if-text-between.true (ap (λ l. get_or l 2 0) e)
      | then-text-ne8-via-else-text-ne8+else-text-between+then-text-between-2 w ↦
          w.if-text-between-2.true (ap (λ l. get_or l 5 0) e)
    ]

pub returns-in_err-first : goal.returns-in_err-first
returns-in_err-first c =
    rw c.from_residual.ensures (λ x y z e. c.in_err-first.ensures x (ap (λ l. get_or l 0 0 ∷ get_or l 1 0 ∷ []) e))

pub returns-in_err-second : goal.returns-in_err-second
returns-in_err-second c =
    rw c.from_residual-in_err-second.ensures
    (λ x y z e. c.in_err-second.ensures y (ap (λ l. get_or l 3 0 ∷ get_or l 4 0 ∷ []) e))

pub returns-in_err-third : goal.returns-in_err-third
returns-in_err-third c =
    rw c.from_residual-in_err-third.ensures
    (λ x y z e. c.in_err-third.ensures z (ap (λ l. get_or l 6 0 ∷ get_or l 7 0 ∷ []) e))
