use Rattle.std.specs.List.{AllAdjacentBelow}
use Rattle.period_core.specs.Period.{Overlap}
use Rattle.cert_core.proofs.overlap.first_pair.Given as goal

-- no neighbours before `next` overlap
abbrev pub invariant-loop-next : goal.invariant-loop-next
invariant-loop-next l = AllAdjacentBelow (λ x y. Overlap x.period y.period → ⊥) l.items l.next
