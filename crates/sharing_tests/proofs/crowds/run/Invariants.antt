use Rattle.store_core.specs.Passes.{IsPassOf}
use Rattle.sharing_tests.proofs.crowds.run.Given as goal

abbrev pub invariant-loop-number : goal.invariant-loop-number
invariant-loop-number g l = IsPassOf l.store l.pass
