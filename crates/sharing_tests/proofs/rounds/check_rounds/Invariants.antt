use Rattle.store_core.specs.Passes.{IsPassOf}
use Rattle.sharing_tests.proofs.rounds.check_rounds.Given as goal

abbrev pub invariant-loop-round : goal.invariant-loop-round
invariant-loop-round g l = IsPassOf l.store l.pass
