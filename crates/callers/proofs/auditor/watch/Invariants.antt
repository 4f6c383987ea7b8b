use Rattle.store_core.specs.Passes.{IsPassOf}
use Rattle.callers.proofs.auditor.watch.Given as goal

-- the pass is of the store
abbrev pub invariant-loop-look : goal.invariant-loop-look
invariant-loop-look g l = IsPassOf l.store l.pass
