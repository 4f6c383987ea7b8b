use Rattle.std.proofs.Common.{◌++◌, ◌∷◌, [], subst, sym}
use Rattle.script_core.specs.Failure.{IsFailureOf}
use Rattle.script_core.specs.Effects.{change_in}
use Rattle.script_core.specs.Ledgers.{ledger_history}
use Rattle.script_core.proofs.Changing.{change-failure}
use Rattle.script_core.proofs.changes.apply.Goals as goal

pub returns-in-Err-clause-changes : goal.returns-in-Err-clause-changes
returns-in-Err-clause-changes g c =
    let h = ledger_history c.args.ledger.now in
    let next = h ++ record { by = 1; change = c.args.change } ∷ [] in
    let reported = change-failure c.args.number h c.args.change c.in-Err.why next c.in-Err.ensures.made.1 in (
      subst (λ failure. IsFailureOf (change_in c.args.number h c.args.change) failure)
          (sym c.failure_at.ensures) reported,
      c.in-Err.ensures.made.0,
    )
