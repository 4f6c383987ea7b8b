use Rattle.std.proofs.Common.{subst, sym, ◌∙◌}
use Rattle.cert_core.proofs.VerdictLemmas.{verdict-from_fault, yes-from_fault}
use Rattle.cert_core.proofs.VerdictLemmas.{IsLeast-from_certified}
use Rattle.cert_core.specs.Verdict.{IsVerdict}
use Rattle.cert_core.proofs.check.check_division.Goals as goal

pub returns-clause-verdict : goal.returns-clause-verdict
returns-clause-verdict c =
    subst (IsVerdict c.args.items.now c.args.claim.now c.args.certificate.now) (sym c.unwrap_or.ensures)
    (verdict-from_fault c.args.items.now c.args.claim.now c.args.certificate.now c.in_ok-fault.fault c.requires
    c.in_ok-fault.ensures)

pub returns-clause-yes : goal.returns-clause-yes
returns-clause-yes c =
    let both = yes-from_fault c.args.items.now c.args.claim.now c.args.certificate.now c.in_ok-fault.fault c.requires
    c.in_ok-fault.ensures in
    (λ yes. both.0 (sym c.unwrap_or.ensures ∙ yes), λ certified. c.unwrap_or.ensures ∙ both.1 certified)

pub returns-clause-least : goal.returns-clause-least
returns-clause-least c =
    λ yes. IsLeast-from_certified c.args.items.now c.args.claim.now c.args.certificate.now
    ((returns-clause-yes c).0 yes)
