use Rattle.std.proofs.Common.{◌≡◌, sym, subst, ap, ◌∙◌}
use Rattle.merge_core.specs.Steps.{StepList, tally_at, IsTallyHeldAt}
use Rattle.merge_core.proofs.StepLemmas.{tally_held}
use Rattle.merge_core.proofs.steps.Steps.tally_at.Goals as goal

pub returns-clause-held : goal.returns-clause-held
returns-clause-held c =
    let steps = c.self.inside.steps.items in
    let found : c.find_tally.result ≡ tally_at steps c.args.at =
    c.find_tally.ensures ∙ ap (λ z. tally_at z c.args.at) c.deref.ensures.value in
    subst (λ (v : StepList). IsTallyHeldAt v.steps c.args.at c.find_tally.result) c.self.view_is
    (subst (IsTallyHeldAt steps c.args.at) (sym found) (tally_held steps c.args.at c.self.invariant.apart))
