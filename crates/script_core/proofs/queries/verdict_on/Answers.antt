use Rattle.std.proofs.Common.{◌∙◌, List, refl, subst, sym}
use Rattle.cert_core.specs.Verdict.{IsVerdict}
use Rattle.dip_core.specs.Item.{IdsRise}
use Rattle.dip_core.specs.declared.item.Item.{Item}
use Rattle.match_core.proofs.ItemIds.{IdsRise-items_of}
use Rattle.script_core.proofs.queries.verdict_on.Goals as goal

pub check_division-requires : goal.check_division-requires
check_division-requires c =
    subst IdsRise (sym (c.deref.ensures.value ∙ c.in_ok-items.ensures)) (IdsRise-items_of c.args.rows.now c.requires)

pub returns : goal.returns
returns c =
    let verdict = c.in_ok-verdict.verdict in
    let applies =
    subst (λ (items : List Item). IsVerdict items c.args.claim.now c.args.certificate.now verdict)
    (c.deref.ensures.value ∙ c.in_ok-items.ensures) c.in_ok-verdict.ensures.verdict in
    record { verdict = verdict; applies = applies; is = refl }
