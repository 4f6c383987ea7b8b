use Rattle.std.proofs.Common.{◌≡◌, ◌++◌, ◌∷◌, [], length, ap, sym, ◌∙◌, subst, arith}
use Rattle.list_core.specs.Cut.{cut, EndsAt}
use Rattle.cert_core.proofs.CutLemmas.{EndsAt-open, cut-open}
use Rattle.cert_core.proofs.claim.Claim.open_part.Goals as goal
use Rattle.cert_core.proofs.claim.Claim.open_part.Goals.{In_ok-push}

grown : (c : In_ok-push) → c.push.new.self.items ≡ c.self.inside.ends.items ++ length c.self.inside.ids.items ∷ []
grown c =
    let end : c.len.result ≡ length c.self.inside.ids.items = omega (arith, c.len.ensures, c.self.inside.ids.ok) in
    subst (λ n. c.push.new.self.items ≡ c.self.inside.ends.items ++ n ∷ []) end c.in_ok-push.ensures.items

pub invariant_of-self-2 : goal.invariant_of-self-2
invariant_of-self-2 c =
    subst (λ ends. EndsAt 0 ends (length c.self.inside.ids.items)) (sym (grown c))
    (EndsAt-open c.self.inside.ends.items (length c.self.inside.ids.items) c.self.invariant)

pub returns-clause-ok : goal.returns-clause-ok
returns-clause-ok c =
    ap (λ ends. cut 0 ends c.self.inside.ids.items) (grown c)
    ∙ (cut-open c.self.inside.ends.items c.self.inside.ids.items c.self.invariant
    ∙ ap (λ parts. parts ++ [] ∷ []) c.self.view_is)
