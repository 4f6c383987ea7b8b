use Rattle.std.proofs.Common.{◌∙◌, sym, ap}
use Rattle.cert_core.specs.Claim.{ids_of}
use Rattle.cert_core.proofs.CutLemmas.{ids_of-cut}
use Rattle.cert_core.proofs.claim.Claim.ids.Goals as goal

pub returns : goal.returns
returns c =
    c.deref.ensures.value
    ∙ (sym (ids_of-cut c.self.inside.ends.items c.self.inside.ids.items c.self.invariant) ∙ ap ids_of c.self.view_is)
