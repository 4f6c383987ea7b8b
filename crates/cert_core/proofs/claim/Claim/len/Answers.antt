use Rattle.std.proofs.Common.{◌≡◌, ap, length, arith}
use Rattle.list_core.specs.Cut.{cut}
use Rattle.list_core.proofs.CutLemmas.{length-cut}
use Rattle.cert_core.proofs.claim.Claim.len.Goals as goal

pub returns : goal.returns
returns c =
    let parts : length (cut 0 c.self.inside.ends.items c.self.inside.ids.items) ≡ length c.args.self.now =
    ap length c.self.view_is in
    let ends = length-cut 0 c.self.inside.ends.items c.self.inside.ids.items in
    omega (arith, parts, ends, c.self.inside.ends.ok)
