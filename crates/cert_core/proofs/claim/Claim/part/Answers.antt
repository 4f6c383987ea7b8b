use Rattle.std.proofs.Common.{◌≡◌, ap, arith, length, ◌<◌}
use Rattle.list_core.specs.Cut.{cut}
use Rattle.list_core.proofs.CutLemmas.{length-cut}
use Rattle.cert_core.proofs.claim.Claim.part.Goals as goal

pub part_of-requires-clause-there : goal.part_of-requires-clause-there
part_of-requires-clause-there c =
    let parts : length (cut 0 c.self.inside.ends.items c.self.inside.ids.items) ≡ length c.args.self.now =
    ap length c.self.view_is in
    let ends = length-cut 0 c.self.inside.ends.items c.self.inside.ids.items in
    let there : c.args.number < length c.args.self.now = c.requires in
    let same : length c.deref-2.result.now ≡ length c.self.inside.ends.items = ap length c.deref-2.ensures.value in
    omega (arith, parts, ends, there, same)
