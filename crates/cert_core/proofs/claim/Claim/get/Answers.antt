use Rattle.std.proofs.Common.{◌≡◌, ap, sym, arith, length, ◌≤◌}
use Rattle.std.proofs.lemmas.Option.{slice_get_past}
use Rattle.list_core.specs.Cut.{cut}
use Rattle.list_core.proofs.CutLemmas.{length-cut}
use Rattle.cert_core.proofs.claim.Claim.get.Goals as goal

pub part-requires : goal.part-requires
part-requires c =
    let parts : length (cut 0 c.self.inside.ends.items c.self.inside.ids.items) ≡ length c.args.self.now =
    ap length c.self.view_is in
    let ends = length-cut 0 c.self.inside.ends.items c.self.inside.ids.items in
    omega (arith, parts, ends, c.self.inside.ends.ok)

pub returns-else-number-len : goal.returns-else-number-len
returns-else-number-len c =
    let parts : length (cut 0 c.self.inside.ends.items c.self.inside.ids.items) ≡ length c.args.self.now =
    ap length c.self.view_is in
    let ends = length-cut 0 c.self.inside.ends.items c.self.inside.ids.items in
    let past : length c.args.self.now ≤ c.args.number = omega (arith, parts, ends, c.self.inside.ends.ok) in
    sym (slice_get_past c.args.self.now c.args.number past)
