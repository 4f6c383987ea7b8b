use Rattle.std.proofs.Common.{◌≡◌, ◌-◌, ◌∙◌, arith, ap, length, slice_get, sym}
use Rattle.list_core.proofs.CutLemmas.{length-cut}
use Rattle.command_core.proofs.SeamLemmas.{last-at}
use Rattle.command_core.proofs.flat_fields.FlatFields.last.Goals as goal

pub returns : goal.returns
returns c =
    let size = length-cut 0 c.self.inside.ends.items c.self.inside.bytes.items in
    let same = ap length c.self.view_is in
    let at : c.saturating_sub.result ≡ length c.args.self.now - 1 =
    omega (arith, c.saturating_sub.ensures, c.len.ensures, size, same, c.self.inside.ends.ok.0) in
    c.get.ensures ∙ ap (slice_get c.args.self.now) at ∙ sym (last-at c.args.self.now)
