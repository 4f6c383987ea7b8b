use Rattle.std.proofs.Common.{arith, ap, length, sym}
use Rattle.std.proofs.lemmas.Option.{slice_get_past}
use Rattle.list_core.proofs.CutLemmas.{length-cut}
use Rattle.command_core.proofs.flat_fields.FlatFields.get.Goals as goal

pub at-requires : goal.at-requires
at-requires c =
    let size = length-cut 0 c.self.inside.ends.items c.self.inside.bytes.items in
    omega (arith, c.if-place-len.true, c.len.ensures, size, ap length c.self.view_is, c.self.inside.ends.ok)

pub returns-else-place-len : goal.returns-else-place-len
returns-else-place-len c =
    let size = length-cut 0 c.self.inside.ends.items c.self.inside.bytes.items in
    sym (slice_get_past c.args.self.now c.args.place
    (omega (arith, c.if-place-len.false, c.len.ensures, size, ap length c.self.view_is, c.self.inside.ends.ok)))
