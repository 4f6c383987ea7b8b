use Rattle.std.proofs.Common.{arith, ap, length}
use Rattle.list_core.proofs.CutLemmas.{length-cut}
use Rattle.command_core.proofs.flat_fields.FlatFields.at.Goals as goal

pub part_at-requires-clause-place : goal.part_at-requires-clause-place
part_at-requires-clause-place c =
    let size = length-cut 0 c.self.inside.ends.items c.self.inside.bytes.items in
    omega (arith, c.requires, size, ap length c.self.view_is, c.self.inside.ends.ok)
