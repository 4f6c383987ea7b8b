use Rattle.std.proofs.Common.{ap, arith}
use Rattle.command_core.specs.Flat.{size_of}
use Rattle.command_core.proofs.ScriptSizes.{lengths-cut}
use Rattle.command_core.proofs.flat_fields.FlatFields.size.Goals as goal

pub returns : goal.returns
returns c =
    let bytes = c.self.inside.bytes in
    omega (
      arith,
      c.len.ensures,
      bytes.ok,
      lengths-cut 0 c.self.inside.ends.items bytes.items c.self.invariant,
      ap size_of c.self.view_is,
    )
