use Rattle.std.proofs.Common.{ap, arith, length}
use Rattle.std.specs.Prelude.{sum_by}
use Rattle.command_core.specs.Flat.{size_of}
use Rattle.command_core.proofs.ScriptSizes.{lengths-cut, sum_by-cut}
use Rattle.command_core.proofs.batch.Batch.push.Goals as goal

pub push_record-requires-clause-bytes : goal.push_record-requires-clause-bytes
push_record-requires-clause-bytes c =
    let fields = c.self.inside.fields in
    omega (
      arith,
      c.requires.bytes,
      sum_by-cut length 0 c.self.inside.ends.items fields c.self.invariant,
      ap (sum_by size_of) c.self.view_is,
    )

pub push_record-requires-clause-fields : goal.push_record-requires-clause-fields
push_record-requires-clause-fields c =
    let fields = c.self.inside.fields in
    omega (
      arith,
      c.requires.fields,
      lengths-cut 0 c.self.inside.ends.items fields c.self.invariant,
      ap (sum_by length) c.self.view_is,
    )
