use Rattle.std.proofs.Common.{◌≡◌, arith, ap, length}
use Rattle.list_core.specs.Cut.{cut}
use Rattle.list_core.proofs.CutLemmas.{length-cut}
use Rattle.command_core.proofs.batch.Batch.line.Goals as goal

pub line_at-requires-clause-place : goal.line_at-requires-clause-place
line_at-requires-clause-place c =
    let ends = c.self.inside.ends.items in
    let size = length-cut 0 ends c.self.inside.fields in
    let same : length (cut 0 ends c.self.inside.fields) ≡ length c.args.self.now =
    ap length c.self.view_is in
    let count : length c.deref.result.now ≡ length ends = ap length c.deref.ensures.value in
    omega (arith, c.requires, size, same, count)
