use Rattle.std.proofs.Common.{arith, ap, length}
use Rattle.list_core.proofs.CutLemmas.{length-cut}
use Rattle.draft_core.proofs.texts.Texts.len.Goals as goal

pub returns : goal.returns
returns c =
    let size = length-cut 0 c.self.inside.ends.items c.self.inside.bytes.items in
    omega (arith, c.len.ensures, size, ap length c.self.view_is, c.self.inside.ends.ok)
