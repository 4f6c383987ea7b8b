use Rattle.std.proofs.Common.{arith}
use Rattle.dip_core.proofs.PartedLemmas.{length-part_at}
use Rattle.grid_core.proofs.stretches.items_of_part.Goals as goal

pub returns : goal.returns
returns c =
    rw (c.items.ensures, c.part.ensures)
    (let most = length-part_at c.args.division.now c.args.number in omega (arith, most, c.parts.ensures.small))
