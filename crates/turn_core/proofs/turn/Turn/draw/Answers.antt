use Rattle.std.proofs.Common.{arith}
use Rattle.turn_core.proofs.CallSteps.{may_draw}
use Rattle.turn_core.proofs.turn.Turn.draw.Goals as goal

pub fetch_add-requires : goal.fetch_add-requires
fetch_add-requires g c = (
  c.requires.turn,
  let n = c.args.self.now.words in omega arith,
  may_draw _ _ _ _ _ _ _ c.requires.left,
)
