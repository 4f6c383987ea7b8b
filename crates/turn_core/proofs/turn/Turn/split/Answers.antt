use Rattle.std.proofs.Common.{arith}
use Rattle.turn_core.proofs.SeatSteps.{may_tell}
use Rattle.turn_core.proofs.turn.Turn.split.Goals as goal

pub split_seat-other-requires : goal.split_seat-other-requires
split_seat-other-requires g c = (c.requires.turn, let n = c.args.self.now.words in omega arith, may_tell _ _ _ _ _ _)
