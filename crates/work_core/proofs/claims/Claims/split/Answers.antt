use Rattle.std.proofs.Common.{arith, sym, ◌∙◌}
use Rattle.work_core.proofs.Rule.{split-keeps}
use Rattle.work_core.proofs.claims.Claims.split.Goals as goal

pub split_seat-requires : goal.split_seat-requires
split_seat-requires c = (
  c.requires.table ∙ sym c.self.view_is,
  omega (arith, c.self.invariant.0),
  λ s claimed at. (claimed.0, split-keeps _ _ _ _ c.requires.part c.requires.room at claimed.1),
)
