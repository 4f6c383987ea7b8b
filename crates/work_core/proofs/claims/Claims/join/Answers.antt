use Rattle.std.proofs.Common.{arith, sym, ◌∙◌}
use Rattle.work_core.proofs.Rule.{join-keeps}
use Rattle.work_core.proofs.claims.Claims.join.Goals as goal

pub join_seat-requires : goal.join_seat-requires
join_seat-requires c = (
  c.requires.table ∙ sym c.self.view_is,
  c.requires.other ∙ sym c.self.view_is,
  c.requires.free,
  omega (arith, c.self.invariant.0),
  λ s claimed at ne at'. (claimed.0, join-keeps _ _ _ _ _ _ ne at at' claimed.1),
)
