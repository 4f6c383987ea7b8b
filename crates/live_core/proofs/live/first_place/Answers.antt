use Rattle.std.proofs.Common.{arith, sym, ◌∙◌}
use Rattle.live_core.proofs.TextLemmas.{lead-none}
use Rattle.live_core.proofs.live.first_place.Goals as goal

pub returns-clause-some : goal.returns-clause-some
returns-clause-some c = (
  omega arith,
  lead-none c.args.text.now (sym c.starts_with.ensures.value ∙ c.if-starts_with.false)
      (sym c.starts_with-2.ensures.value ∙ c.if-starts_with-2.false),
)
