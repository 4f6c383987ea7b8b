use Rattle.std.proofs.Common.{length, inl, inr, ap, ◌∙◌}
use Rattle.dip_core.proofs.EndsLemmas.{best-first, none-over}
use Rattle.dip_core.proofs.placement.part_for.Goals as goal

pub returns-in-Some-clause-place : goal.returns-in-Some-clause-place
returns-in-Some-clause-place c = λ parts hold.
    inl (best-first parts c.args.ends.now.ends c.args.start c.in-Some.number hold c.in-Some.ensures.first)

pub returns-in-None-clause-place : goal.returns-in-None-clause-place
returns-in-None-clause-place c = λ parts hold. inr (
  c.len.ensures ∙ ap length c.in-None.ensures.same ∙ hold.long,
  none-over parts c.args.ends.now.ends c.args.start c.in-None.ensures.first hold,
)
