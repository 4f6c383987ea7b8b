use Rattle.std.proofs.Common.{arith}
use Rattle.dip_core.proofs.EndsLemmas.{none-first}
use Rattle.dip_core.proofs.HeapLemmas.{top}
use Rattle.dip_core.proofs.placement.first_over.Goals as goal

pub returns-then-is_over-clause-first : goal.returns-then-is_over-clause-first
returns-then-is_over-clause-first c = record {
  some = omega arith;
  first = λ j d within. top c.args.ends.now.ends d j c.requires.heap within;
  number = grind (arith, c.number.ensures, c.is_over.ensures.ends);
  over = c.if-is_over.ensures.over;
}

pub returns-else-is_over-clause-first : goal.returns-else-is_over-clause-first
returns-else-is_over-clause-first c =
    none-first c.args.ends.now.ends c.args.start c.if-is_over.ensures.over c.requires.heap
