use Rattle.std.proofs.Common.{◌++◌, sym, ap, ◌∙◌}
use Rattle.join_core.proofs.LoopLemmas.{rows_in-more}
use Rattle.join_core.proofs.rows.add_rows.Goals as goal

pub loop-i-preserved : goal.loop-i-preserved
loop-i-preserved c =
    rows_in-more c.args.outs.now c.loop-i.i c.in-Some.out.now c.args.rows.now.items c.loop-i.rows.items
    c.extend_from_slice.new.self.items (sym c.in-Some.ensures) c.loop-i.invariant
    (c.in_ok-extend_from_slice.ensures.items ∙ ap (λ l. c.loop-i.rows.items ++ l) c.deref.ensures.value)
