use Rattle.std.proofs.Common.{◌≤◌, arith, length, length-drop, refl}
use Rattle.command_core.specs.Command.{meaning_of}
use Rattle.command_core.specs.Lines.{lines_in}
use Rattle.store_core.specs.Snapshots.{history}
use Rattle.command_core.proofs.Cutting.{rest-from}
use Rattle.script_core.proofs.Blocks.{queries-all, queries-more}
use Rattle.script_core.proofs.together.answer_queries.Goals as goal

pub loop-at-preserved : goal.loop-at-preserved
loop-at-preserved g c =
    let lines = lines_in c.args.section.lines in
    let at = c.loop-at.at in
    let taken = c.next_inside-command.result.taken in
    let rest = rest-from lines (lines_in c.range.result) c.len-in-loop-at.result at c.len-in-loop-at.ensures
    c.range.ensures in
    let next = rw rest at c.next_inside-command.ensures in
    let one = c.in_ok-errors.ensures.printed in
    record {
      within = omega (arith, next.within, length-drop at lines, c.loop-at.invariant.within);
      few = omega (arith, next.some, c.loop-at.invariant.few);
      fewer = omega (arith, c.loop-at.invariant.fewer, c.in_ok-errors.ensures.few);
      done = queries-more (history c.args.context.now.newest.now) c.args.section.first lines at taken c.args.printer.now
          c.loop-at.printer c.answer_query.new.printer c.loop-at.reported _
          (meaning_of c.next_inside-command.result.command)
          c.in_ok-errors.errors c.loop-at.invariant.done next.within next.next next.allowed one refl refl;
    }

pub returns : goal.returns
returns g c =
    let lines = lines_in c.args.section.lines in
    let over : length lines ≤ c.loop-at.at = omega (arith, c.loop-at-test.false, c.len.ensures) in
    record {
      printed = λ members are.
          queries-all (history c.args.context.now.newest.now) c.args.section.first lines c.loop-at.at c.args.printer.now
          c.loop-at.printer c.loop-at.reported c.loop-at.invariant.done over members are;
      few = c.loop-at.invariant.fewer;
      fewer = omega (arith, c.loop-at.invariant.few, c.loop-at.invariant.within);
    }
