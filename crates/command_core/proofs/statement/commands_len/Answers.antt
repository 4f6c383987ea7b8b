use Rattle.std.proofs.Common.{◌≡◌, [], ap, arith, drop, length, subst, sym}
use Rattle.std.proofs.lemmas.List.{drop_all, length-drop}
use Rattle.command_core.specs.Lines.{fields_in, lines_in}
use Rattle.command_core.specs.Statement.{IsOpen}
use Rattle.command_core.proofs.Blocks.{members-more, no-members}
use Rattle.command_core.proofs.Cutting.{rest-from}
use Rattle.command_core.proofs.statement.commands_len.Goals as goal

pub loop-at-init : goal.loop-at-init
loop-at-init c = record { within = omega arith; before = no-members }

pub returns-then-is_end-clause-before : goal.returns-then-is_end-clause-before
returns-then-is_end-clause-before c = c.loop-at.invariant.before

pub returns-in_err-at-clause-none : goal.returns-in_err-at-clause-none
returns-in_err-at-clause-none c =
    let lines = lines_in c.args.lines in
    let rest = rest-from lines (lines_in c.range.result) c.len-in-loop-at.result c.loop-at.at c.len-in-loop-at.ensures
    c.range.ensures in
    rw c.from_residual.ensures
    (λ number. let front = c.loop-at.invariant.before number in
    (c.loop-at.at, front.0, front.1, subst IsOpen rest c.in_err-at.ensures.none))

pub loop-at-smaller : goal.loop-at-smaller
loop-at-smaller c = omega (arith, c.in_ok-at.ensures.some, c.loop-at-test.true, c.len.ensures)

pub loop-at-preserved : goal.loop-at-preserved
loop-at-preserved c =
    let lines = lines_in c.args.lines in
    let at = c.loop-at.at in
    let behind = lines_in c.range.result in
    let rest = rest-from lines behind c.len-in-loop-at.result at c.len-in-loop-at.ensures c.range.ensures in
    let found = c.in_ok-at.ensures in record {
      within = omega (arith, found.within, ap length rest, length-drop at lines, c.loop-at.invariant.within);
      before = members-more lines behind (fields_in c.get.result) at c.in_ok-at.field-0 rest c.get.ensures
          (omega (arith, c.loop-at-test.true, c.len.ensures))
          (sym c.if-is_end.ensures) found.whole c.loop-at.invariant.before;
    }

pub returns-clause-none : goal.returns-clause-none
returns-clause-none c = λ number.
    let lines = lines_in c.args.lines in
    let front = c.loop-at.invariant.before number in
    let none : drop c.loop-at.at lines ≡ [] =
    drop_all c.loop-at.at lines (omega (arith, c.loop-at-test.false, c.len.ensures)) in
    (c.loop-at.at, front.0, front.1, subst IsOpen (sym none) tt)
