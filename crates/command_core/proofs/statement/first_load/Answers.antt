use Rattle.std.proofs.Common.{ap, arith, length, sym}
use Rattle.std.proofs.lemmas.List.{length-drop}
use Rattle.command_core.specs.Lines.{fields_in, lines_in}
use Rattle.command_core.proofs.Blocks.{have-members}
use Rattle.command_core.proofs.Cutting.{rest-from}
use Rattle.command_core.proofs.FirstLoad.{searched-all, searched-closed, searched-found, searched-more, searched-none}
use Rattle.command_core.proofs.statement.first_load.Goals as goal

pub loop-at-init : goal.loop-at-init
loop-at-init c = record { within = omega arith; searched = searched-none (lines_in c.args.lines) }

pub returns-then-begins-clause-split : goal.returns-then-begins-clause-split
returns-then-begins-clause-split c = λ number members are.
    searched-found (lines_in c.args.lines) (fields_in c.get.result) c.loop-at.at number members c.get.ensures
    (omega (arith, c.loop-at-test.true, c.len.ensures)) (sym c.if-begins.ensures)
    (c.loop-at.invariant.searched number members are)

pub loop-at-preserved : goal.loop-at-preserved
loop-at-preserved c =
    let lines = lines_in c.args.lines in
    let at = c.loop-at.at in
    let behind = lines_in c.range.result in
    let rest = rest-from lines behind c.len-in-loop-at.result at c.len-in-loop-at.ensures c.range.ensures in
    let found = c.in-Some.ensures in record {
      within = omega (arith, found.within, ap length rest, length-drop at lines, c.loop-at.invariant.within);
      searched = searched-more lines behind (fields_in c.get.result) at c.in-Some.len rest c.get.ensures
          (omega (arith, c.loop-at-test.true, c.len.ensures))
          found.within (sym c.if-begins.ensures) found.whole c.loop-at.invariant.searched;
    }

pub unreachable-requires : goal.unreachable-requires
unreachable-requires c =
    let lines = lines_in c.args.lines in
    let at = c.loop-at.at in
    let behind = lines_in c.range.result in
    let rest = rest-from lines behind c.len-in-loop-at.result at c.len-in-loop-at.ensures c.range.ensures in
    searched-closed lines behind at rest (omega (arith, c.loop-at-test.true, c.len.ensures))
    c.loop-at.invariant.searched
    (have-members c.requires.whole.0 lines c.requires.whole.1 c.requires.whole.2) c.in-None.ensures.none

pub returns-clause-none : goal.returns-clause-none
returns-clause-none c = λ number members are.
    searched-all (lines_in c.args.lines) c.loop-at.at number members
    (omega (arith, c.loop-at-test.false, c.len.ensures)) (c.loop-at.invariant.searched number members are)
