use Rattle.std.proofs.Common.{inl, refl, sym}
use Rattle.command_core.specs.Command.{meaning_of}
use Rattle.command_core.specs.Lines.{fields_in, lines_in}
use Rattle.command_core.specs.Statement.{One}
use Rattle.command_core.proofs.Blocks.{states-one}
use Rattle.command_core.proofs.statement.next_statement.Goals as goal

pub returns-clause-states : goal.returns-clause-states
returns-clause-states c =
    let cut = c.in_ok-command.field-0 in
    let meaning = meaning_of cut.command in (
      One meaning,
      refl,
      inl (states-one (lines_in c.args.lines) (fields_in c.get-opening.result) c.args.number cut.taken meaning
          c.get-opening.ensures (sym c.if-begins.ensures) c.in_ok-command.ensures.means),
    )
