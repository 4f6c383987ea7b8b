use Rattle.std.proofs.Common.{◌∙◌, drop, sym, take}
use Rattle.std.proofs.lemmas.List.{take-append-drop}
use Rattle.command_core.specs.Command.{meaning_of}
use Rattle.command_core.specs.Lines.{fields_in, lines_in}
use Rattle.command_core.proofs.Cutting.{drop-slice_get}
use Rattle.command_core.proofs.Inside.{free_before, means-allowed}
use Rattle.command_core.proofs.Members.{closed-means}
use Rattle.command_core.proofs.Next.{members-closed, next-barred, next-free}
use Rattle.command_core.proofs.statement.next_inside.Goals as goal

pub next_allowed-requires-clause-allowed : goal.next_allowed-requires-clause-allowed
next_allowed-requires-clause-allowed c =
    free_before c.args.has_load (fields_in c.get-opening.result) (sym c.if-not-is_barred.ensures)

pub returns-then-not-is_barred-clause-next : goal.returns-then-not-is_barred-clause-next
returns-then-not-is_barred-clause-next c = λ members are.
    let cut = c.next_allowed.result in
    next-free c.args.has_load c.args.number (lines_in c.args.lines) (fields_in c.get-opening.result)
    c.get-opening.ensures cut.taken (meaning_of cut.command) members c.requires.some are c.next_allowed.ensures.means
    (sym c.if-not-is_barred.ensures)

pub returns-then-not-is_barred-clause-allowed : goal.returns-then-not-is_barred-clause-allowed
returns-then-not-is_barred-clause-allowed c =
    let lines = lines_in c.args.lines in
    let opening = fields_in c.get-opening.result in
    let cut = c.next_allowed.result in
    means-allowed c.args.has_load c.args.number opening (drop 1 lines) (take cut.taken lines) (drop cut.taken lines)
    (meaning_of cut.command)
    (sym (drop-slice_get lines 0 opening c.get-opening.ensures) ∙ sym (take-append-drop cut.taken lines))
    (sym c.if-not-is_barred.ensures) c.next_allowed.ensures.means

pub unreachable-requires : goal.unreachable-requires
unreachable-requires c =
    members-closed c.args.number (lines_in c.args.lines) c.requires.whole.0 c.requires.some c.requires.whole.1
    c.in-None.ensures.none

pub returns-clause-next : goal.returns-clause-next
returns-clause-next c = λ members are.
    let lines = lines_in c.args.lines in
    let number = c.args.number in
    let taken = c.in-Some.taken in
    let command = c.in-Some.ensures.whole number in
    rw c.refused.ensures
    (next-barred c.args.has_load number lines (fields_in c.get-opening.result) c.get-opening.ensures taken command.0
    members c.requires.some are (closed-means number (take taken lines) (drop taken lines) command.0 command.1)
    (sym c.if-not-is_barred.ensures))
