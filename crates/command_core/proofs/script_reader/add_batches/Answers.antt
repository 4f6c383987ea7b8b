use Rattle.std.proofs.Common.{◌∙◌, ◌++◌, ap, append-nil, append_assoc, sym}
use Rattle.command_core.specs.Seams.{joined}
use Rattle.command_core.proofs.BatchLemmas.{joined-push}
use Rattle.command_core.proofs.script_reader.add_batches.Goals as goal

pub loop-piece-init : goal.loop-piece-init
loop-piece-init c = sym (append-nil (joined c.args.batches.now.items))

pub loop-piece-preserved : goal.loop-piece-preserved
loop-piece-preserved c =
    let before = joined c.args.batches.now.items in
    let piece = c.in-Some.piece in
    c.in_ok-move_behind.ensures
    ∙ ap (λ l. l ++ piece) c.loop-piece.invariant
    ∙ append_assoc before (joined c.loop-piece.yielded) piece
    ∙ ap (λ l. before ++ l) (sym (joined-push c.loop-piece.yielded piece))
