use Rattle.std.proofs.Common.{◌∙◌, Err, ap}
use Rattle.std.proofs.lemmas.Result.{err_from_is_err_and}
use Rattle.command_core.specs.Command.{meaning_of}
use Rattle.store_core.specs.Snapshots.{history}
use Rattle.script_core.proofs.Answering.{unread-fails}
use Rattle.script_core.proofs.performing.query.Goals as goal

pub returns-in_err-shown : goal.returns-in_err-shown
returns-in_err-shown g c =
    let p = err_from_is_err_and c.from_residual.result c.from_residual.ensures.1 in
    let failed = rw c.asof_in.ensures at c.in_err-shown.ensures in
    unread-fails c.args.number (meaning_of c.args.command) (history c.args.context.now.newest.now)
    c.in_err-shown.field-0.0 c.from_residual.result c.requires.query (p.1 ∙ ap Err p.2) failed.fails failed.newest
