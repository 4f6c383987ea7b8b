use Rattle.std.proofs.Common.{◌∙◌, ap}
use Rattle.book_core.specs.Versions.{log_of}
use Rattle.store_core.proofs.Alone.{keeps-alone}
use Rattle.script_core.proofs.ledger.Ledger.log.Goals as goal

pub returns-in-Ok-clause-same : goal.returns-in-Ok-clause-same
returns-in-Ok-clause-same g c =
    keeps-alone c.args.self.now.pass c.log.new.pass c.args.self.now.one c.in-Ok.ensures.reply.0

pub returns-in-Ok-clause-reported : goal.returns-in-Ok-clause-reported
returns-in-Ok-clause-reported g c = c.in-Ok.ensures.reply.1 ∙ ap log_of (returns-in-Ok-clause-same g c)

pub returns-in-Err-NoMemory-clause-same : goal.returns-in-Err-NoMemory-clause-same
returns-in-Err-NoMemory-clause-same g c =
    let counts = rw c.in-Err-NoMemory.field-0-is at c.in-Err-NoMemory.ensures.reply in
    keeps-alone c.args.self.now.pass c.log.new.pass c.args.self.now.one counts
