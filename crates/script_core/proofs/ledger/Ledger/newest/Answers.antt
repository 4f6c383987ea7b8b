use Rattle.std.proofs.Common.{◌∙◌, None, Ok, ap, length, subst, sym}
use Rattle.book_core.specs.History.{History}
use Rattle.store_core.specs.Snapshots.{Shows}
use Rattle.store_core.proofs.Alone.{keeps-alone}
use Rattle.script_core.proofs.ledger.Ledger.newest.Goals as goal

pub returns-in-Ok-clause-same : goal.returns-in-Ok-clause-same
returns-in-Ok-clause-same g c =
    keeps-alone c.args.self.now.pass c.snapshot.new.pass c.args.self.now.one c.in-Ok.ensures.reply.0

pub returns-in-Ok-clause-shows : goal.returns-in-Ok-clause-shows
returns-in-Ok-clause-shows g c =
    let shows = subst (λ (h : History). Shows h None (Ok c.in-Ok.snapshot)) (returns-in-Ok-clause-same g c)
    c.in-Ok.ensures.reply.1 in
    (shows.0, shows.1 ∙ ap length (sym shows.0))

pub returns-in-Err-NoMemory-clause-same : goal.returns-in-Err-NoMemory-clause-same
returns-in-Err-NoMemory-clause-same g c =
    let reply = rw c.in-Err-NoMemory.field-0-is at c.in-Err-NoMemory.ensures.reply in
    keeps-alone c.args.self.now.pass c.snapshot.new.pass c.args.self.now.one reply.0
