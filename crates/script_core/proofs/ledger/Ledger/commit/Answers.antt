use Rattle.store_core.proofs.Alone.{commits-alone, refuses-alone, runs_out-alone}
use Rattle.script_core.proofs.ledger.Ledger.commit.Goals as goal

pub returns-in-Ok-clause-made : goal.returns-in-Ok-clause-made
returns-in-Ok-clause-made g c =
    commits-alone c.args.self.now.pass c.commit.new.pass c.args.self.now.one c.args.change c.in-Ok.number
    c.in-Ok.ensures.reply

pub returns-in-Err-Refused-Book-clause-made : goal.returns-in-Err-Refused-Book-clause-made
returns-in-Err-Refused-Book-clause-made g c =
    let refused = rw c.in-Err-Refused-Book.field-0-is at c.in-Err-Refused-Book.ensures.reply in
    let reply = rw c.in-Err-Refused-Book.field-0-0-is at refused in
    refuses-alone c.args.self.now.pass c.commit.new.pass c.args.self.now.one c.args.change c.in-Err-Refused-Book.why
    reply

pub returns-in-Err-NoMemory-clause-made : goal.returns-in-Err-NoMemory-clause-made
returns-in-Err-NoMemory-clause-made g c =
    let reply = rw c.in-Err-NoMemory.field-0-is at c.in-Err-NoMemory.ensures.reply in
    runs_out-alone c.args.self.now.pass c.commit.new.pass c.args.self.now.one c.args.change reply
