use Rattle.list_core.proofs.CutLemmas.{EndsAt-part, slice_get-cut}
use Rattle.command_core.proofs.batch.line_at.Goals as goal

pub new-requires-clause-ordered : goal.new-requires-clause-ordered
new-requires-clause-ordered c =
    rw c.start_of.ensures (EndsAt-part 0 c.args.ends.now _ c.args.place c.requires.ends c.requires.place).0

pub new-requires-clause-within : goal.new-requires-clause-within
new-requires-clause-within c = (EndsAt-part 0 c.args.ends.now _ c.args.place c.requires.ends c.requires.place).1

pub returns : goal.returns
returns c =
    rw c.new.ensures
    (rw c.start_of.ensures
    (slice_get-cut 0 c.args.ends.now c.args.fields.now c.args.place c.requires.place))
