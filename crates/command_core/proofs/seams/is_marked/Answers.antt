use Rattle.command_core.proofs.SeamLemmas.{marked_or_not}
use Rattle.command_core.proofs.seams.is_marked.Goals as goal

pub returns : goal.returns
returns c = rw (c.starts_with.ensures.value, c.as_slice.ensures) (marked_or_not c.args.text.now)
