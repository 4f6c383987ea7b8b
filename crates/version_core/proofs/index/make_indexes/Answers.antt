use Rattle.version_core.proofs.index.make_indexes.Goals as goal

pub returns-clause-kept : goal.returns-clause-kept
returns-clause-kept c = c.loop-column.invariant.kept
