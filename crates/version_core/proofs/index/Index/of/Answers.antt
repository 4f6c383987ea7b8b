use Rattle.version_core.proofs.IndexLemmas.{index-empty}
use Rattle.version_core.proofs.index.Index.of.Goals as goal

pub extend-requires-clause-before : goal.extend-requires-clause-before
extend-requires-clause-before c = index-empty _ c.in_ok-empty_buckets.ensures.whole c.in_ok-empty_buckets.ensures.empty
