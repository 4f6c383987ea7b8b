use Rattle.std.proofs.Common.{refl, arith}
use Rattle.std.specs.Prelude.{filter}
use Rattle.version_core.specs.Finding.{passes}
use Rattle.version_core.specs.OpenVersions.{is_open}
use Rattle.version_core.proofs.IndexLemmas.{index-swept, index-written, swept-open}
use Rattle.version_core.proofs.index.Index.drop_closed.Goals as goal

pub returns-clause-index : goal.returns-clause-index
returns-clause-index c =
    let whole = c.requires.index.whole in
    let written =
    index-written c.args.self.now.buckets.items c.args.bucket c.index_mut.result.now c.drop_closed.new.self
    (filter (passes c.args.versions.now is_open))
    (omega (arith, c.requires.few, whole)) c.index_mut.ensures.value c.drop_closed.ensures in
    index-swept c.args.versions.now c.args.self.now _ c.args.bucket c.requires.few refl written c.requires.index

pub returns-clause-open : goal.returns-clause-open
returns-clause-open c =
    swept-open c.args.versions.now c.args.self.now.buckets.items c.args.bucket c.index_mut.result.now
    c.drop_closed.new.self (omega (arith, c.requires.few, c.requires.index.whole)) c.drop_closed.ensures
