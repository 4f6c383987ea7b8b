use Rattle.std.proofs.Common.{◌∙◌, ◌++◌, ap, sym, map}
use Rattle.std.proofs.lemmas.Result.{IfOk-weaker}
use Rattle.version_core.specs.Collisions.{have_collision}
use Rattle.version_core.specs.Keys.{rows_left}
use Rattle.version_core.specs.OpenVersions.{current}
use Rattle.version_core.specs.Rows.{drafts_of}
use Rattle.table_core.specs.Numbered.{unnumbered}
use Rattle.version_core.proofs.KeyLemmas.{keyed-breaks}
use Rattle.version_core.proofs.OpenLemmas.{newly}
use Rattle.version_core.proofs.versions.Versions.leaves_overlap.Goals as goal

pub find_overlap-requires : goal.find_overlap-requires
find_overlap-requires c = record {
  unbroken = sym (keyed-breaks c.args.key.now (map unnumbered (current c.args.self.now))
      (c.may_overlap.ensures.keyed c.if-may_overlap.true)) ∙ c.requires.unbroken;
}

pub returns-then-may_overlap : goal.returns-then-may_overlap
returns-then-may_overlap c =
    let key = c.args.key.now in
    let left = rows_left c.args.change.now (current c.args.self.now) in
    let made = drafts_of c.args.change.now (current c.args.self.now) in
    IfOk-weaker c.find_overlap.result _ _
    (λ overlap e. e
    ∙ ap (λ l. have_collision key (left ++ l))
    (newly c.args.change.now c.args.self.now c.args.parts.now c.rows_made.result.now
    c.rows_made.ensures c.requires.parts)
    ∙ sym (keyed-breaks key (left ++ made) (c.may_overlap.ensures.keyed c.if-may_overlap.true)))
    c.find_overlap.ensures
