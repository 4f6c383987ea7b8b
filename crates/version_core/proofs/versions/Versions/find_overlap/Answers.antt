use Rattle.std.proofs.Common.{◌∙◌, ◌||◌, ◌++◌, ap, map, sym}
use Rattle.std.proofs.lemmas.Result.{IfOk-weaker}
use Rattle.draft_core.specs.Lent.{lent_draft}
use Rattle.version_core.specs.Collisions.{collide, have_collision}
use Rattle.version_core.proofs.AddedRows.{have_meeting, pairs-added}
use Rattle.version_core.specs.Keys.{rows_left}
use Rattle.version_core.specs.OpenVersions.{current}
use Rattle.version_core.proofs.KeyLemmas.{left-apart}
use Rattle.version_core.proofs.versions.Versions.find_overlap.Goals as goal

pub any_meets-requires-clause-unbroken : goal.any_meets-requires-clause-unbroken
any_meets-requires-clause-unbroken c = rw c.in-Some.ensures.1 c.requires.unbroken

pub returns-then-among_new : goal.returns-then-among_new
returns-then-among_new c =
    let alone = ap (λ left. have_collision c.args.key.now (map lent_draft left ++ c.args.new.now)) c.new.ensures.items in
    c.if-among_new.true
    ∙ ap (λ t. t || have_meeting (collide c.args.key.now)
    (rows_left c.args.change.now (current c.args.self.now)) c.args.new.now)
    (sym (sym (c.in_ok-among_new-in-Some.ensures ∙ alone) ∙ c.if-among_new.true))
    ∙ pairs-added (collide c.args.key.now)
    (rows_left c.args.change.now (current c.args.self.now)) c.args.new.now
    (left-apart c.args.change.now c.args.key.now
    (current c.args.self.now) c.requires.unbroken)

pub returns-else-among_new : goal.returns-else-among_new
returns-else-among_new c =
    let alone = ap (λ left. have_collision c.args.key.now (map lent_draft left ++ c.args.new.now)) c.new.ensures.items in
    rw c.in-Some.ensures.1 at c.any_meets.ensures
    ∙ ap (λ t. t || have_meeting (collide c.args.key.now)
    (rows_left c.args.change.now (current c.args.self.now)) c.args.new.now)
    (sym (sym (c.in_ok-among_new-in-Some.ensures ∙ alone) ∙ c.if-among_new.false))
    ∙ pairs-added (collide c.args.key.now)
    (rows_left c.args.change.now (current c.args.self.now)) c.args.new.now
    (left-apart c.args.change.now c.args.key.now
    (current c.args.self.now) c.requires.unbroken)

pub rows_left-requires : goal.rows_left-requires
rows_left-requires c = rw c.as_slice.ensures c.self.invariant.found.all

pub returns-in_ok-left-in-None : goal.returns-in_ok-left-in-None
returns-in_ok-left-in-None c =
    IfOk-weaker c.collide_among-in-None.result _ _
    (λ overlap e. e
    ∙ ap (λ left. have_collision c.args.key.now (left ++ c.args.new.now)) c.in_ok-left-in-None.ensures
    ∙ ap (λ vs. have_collision c.args.key.now
    (rows_left c.args.change.now (current vs) ++ c.args.new.now))
    c.self.view_is)
    c.collide_among-in-None.ensures
