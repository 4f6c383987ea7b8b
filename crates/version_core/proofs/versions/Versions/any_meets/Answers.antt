use Rattle.std.proofs.Common.{◌≡◌, ◌<◌, ◌∙◌, ◌||◌, Bool, ap, arith, get_or, length, sym}
use Rattle.std.specs.List.{list_any}
use Rattle.std.proofs.lemmas.List.Folds.{list_any_at, list_any_more}
use Rattle.std.proofs.lemmas.Option.{get_or_from_slice_get}
use Rattle.draft_core.specs.Lent.{lent_draft}
use Rattle.row_core.specs.declared.draft.Draft.{Draft}
use Rattle.version_core.specs.Collisions.{collide}
use Rattle.version_core.specs.Keys.{rows_left}
use Rattle.version_core.specs.OpenVersions.{current}
use Rattle.version_core.proofs.versions.Versions.any_meets.Goals as goal

pub returns-then-any_collides : goal.returns-then-any_collides
returns-then-any_collides c =
    let meets : Draft
    → Bool = λ other. list_any (λ left. collide c.args.index.now.columns.items left other)
    (rows_left c.args.change.now (current c.args.self.now)) in
    let new = lent_draft c.at.result in
    let there = get_or_from_slice_get c.args.new.now c.loop-i.i new new c.at.ensures in
    let inside : c.loop-i.i < length c.args.new.now = omega (arith, c.loop-i-test.true, c.len-i-end.ensures) in
    let met : meets new ≡ c.any_collides.result =
    sym (c.any_collides.ensures
    ∙ ap (λ vs. list_any (λ left. collide c.args.index.now.columns.items left new)
    (rows_left c.args.change.now (current vs))) c.self.view_is) in
    sym (list_any_at meets c.args.new.now c.loop-i.i new inside
    (ap meets there ∙ met ∙ c.if-any_collides.true))

pub loop-i-preserved : goal.loop-i-preserved
loop-i-preserved c =
    let meets : Draft
    → Bool = λ other. list_any (λ left. collide c.args.index.now.columns.items left other)
    (rows_left c.args.change.now (current c.args.self.now)) in
    let new = lent_draft c.at.result in
    let there = get_or_from_slice_get c.args.new.now c.loop-i.i new new c.at.ensures in
    let inside : c.loop-i.i < length c.args.new.now = omega (arith, c.loop-i-test.true, c.len-i-end.ensures) in
    let apart : meets new ≡ c.any_collides.result =
    sym (c.any_collides.ensures
    ∙ ap (λ vs. list_any (λ left. collide c.args.index.now.columns.items left new)
    (rows_left c.args.change.now (current vs))) c.self.view_is) in
    list_any_more meets c.args.new.now c.loop-i.i new inside
    ∙ ap (λ b. b || meets (get_or c.args.new.now c.loop-i.i new)) c.loop-i.invariant
    ∙ ap meets there ∙ apart ∙ c.if-any_collides.false
