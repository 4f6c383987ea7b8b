use Rattle.std.proofs.Common.{◌∙◌, ◌++◌, ◌∷◌, [], ap}
use Rattle.row_core.specs.declared.draft.Draft.{Draft}
use Rattle.table_core.specs.Numbered.{with_ids}
use Rattle.table_core.proofs.NumberedLemmas.{with_ids-push}
use Rattle.table_core.proofs.source.RowsWithIds.push.Goals as goal

pub returns : goal.returns
returns c =
    let ids = c.self.inside.ids.items in
    let drafts = c.self.inside.drafts in
    let draft : Draft = record { period = c.args.row.period; values = c.args.row.values } in
    ap (λ l. with_ids l c.push-2.new.self) c.in_ok-push.ensures.items
    ∙ ap (with_ids (ids ++ c.args.row.id ∷ [])) c.in_default.ensures.ok
    ∙ with_ids-push ids drafts c.args.row.id draft c.self.invariant
    ∙ ap (λ rows. rows ++ c.args.row ∷ []) c.self.view_is
