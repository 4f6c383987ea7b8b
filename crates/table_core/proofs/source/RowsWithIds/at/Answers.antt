use Rattle.std.proofs.Common.{◌<◌, ◌∙◌, ap, sym, length, arith}
use Rattle.std.specs.Prelude.{slice_get}
use Rattle.draft_core.specs.Lent.{lent_draft}
use Rattle.table_core.proofs.NumberedLemmas.{length-with_ids, slice_get-with_ids}
use Rattle.table_core.proofs.source.RowsWithIds.at.Goals as goal

pub index-requires : goal.index-requires
index-requires c =
    let same = length-with_ids c.self.inside.ids.items c.self.inside.drafts c.self.invariant in
    omega (arith, c.requires, c.self.inside.ids.ok.0, same, ap length c.self.view_is)

pub at-requires : goal.at-requires
at-requires c =
    let same = length-with_ids c.self.inside.ids.items c.self.inside.drafts c.self.invariant in
    omega (arith, c.requires, c.self.invariant, same, ap length c.self.view_is)

pub returns : goal.returns
returns c =
    let ids = c.self.inside.ids.items in
    let drafts = c.self.inside.drafts in
    let same = length-with_ids ids drafts c.self.invariant in
    let inside : c.args.place < length ids = omega (arith, c.requires, same, ap length c.self.view_is) in
    ap (λ rows. slice_get rows c.args.place) (sym c.self.view_is)
    ∙ slice_get-with_ids ids drafts c.args.place c.index.result.now (lent_draft c.at.result) inside c.index.ensures
    c.at.ensures
