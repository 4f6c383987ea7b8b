use Rattle.std.proofs.Common.{◌≡◌, ◌+◌, ◌∙◌, Some, ap, sym, arith}
use Rattle.draft_core.specs.Lent.{lent_draft}
use Rattle.table_core.specs.Numbered.{row_of}
use Rattle.table_core.proofs.NumberedLemmas.{slice_get-numbered}
use Rattle.table_core.proofs.source.numbered_at.Goals as goal

pub returns : goal.returns
returns c =
    let draft = lent_draft c.at.result in
    let first : 0 + c.args.place + 1 ≡ c.args.place + 1 = omega arith in
    slice_get-numbered 0 c.args.drafts.now c.args.place draft c.at.ensures ∙ ap (λ n. Some (row_of n draft)) first
    ∙ ap Some (sym c.of_draft.ensures)
