use Rattle.std.proofs.Common.{◌∙◌, ◌++◌, ◌∷◌, [], ap, append_assoc, map, take}
use Rattle.std.proofs.lemmas.List.{map-append}
use Rattle.draft_core.specs.Lent.{lent_draft}
use Rattle.table_core.proofs.PlaceLemmas.{take-one_more}
use Rattle.version_core.proofs.keys.push_rows.Goals as goal

pub loop-i-preserved : goal.loop-i-preserved
loop-i-preserved c =
    let before = map lent_draft c.args.rows.now.items in
    let row = lent_draft c.at.result in
    ap (map lent_draft) c.in_default.ensures.items
    ∙ map-append lent_draft c.loop-i.rows.items (c.at.result ∷ [])
    ∙ ap (λ l. l ++ row ∷ []) c.loop-i.invariant
    ∙ append_assoc before (take c.loop-i.i c.args.new.now) (row ∷ [])
    ∙ ap (λ l. before ++ l) (take-one_more c.args.new.now c.loop-i.i row c.at.ensures)
