use Rattle.std.proofs.Common.{rules, ◌≡◌, ◌<◌, ◌∙◌, ap, arith, false, length, sym, true}
use Rattle.std.proofs.lemmas.List.{length-map}
use Rattle.draft_core.specs.Columns.{kind_of_column}
use Rattle.row_core.specs.Value.{same_kind}
use Rattle.draft_core.proofs.ColumnLemmas.{same_at}
use Rattle.draft_core.proofs.KindLemmas.{false-where_not, same_kind-self}
use Rattle.draft_core.proofs.columns.are_like.Goals as goal

pub returns-then-others-columns : goal.returns-then-others-columns
returns-then-others-columns c =
    false-where_not (λ same. omega (
      arith,
      c.if-others-columns.true,
      ap length same,
      length-map c.args.others.now kind_of_column,
      length-map c.args.columns.now kind_of_column,
    ))

pub returns-then-ne : goal.returns-then-ne
returns-then-ne c =
    let others = c.args.others.now in
    let columns = c.args.columns.now in
    let inside : c.loop-i.i < length others = omega arith in
    let other : same_kind c.kind.result c.kind-in-loop-i.result ≡ false = search rules in
    false-where_not (λ same.
    let kind = same_at kind_of_column kind_of_column others columns c.loop-i.i c.index-others-i.result
    c.index-columns-i.result same inside c.index-others-i.is c.index-columns-i.is in
    let never : false ≡ true = sym other
    ∙ same_kind-self c.kind.result c.kind-in-loop-i.result (c.kind.ensures ∙ kind ∙ sym c.kind-in-loop-i.ensures) in cc)
