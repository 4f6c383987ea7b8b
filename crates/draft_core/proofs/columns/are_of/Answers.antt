use Rattle.std.proofs.Common.{◌≡◌, ◌<◌, ◌∙◌, ap, arith, false, length, sym, true}
use Rattle.std.proofs.lemmas.List.{length-map}
use Rattle.draft_core.specs.Columns.{kind_of_column}
use Rattle.row_core.specs.Value.{kind_of}
use Rattle.draft_core.proofs.ColumnLemmas.{same_at}
use Rattle.draft_core.proofs.KindLemmas.{false-where_not, same_kind-self}
use Rattle.draft_core.proofs.columns.are_of.Goals as goal

pub returns-then-values-columns : goal.returns-then-values-columns
returns-then-values-columns c =
    false-where_not (λ same. omega (
      arith,
      c.if-values-columns.true,
      ap length same,
      length-map c.args.values.now kind_of,
      length-map c.args.columns.now kind_of_column,
    ))

pub returns-then-not-is_of : goal.returns-then-not-is_of
returns-then-not-is_of c =
    let values = c.args.values.now in
    let columns = c.args.columns.now in
    let inside : c.loop-i.i < length values = omega arith in
    false-where_not (λ same.
    let kind = same_at kind_of kind_of_column values columns c.loop-i.i c.index-values-i.result c.index-columns-i.result
    same inside c.index-values-i.is c.index-columns-i.is in
    let never : false ≡ true = sym c.if-not-is_of.true ∙ c.is_of.ensures
    ∙ same_kind-self c.kind.result (kind_of c.index-values-i.result) (c.kind.ensures ∙ sym kind) in cc)
