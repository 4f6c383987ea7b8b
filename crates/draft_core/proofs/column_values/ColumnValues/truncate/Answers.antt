use Rattle.std.proofs.Common.{◌∙◌, ap, map, sym, take}
use Rattle.std.proofs.lemmas.List.{take-map}
use Rattle.draft_core.specs.Columns.{values_of_column}
use Rattle.row_core.specs.declared.value.Value.TheVariants.{Int, Text}
use Rattle.draft_core.proofs.column_values.ColumnValues.truncate.Goals as goal

pub returns-in-Numbers-clause-values : goal.returns-in-Numbers-clause-values
returns-in-Numbers-clause-values c =
    ap (map Int) c.truncate.ensures.items ∙ sym (take-map Int c.args.count c.in-Numbers.numbers.items)
    ∙ ap (λ column. take c.args.count (values_of_column column)) (sym c.in-Numbers.is)

pub returns-in-Texts-clause-values : goal.returns-in-Texts-clause-values
returns-in-Texts-clause-values c =
    ap (map Text) c.truncate-in-Texts.ensures ∙ sym (take-map Text c.args.count c.in-Texts.texts)
    ∙ ap (λ column. take c.args.count (values_of_column column)) (sym c.in-Texts.is)
