use Rattle.std.proofs.Common.{◌≡◌, ◌∙◌, ◌++◌, ◌∷◌, [], ap, map, of_z, rules, sym, to_z, w64}
use Rattle.std.proofs.lemmas.List.{map-append}
use Rattle.draft_core.specs.Columns.{kind_of_column, values_of_column}
use Rattle.row_core.specs.Value.{value_of}
use Rattle.row_core.specs.declared.value.Value.{Value}
use Rattle.row_core.specs.declared.value.Value.TheVariants.{Int, Text}
use Rattle.draft_core.proofs.column_values.ColumnValues.read.Goals as goal

pub returns-in_ok-push_number-in-Numbers-clause-ok : goal.returns-in_ok-push_number-in-Numbers-clause-ok
returns-in_ok-push_number-in-Numbers-clause-ok c =
    let number = c.in_ok-number_of-in-Numbers.field-0 in
    let value : Value = Int number in
    let same : to_z w64 (of_z w64 number) ≡ number = search rules in
    let kind = sym c.truncate.ensures.kind ∙ ap kind_of_column c.in-Numbers.is in (
      value,
      ap (λ k. value_of k c.args.bytes.now) kind ∙ c.in_ok-number_of-in-Numbers.ensures.ok,
      ap (map Int) c.in_ok-push_number-in-Numbers.ensures.ok
          ∙ ap (λ n. map Int (c.in-Numbers.numbers.items ++ n ∷ [])) same
          ∙ map-append Int c.in-Numbers.numbers.items (number ∷ [])
          ∙ ap (λ column. values_of_column column ++ value ∷ []) (sym c.in-Numbers.is)
          ∙ ap (λ l. l ++ value ∷ []) c.truncate.ensures.values,
    )

pub returns-in_ok-push-in-Texts-clause-ok : goal.returns-in_ok-push-in-Texts-clause-ok
returns-in_ok-push-in-Texts-clause-ok c =
    let value : Value = Text c.in_ok-text_of-in-Texts.field-0.now in
    let kind = sym c.truncate.ensures.kind ∙ ap kind_of_column c.in-Texts.is in (
      value,
      ap (λ k. value_of k c.args.bytes.now) kind ∙ c.in_ok-text_of-in-Texts.ensures.ok,
      ap (map Text) c.in_ok-push-in-Texts.ensures.ok
          ∙ map-append Text c.in-Texts.texts (c.in_ok-text_of-in-Texts.field-0.now ∷ [])
          ∙ ap (λ column. values_of_column column ++ value ∷ []) (sym c.in-Texts.is)
          ∙ ap (λ l. l ++ value ∷ []) c.truncate.ensures.values,
    )
