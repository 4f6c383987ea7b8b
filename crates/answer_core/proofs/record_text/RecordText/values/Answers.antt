use Rattle.std.proofs.Common.{◌≡◌, ◌∙◌, ◌++◌, Some, ap, map, sym, take, append-nil, append_assoc}
use Rattle.std.specs.Prelude.{option_map, slice_get}
use Rattle.std.proofs.lemmas.Option.{get_or_from_slice_get, slice_get_within}
use Rattle.csv.specs.Writing.{fields_text}
use Rattle.row_core.specs.Lent.{lent_value}
use Rattle.table_core.specs.Lent.{lent_row}
use Rattle.answer_core.specs.PrintedRecords.{value_text}
use Rattle.answer_core.specs.RecordBytes.{answer_writer, field_behind}
use Rattle.answer_core.proofs.FieldLemmas.{fields_so_far}
use Rattle.answer_core.proofs.record_text.RecordText.values.Goals as goal

pub loop-column-init : goal.loop-column-init
unfolding fields_text
loop-column-init c = sym (append-nil c.args.self.now)

pub loop-column-preserved : goal.loop-column-preserved
loop-column-preserved c =
    let values = (lent_row c.args.row).values in
    let i = c.loop-column.column in
    let v = lent_value c.in-Some.value in
    let old = c.args.self.now in
    let front = fields_text answer_writer (map value_text (take i values)) in
    let at : slice_get values i ≡ Some v = sym c.value.ensures ∙ ap (option_map lent_value) c.in-Some.is in
    c.in_ok-value.ensures
    ∙ (ap (λ t. t ++ field_behind (value_text v)) c.loop-column.invariant
    ∙ (append_assoc old front (field_behind (value_text v))
    ∙ ap (λ t. old ++ t)
    (ap (λ x. front ++ field_behind (value_text x)) (sym (get_or_from_slice_get values i v v at))
    ∙ sym (fields_so_far value_text values i v (slice_get_within values i v at)))))
