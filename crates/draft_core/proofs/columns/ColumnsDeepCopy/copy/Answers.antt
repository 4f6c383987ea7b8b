use Rattle.std.proofs.Common.{◌∙◌, ap, length, map, subst, sym}
use Rattle.draft_core.specs.Columns.{AreLong, values_of_column}
use Rattle.draft_core.proofs.ColumnLemmas.{long-same}
use Rattle.draft_core.proofs.columns.ColumnsDeepCopy.copy.Goals as goal

pub invariant_of-result : goal.invariant_of-result
invariant_of-result c =
    let size = ap length (c.in_ok-from_slice.ensures.items ∙ c.deref.ensures.value) in
    let copies = c.in_ok-copy_columns.field-0.items in
    let same = c.in_ok-copy_columns.ensures.values ∙ ap (map values_of_column) c.deref-2.ensures.value in
    subst (λ n. AreLong n copies) (sym size)
    (long-same (length c.self.inside.periods.items) c.self.inside.values.items copies same c.self.invariant)
