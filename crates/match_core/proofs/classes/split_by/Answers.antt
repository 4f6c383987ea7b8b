use Rattle.std.proofs.Common.{◌≡◌, ◌∙◌, ◌++◌, List, Result, Some, ap, sym, subst, ℕ}
use Rattle.std.specs.Prelude.{IfOk, Option}
use Rattle.row_core.specs.Name.{NamePair}
use Rattle.row_core.specs.Schema.{column_of}
use Rattle.row_core.specs.declared.row.Row.{Row}
use Rattle.row_core.specs.declared.schema.Column.{Column}
use Rattle.row_core.specs.declared.value.Value.{Value}
use Rattle.match_core.specs.declared.classes.Classes.{Classes}
use Rattle.match_core.specs.Classes.{values_under}
use Rattle.match_core.specs.Cells.{Refines, values_at}
use Rattle.match_core.proofs.SplitClasses.{columns_one_kind, values_under-places}
use Rattle.match_core.proofs.classes.split_by.Goals as goal

-- splitting by the values at two column indices is splitting by the values under their names
by_names : {E : Type 0} (result : Result Classes E) (left right : List Column) (lefts rights : List Row)
    (pair : NamePair) (l r : ℕ) (old : List ℕ) → column_of left pair.0 ≡ Some l → column_of right pair.1 ≡ Some r
    → IfOk result (λ (new : Classes). Refines old (values_at l r lefts rights) (new.left.items ++ new.right.items))
    → IfOk result (λ (new : Classes).
    Refines old (values_under left right lefts rights pair) (new.left.items ++ new.right.items))
by_names result left right lefts rights pair l r old one other =
    subst
    (λ (column : List (Option Value)).
    IfOk result (λ (new : Classes). Refines old column (new.left.items ++ new.right.items)))
    (sym (values_under-places left right lefts rights pair l r one other))

pub refine-requires-clause-kind : goal.refine-requires-clause-kind
refine-requires-clause-kind g c κs within =
    columns_one_kind c.args.left.side.schema.now c.args.right.side.schema.now c.args.left.side.rows.now c.args.right.side.rows.now
    c.args.pair.now c.in-Some.left_place c.in-Some-column.right_place _ c.requires.allowed c.args.left.side.fit
    c.args.right.side.fit (sym c.in-Some.ensures) (sym c.in-Some-column.ensures)
    (ap Some (sym c.in-Int.is) ∙ c.in-Some-column_kind.ensures)

pub refine-requires-in-Text-clause-kind : goal.refine-requires-in-Text-clause-kind
refine-requires-in-Text-clause-kind g c κs within =
    columns_one_kind c.args.left.side.schema.now c.args.right.side.schema.now c.args.left.side.rows.now c.args.right.side.rows.now
    c.args.pair.now c.in-Some.left_place c.in-Some-column.right_place _ c.requires.allowed c.args.left.side.fit
    c.args.right.side.fit (sym c.in-Some.ensures) (sym c.in-Some-column.ensures)
    (ap Some (sym c.in-Text.is) ∙ c.in-Some-column_kind.ensures)

pub returns-in-Int-clause-split : goal.returns-in-Int-clause-split
returns-in-Int-clause-split g c =
    by_names c.refine.result c.args.left.side.schema.now c.args.right.side.schema.now c.args.left.side.rows.now c.args.right.side.rows.now
    c.args.pair.now c.in-Some.left_place c.in-Some-column.right_place _ (sym c.in-Some.ensures)
    (sym c.in-Some-column.ensures) c.refine.ensures.split

pub returns-in-Text-clause-split : goal.returns-in-Text-clause-split
returns-in-Text-clause-split g c =
    by_names c.refine-in-Text.result c.args.left.side.schema.now c.args.right.side.schema.now c.args.left.side.rows.now
    c.args.right.side.rows.now c.args.pair.now c.in-Some.left_place c.in-Some-column.right_place _ (sym c.in-Some.ensures)
    (sym c.in-Some-column.ensures) c.refine-in-Text.ensures.split
