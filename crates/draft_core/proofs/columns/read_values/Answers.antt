use Rattle.std.proofs.Common.{◌≡◌, ◌≤◌, ◌+◌, ◌∙◌, ◌++◌, ◌∷◌, [], None, ap, append-nil, arith, drop, get_or, length, map, refl, set, subst, sym, take}
use Rattle.std.specs.Prelude.{Err}
use Rattle.std.proofs.Math.ListN.{length-map}
use Rattle.std.proofs.lemmas.List.{take_all}
use Rattle.std.proofs.lemmas.Result.{err_from_is_err_and}
use Rattle.draft_core.specs.Columns.{AreLong, kind_of_column, values_at, values_of_column}
use Rattle.row_core.specs.Reading.{values_of}
use Rattle.row_core.specs.Refusals.{IsAnswer, map_ok}
use Rattle.row_core.specs.Value.{value_of}
use Rattle.row_core.specs.declared.schema.Column.{Column}
use Rattle.row_core.specs.declared.value.Kind.TheVariants as kind
use Rattle.row_core.specs.declared.value.Value.{Value}
use Rattle.draft_core.proofs.ColumnLemmas.{inside-both, same_at_any, step-kept, step-longer, step-values}
use Rattle.row_core.proofs.ReadingLemmas.{field-at, field-there, values_of-failed, values_of-push}
use Rattle.draft_core.proofs.columns.read_values.Goals as goal

-- a placeholder for a column past the last
no_column : Column
no_column = record { name = []; kind = kind.Int; key = None }

pub returns-in_err-read-clause-kept : goal.returns-in_err-read-clause-kept
returns-in_err-read-clause-kept g c =
    let values = c.loop-i.values.items in
    let i = c.loop-i.i in
    let inv = c.loop-i.invariant in
    let inside = inside-both (λ (column : Column). column.kind) kind_of_column c.args.columns.now values i
    (c.requires.kinds ∙ sym inv.kept.0) c.loop-i-test.true in
    (step-kept c.args.count i c.args.values.now.items values c.read.new.self c.index_mut.result.now [] inv.kept inv.long
    inside c.index_mut.ensures.value c.in_err-read.ensures.kind (c.in_err-read.ensures.none ∙ sym (append-nil _))).0

pub returns-in_err-read-clause-err : goal.returns-in_err-read-clause-err
returns-in_err-read-clause-err g c =
    let all = g.L.Fields.fields c.args.fields in
    let columns = c.args.columns.now in
    let i = c.loop-i.i in
    let inv = c.loop-i.invariant in
    let p = err_from_is_err_and c.from_residual.result c.from_residual.ensures.1 in
    let field = c.field.result.now in
    let at = field-at all i field c.field.ensures in
    let inside = field-there all i _ c.loop-i-test.true c.requires.fields in
    let kinds = same_at_any (λ (column : Column). column.kind) kind_of_column columns c.loop-i.values.items i no_column
    c.index_mut.result.now (c.requires.kinds ∙ sym inv.kept.0) c.loop-i-test.true c.index_mut.ensures.value in
    rw (p.1, p.2)
    (values_of-failed columns (drop 2 all) i
    (values_at (map values_of_column (take i c.loop-i.values.items)) c.args.count) no_column []
    field _ c.loop-i-test.true inside at
    (subst (λ k. IsAnswer {T = Value} (value_of k field) (Err c.in_err-read.field-0.0)) (sym kinds)
    c.in_err-read.ensures.err) inv.meant)

pub loop-i-preserved : goal.loop-i-preserved
loop-i-preserved g c =
    let all = g.L.Fields.fields c.args.fields in
    let columns = c.args.columns.now in
    let values = c.loop-i.values.items in
    let i = c.loop-i.i in
    let count = c.args.count in
    let inv = c.loop-i.invariant in
    let field = c.field.result.now in
    let at = field-at all i field c.field.ensures in
    let inside = field-there all i _ c.loop-i-test.true c.requires.fields in
    let same = c.requires.kinds ∙ sym inv.kept.0 in
    let there = inside-both (λ (column : Column). column.kind) kind_of_column columns values i same c.loop-i-test.true in
    let now = c.index_mut.result.now in
    let now_at = c.index_mut.ensures.value in
    let kinds = same_at_any (λ (column : Column). column.kind) kind_of_column columns values i no_column now same
    c.loop-i-test.true now_at in
    let (value, is_value, is) = c.in_ok-read.ensures.ok in
    let step = step-kept count i c.args.values.now.items values c.read.new.self now (value ∷ []) inv.kept inv.long there
    now_at c.in_ok-read.ensures.kind is in
    let none : count + 0 ≡ count = omega arith in
    let more = subst (λ n. values_at (map values_of_column (take (i + 1) (set values i c.read.new.self))) n
    ≡ values_at (map values_of_column (take i values)) n ++ value ∷ []) none
    (step-values count i 0 values c.read.new.self now (value ∷ []) value inv.long there now_at is refl) in
    let meant = values_of-push columns (drop 2 all) i
    (values_at (map values_of_column (take i values)) count) no_column [] value c.loop-i-test.true inside
    (ap (value_of (get_or columns i no_column).kind) at ∙ ap (λ k. value_of k field) kinds ∙ is_value)
    inv.meant in
    record {
      kept = step.0;
      long = step.1;
      longer = step-longer count i values c.read.new.self now (value ∷ []) inv.long there now_at is inv.longer;
      meant = meant
          ∙ ap (λ done. map_ok (λ rest. done ++ rest)
          (values_of (drop (i + 1) columns) (drop (i + 1) (drop 2 all)))) (sym more);
    }

pub returns-clause-ok : goal.returns-clause-ok
returns-clause-ok g c =
    let inv = c.loop-i.invariant in
    let values = c.loop-i.values.items in
    let sizes = ap length (c.requires.kinds ∙ sym inv.kept.0) in
    let all : length values ≤ c.loop-i.i =
    omega (
      arith,
      sizes,
      c.loop-i-test.false,
      length-map c.args.columns.now (λ (column : Column). column.kind),
      length-map values kind_of_column,
    ) in
    subst (AreLong (c.args.count + 1)) (take_all c.loop-i.i values all) inv.longer
