use Rattle.std.proofs.Common.{◌≡◌, ◌≤◌, ◌+◌, ◌∙◌, ◌++◌, ◌∷◌, [], Some, ap, append-nil, append_assoc, arith, get_or, length, length-append, length-take-le, map, set, subst, sym, take}
use Rattle.std.specs.Prelude.{pos, slice_get}
use Rattle.std.proofs.lemmas.List.{length-map, nil_from_length, take_all}
use Rattle.std.proofs.lemmas.Option.{slice_get-get_or}
use Rattle.row_core.specs.declared.value.Value.TheVariants.{Int}
use Rattle.list_core.proofs.PlaceLemmas.{slice_get-take}
use Rattle.draft_core.specs.Columns.{AreLong, kind_of_column, values_at, values_of_column}
use Rattle.draft_core.proofs.ColumnLemmas.{inside-both, next-there, same_at, step-kept, step-longer, step-values, values_at-more}
use Rattle.draft_core.proofs.columns.append_values.Goals as goal

pub append-requires : goal.append-requires
append-requires c =
    let inv = c.loop-values.invariant in
    let more = c.args.more.items in
    let (at, inside) = next-there more c.loop-values.yielded c.loop-values.values-iterator.rest.items
    c.next.new.self.rest.items c.in-Some.values c.loop-values.place inv.whole c.in-Some.ensures.steps.0 inv.place in
    same_at kind_of_column kind_of_column more c.loop-values.columns.items c.loop-values.place c.in-Some.values
    c.index_mut.result.now (c.requires.kinds ∙ sym inv.kept.0) inside at c.index_mut.ensures.value

pub returns-in_err-append-clause-kept : goal.returns-in_err-append-clause-kept
returns-in_err-append-clause-kept c =
    let inv = c.loop-values.invariant in
    let more = c.args.more.items in
    let columns = c.loop-values.columns.items in
    let place = c.loop-values.place in
    let (at, inside) = next-there more c.loop-values.yielded c.loop-values.values-iterator.rest.items
    c.next.new.self.rest.items c.in-Some.values place inv.whole c.in-Some.ensures.steps.0 inv.place in
    let there = inside-both kind_of_column kind_of_column more columns place (c.requires.kinds ∙ sym inv.kept.0) inside in
    (step-kept c.args.count place c.args.columns.now.items columns c.append.new.self c.index_mut.result.now [] inv.kept
    inv.long there c.index_mut.ensures.value c.in_err-append.ensures.kind
    (c.in_err-append.ensures.err ∙ sym (append-nil _))).0

pub loop-values-preserved : goal.loop-values-preserved
loop-values-preserved c =
    let inv = c.loop-values.invariant in
    let more = c.args.more.items in
    let columns = c.loop-values.columns.items in
    let place = c.loop-values.place in
    let count = c.args.count in
    let more_count = c.args.more_count in
    let values = c.in-Some.values in
    let yielded = c.loop-values.yielded in
    let rest = c.next.new.self.rest.items in
    let (at, inside) = next-there more yielded c.loop-values.values-iterator.rest.items rest values place inv.whole
    c.in-Some.ensures.steps.0 inv.place in
    let there = inside-both kind_of_column kind_of_column more columns place (c.requires.kinds ∙ sym inv.kept.0) inside in
    let now = c.index_mut.result.now in
    let now_at = c.index_mut.ensures.value in
    let is = c.in_ok-append.ensures.ok in
    let added = take more_count (values_of_column values) in
    let long : more_count ≤ length (values_of_column values) =
    subst (λ x. more_count ≤ length (values_of_column x)) (sym at) (c.requires.more place values inside) in
    let size : length added ≡ more_count = length-take-le more_count (values_of_column values) long in
    let step = step-kept count place c.args.columns.now.items columns c.append.new.self now added inv.kept inv.long there
    now_at c.in_ok-append.ensures.kind is in
    record {
      place = omega (arith, inv.place, length-append yielded (values ∷ []));
      whole = inv.whole ∙ ap (λ l. yielded ++ l) c.in-Some.ensures.steps.0 ∙ sym (append_assoc yielded (values ∷ []) rest);
      kept = step.0;
      long = step.1;
      longer = subst (λ n. AreLong (count + n) (take (place + 1) (set columns place c.append.new.self))) size
          (step-longer count place columns c.append.new.self now added inv.long there now_at is
          (subst (λ n. AreLong (count + n) (take place columns)) (sym size) inv.longer));
      same = λ i before.
          let value = get_or (values_of_column values) i (Int (pos 0)) in
          let here : slice_get added i ≡ Some value =
          slice_get-take more_count (values_of_column values) i before
          ∙ slice_get-get_or (values_of_column values) i (Int (pos 0)) (omega (arith, before, long)) in
          step-values count place i columns c.append.new.self now added value inv.long there now_at is here
          ∙ ap (λ l. l ++ value ∷ []) (inv.same i before)
          ∙ sym (values_at-more i yielded values value
          (slice_get-get_or (values_of_column values) i (Int (pos 0)) (omega (arith, before, long))));
    }

-- the loop has handled all columns
pub returns-clause-ok : goal.returns-clause-ok
returns-clause-ok c =
    let inv = c.loop-values.invariant in
    let rest = c.loop-values.values-iterator.rest in
    let columns = c.loop-values.columns.items in
    let none : rest.items ≡ [] = nil_from_length rest.items (omega (arith, c.in-None.ensures.steps.0, rest.ok)) in
    let sizes = ap length (c.requires.kinds ∙ sym inv.kept.0) in
    let whole = ap length (inv.whole ∙ ap (λ l. c.loop-values.yielded ++ l) none) in
    let all : length columns ≤ c.loop-values.place =
    omega (
      arith,
      sizes,
      whole,
      inv.place,
      length-append c.loop-values.yielded [],
      length-map c.args.more.items kind_of_column,
      length-map columns kind_of_column,
    ) in
    subst (AreLong (c.args.count + c.args.more_count)) (take_all c.loop-values.place columns all) inv.longer

pub returns-clause-values : goal.returns-clause-values
returns-clause-values c =
    let inv = c.loop-values.invariant in
    let rest = c.loop-values.values-iterator.rest in
    let columns = c.loop-values.columns.items in
    let none : rest.items ≡ [] = nil_from_length rest.items (omega (arith, c.in-None.ensures.steps.0, rest.ok)) in
    let sizes = ap length (c.requires.kinds ∙ sym inv.kept.0) in
    let more = inv.whole ∙ ap (λ l. c.loop-values.yielded ++ l) none ∙ append-nil c.loop-values.yielded in
    let all : length columns ≤ c.loop-values.place =
    omega (
      arith,
      sizes,
      ap length more,
      inv.place,
      length-map c.args.more.items kind_of_column,
      length-map columns kind_of_column,
    ) in
    λ i before.
    ap (λ l. values_at (map values_of_column l) (c.args.count + i)) (sym (take_all c.loop-values.place columns all))
    ∙ inv.same i before
    ∙ ap (λ l. values_at (map values_of_column l) i) (sym more)
