use Rattle.std.proofs.Common.{◌≡◌, ◌+◌, ◌∙◌, ◌++◌, ◌∷◌, [], ap, append-nil, arith, map, refl, set, subst, sym, take}
use Rattle.std.proofs.lemmas.List.{take_more}
use Rattle.draft_core.specs.Columns.{kind_of_column, values_at, values_of_column}
use Rattle.row_core.specs.Value.{kind_of}
use Rattle.draft_core.proofs.ColumnLemmas.{inside-both, same_at, step-kept, step-longer, step-values}
use Rattle.draft_core.proofs.columns.push_values.Goals as goal

pub push-requires : goal.push-requires
push-requires c =
    let columns = c.loop-i.columns.items in
    let same = c.requires.kinds ∙ sym c.loop-i.invariant.kept.0 in
    let values = c.args.values.now in
    same_at kind_of kind_of_column values columns c.loop-i.i c.index-values-i.result c.index_mut.result.now same
    c.loop-i-test.true c.index-values-i.is c.index_mut.ensures.value

pub returns-in_err-push-clause-kept : goal.returns-in_err-push-clause-kept
returns-in_err-push-clause-kept c =
    let columns = c.loop-i.columns.items in
    let inside = inside-both kind_of kind_of_column c.args.values.now columns c.loop-i.i
    (c.requires.kinds ∙ sym c.loop-i.invariant.kept.0) c.loop-i-test.true in
    (step-kept c.args.count c.loop-i.i c.args.columns.now.items columns c.push.new.self c.index_mut.result.now []
    c.loop-i.invariant.kept c.loop-i.invariant.long inside c.index_mut.ensures.value c.in_err-push.ensures.kind
    (c.in_err-push.ensures.err ∙ sym (append-nil _))).0

pub loop-i-preserved : goal.loop-i-preserved
loop-i-preserved c =
    let columns = c.loop-i.columns.items in
    let value = c.index-values-i.result in
    let count = c.args.count in
    let i = c.loop-i.i in
    let inv = c.loop-i.invariant in
    let inside = inside-both kind_of kind_of_column c.args.values.now columns i (c.requires.kinds ∙ sym inv.kept.0)
    c.loop-i-test.true in
    let at = c.index_mut.ensures.value in
    let now = c.index_mut.result.now in
    let is = c.in_ok-push.ensures.ok in
    let step = step-kept count i c.args.columns.now.items columns c.push.new.self now (value ∷ []) inv.kept inv.long inside
    at c.in_ok-push.ensures.kind is in
    let none : count + 0 ≡ count = omega arith in
    record {
      kept = step.0;
      long = step.1;
      longer = step-longer count i columns c.push.new.self now (value ∷ []) inv.long inside at is inv.longer;
      same = subst (λ n. values_at (map values_of_column (take (i + 1) (set columns i c.push.new.self))) n
          ≡ values_at (map values_of_column (take i columns)) n ++ value ∷ []) none
          (step-values count i 0 columns c.push.new.self now (value ∷ []) value inv.long inside at is refl)
          ∙ ap (λ l. l ++ value ∷ []) inv.same
          ∙ sym (take_more c.args.values.now i value c.loop-i-test.true
          ∙ ap (λ x. take i c.args.values.now ++ x ∷ []) (sym c.index-values-i.is));
    }
