use Rattle.std.proofs.Common.{◌≡◌, ◌∙◌, ◌+◌, ◌++◌, List, ℕ, suc, [], ◌∷◌, Ok, Err, Some, ap, arith, get_or, length, length-append, replicate, subst, sym, take, take_all}
use Rattle.std.specs.Prelude.{IfOk, None, Result}
use Rattle.std.specs.Borrow.{Bor}
use Rattle.std.proofs.lemmas.List.{take_more}
use Rattle.row_core.specs.Refusals.{first_of}
use Rattle.row_core.specs.Name.{NamePair}
use Rattle.row_core.specs.declared.row.Row.{Row}
use Rattle.row_core.specs.declared.schema.Column.{Column}
use Rattle.match_core.specs.declared.classes.Classes.{Classes}
use Rattle.row_core.proofs.RefusalLemmas.{each_allowed}
use Rattle.match_core.specs.Cells.{Refines}
use Rattle.match_core.specs.Classes.{AreClasses, values_under}
use Rattle.match_core.specs.Columns.{tests_of_names}
use Rattle.match_core.proofs.SplitClasses.{no_columns, one_more}
use Rattle.match_core.proofs.classes.classes_of.Goals as goal

-- the length of two lists together
both_count : (xs ys : List ℕ) (n m : ℕ) → length xs ≡ n → length ys ≡ m → length (xs ++ ys) ≡ n + m
both_count xs ys n m e f = let all = length-append xs ys in omega (arith, all, e, f)

-- an element of the rest is one index further in the whole list
one_later : (on others : List NamePair) (first d : NamePair) (i : ℕ) → on ≡ first ∷ others
    → get_or others i d ≡ get_or on (i + 1) d
one_later on others first d i whole =
    let one : suc i ≡ i + 1 = omega arith in
    ap (λ k. get_or (first ∷ others) k d) one ∙ ap (λ l. get_or l (i + 1) d) (sym whole)

pub loop-pair-init : goal.loop-pair-init
loop-pair-init g c =
    let left = c.args.left.schema.now in
    let right = c.args.right.schema.now in
    let lefts = c.args.left.rows.now in
    let rights = c.args.right.rows.now in
    let first = c.in-Some.first.now in
    let new = c.in_ok-classes.classes in
    let none = no_columns left right lefts rights in
    let len = both_count new.left.items new.right.items (length lefts) (length rights) c.in_ok-classes.ensures.left
    c.in_ok-classes.ensures.right ∙ sym none.count in
    let one : take 1 c.args.on.now ≡ first ∷ [] = ap (λ (l : List NamePair). take 1 l) c.in-Some.ensures.cases.0 in (
      c.in_ok-classes.ensures.left,
      c.in_ok-classes.ensures.right,
      subst (λ (l : List NamePair). AreClasses left right lefts rights l (new.left.items ++ new.right.items)) (sym one)
          (one_more left right lefts rights [] first _ (new.left.items ++ new.right.items) none len
          c.in_ok-classes.ensures.split),
      c.in_ok-classes.ensures.left_places,
      c.in_ok-classes.ensures.right_places,
    )

pub split_by-requires-in-loop-pair-clause-allowed : goal.split_by-requires-in-loop-pair-clause-allowed
split_by-requires-in-loop-pair-clause-allowed g c κs within =
    let on = c.args.on.now in
    let others = c.in-Some.others.now in
    let pair = c.pair-item.result in
    let i = c.loop-pair.pair-index in
    let whole = c.in-Some.ensures.cases.0 in
    let tests = tests_of_names c.args.left.schema.now c.args.right.schema.now in
    let len = ap length whole in
    let test = c.loop-pair-test.true in
    subst (λ (p : NamePair). first_of (tests p) ≡ None)
    (sym (c.pair-item.is ∙ one_later on others c.in-Some.first.now pair i whole))
    (each_allowed tests on (i + 1) pair c.requires (omega (arith, len, test)))

pub loop-pair-preserved : goal.loop-pair-preserved
loop-pair-preserved g c =
    let left = c.args.left.schema.now in
    let right = c.args.right.schema.now in
    let lefts = c.args.left.rows.now in
    let rights = c.args.right.rows.now in
    let on = c.args.on.now in
    let others = c.in-Some.others.now in
    let pair = c.pair-item.result in
    let i = c.loop-pair.pair-index in
    let whole = c.in-Some.ensures.cases.0 in
    let old = c.loop-pair.classes in
    let new = c.in_ok-classes-2.classes in
    let invariant = c.loop-pair.invariant in
    let olds = both_count old.left.items old.right.items (length lefts) (length rights) invariant.0 invariant.1 in
    let news = both_count new.left.items new.right.items (length lefts) (length rights) c.in_ok-classes-2.ensures.left
    c.in_ok-classes-2.ensures.right in
    let values = values_under left right lefts rights pair in
    let refines : Refines (old.left.items ++ old.right.items) values (new.left.items ++ new.right.items) =
    subst (λ (l : List ℕ). Refines (old.left.items ++ l) values (new.left.items ++ new.right.items))
    c.as_slice-in-loop-pair.ensures.value
    (subst (λ (l : List ℕ). Refines (l ++ c.as_slice-in-loop-pair.result.now) values (new.left.items ++ new.right.items))
    c.as_slice.ensures.value c.in_ok-classes-2.ensures.split) in
    let more : AreClasses left right lefts rights (take (i + 1) on ++ pair ∷ []) (new.left.items ++ new.right.items) =
    one_more left right lefts rights (take (i + 1) on) pair (old.left.items ++ old.right.items)
    (new.left.items ++ new.right.items) invariant.2 (news ∙ sym olds) refines in
    let len = ap length whole in
    let test = c.loop-pair-test.true in
    let front : take (i + 1) on ++ pair ∷ [] ≡ take (i + 1 + 1) on =
    ap (λ (p : NamePair). take (i + 1) on ++ p ∷ [])
    (c.pair-item.is ∙ one_later on others c.in-Some.first.now pair i whole)
    ∙ sym (take_more on (i + 1) pair (omega (arith, len, test))) in (
      c.in_ok-classes-2.ensures.left,
      c.in_ok-classes-2.ensures.right,
      subst (λ (l : List NamePair). AreClasses left right lefts rights l (new.left.items ++ new.right.items)) front more,
      c.in_ok-classes-2.ensures.left_places,
      c.in_ok-classes-2.ensures.right_places,
    )

-- a borrowed list keeps its length
counted : (xs : List ℕ) (n : ℕ) (lent x : Bor (List ℕ)) → lent.now ≡ xs → length xs ≡ n → Some lent ≡ Some x
    → length x.now ≡ n
counted xs n lent x is len e =
    let same : lent ≡ x = cc in ap (λ (b : Bor (List ℕ)). length b.now) (sym same) ∙ ap length is ∙ len

-- without names all rows are in one class
all_alike : {E : Type 0} (r : Result Classes E) (left right : List Column) (lefts rights : List Row)
    (on : List NamePair) (n m : ℕ) → n ≡ length lefts → m ≡ length rights → length on ≡ 0
    → IfOk r (λ (new : Classes). new.left.items ≡ replicate n 0)
    → IfOk r (λ (new : Classes). new.right.items ≡ replicate m 0)
    → IfOk r (λ (new : Classes). AreClasses left right lefts rights on (new.left.items ++ new.right.items))
all_alike (Ok new) left right lefts rights [] n m few many none is are =
    rw (is, are, few, many) (no_columns left right lefts rights)
all_alike (Ok new) left right lefts rights (pair ∷ on) n m few many none is are = absurd (omega arith)
all_alike (Err e) left right lefts rights on n m few many none is are = tt

pub returns-in_default-clause-tell : goal.returns-in_default-clause-tell
returns-in_default-clause-tell g c =
    all_alike c.one_class.result c.args.left.schema.now c.args.right.schema.now c.args.left.rows.now
    c.args.right.rows.now c.args.on.now c.len.result c.len-in_default.result c.len.ensures c.len-in_default.ensures
    c.in_default.ensures.cases c.one_class.ensures.left c.one_class.ensures.right

pub split_by-requires-clause-left : goal.split_by-requires-clause-left
split_by-requires-clause-left g c κs within x e = absurd (cc)

pub split_by-requires-clause-right : goal.split_by-requires-clause-right
split_by-requires-clause-right g c κs within x e = absurd (cc)

pub split_by-requires-clause-allowed : goal.split_by-requires-clause-allowed
split_by-requires-clause-allowed g c κs within =
    let on = c.args.on.now in
    let first = c.in-Some.first.now in
    let whole = c.in-Some.ensures.cases.0 in
    let tests = tests_of_names c.args.left.schema.now c.args.right.schema.now in
    let len = ap length whole in
    subst (λ (p : NamePair). first_of (tests p) ≡ None) (ap (λ (l : List NamePair). get_or l 0 first) whole)
    (each_allowed tests on 0 first c.requires (omega (arith, len)))

pub split_by-requires-in-loop-pair-clause-left : goal.split_by-requires-in-loop-pair-clause-left
split_by-requires-in-loop-pair-clause-left g c κs within x e =
    counted c.loop-pair.classes.left.items (length c.args.left.rows.now) c.as_slice.result x c.as_slice.ensures.value
    c.loop-pair.invariant.0 e

pub split_by-requires-in-loop-pair-clause-right : goal.split_by-requires-in-loop-pair-clause-right
split_by-requires-in-loop-pair-clause-right g c κs within x e =
    counted c.loop-pair.classes.right.items (length c.args.right.rows.now) c.as_slice-in-loop-pair.result x
    c.as_slice-in-loop-pair.ensures.value c.loop-pair.invariant.1 e

pub returns-clause-left : goal.returns-clause-left
returns-clause-left g c = c.loop-pair.invariant.0

pub returns-clause-right : goal.returns-clause-right
returns-clause-right g c = c.loop-pair.invariant.1

pub returns-clause-tell : goal.returns-clause-tell
returns-clause-tell g c =
    let on = c.args.on.now in
    let len = ap length c.in-Some.ensures.cases.0 in
    let past = c.loop-pair-test.false in
    subst
    (λ (l : List NamePair). AreClasses c.args.left.schema.now c.args.right.schema.now c.args.left.rows.now
    c.args.right.rows.now l (c.loop-pair.classes.left.items ++ c.loop-pair.classes.right.items))
    (take_all (c.loop-pair.pair-index + 1) on (omega (arith, len, past))) c.loop-pair.invariant.2

pub returns-clause-left_places : goal.returns-clause-left_places
returns-clause-left_places g c = c.loop-pair.invariant.3

pub returns-clause-right_places : goal.returns-clause-right_places
returns-clause-right_places g c = c.loop-pair.invariant.4
