-- The parts that replace a row.
use Rattle.std.proofs.Common.{◌≡◌, ℕ, ◌+◌, ◌≤◌, List, ◌++◌, Option, Some, None, cond, length, refl, ap, ◌∙◌, arith, append_assoc, length-append}
use Rattle.std.specs.Prelude.{is_some}
use Rattle.period_core.specs.Period.{after as later, before, meet}
use Rattle.period_core.specs.declared.period.Period.{Period}
use Rattle.row_core.specs.declared.draft.Draft.{Draft}
use Rattle.row_core.specs.declared.row.Row.{Row}
use Rattle.row_core.specs.declared.value.Value.{Value}
use Rattle.version_core.specs.Portion.{inside, part, parts_of}
use Rattle.version_core.specs.declared.portion_change.PortionChange.{PortionChange}

-- one part more
pub part-added : (old new : List Draft) (got period : Option Period) (lent values : List Value)
    → new ≡ old ++ part got lent → got ≡ period → lent ≡ values → new ≡ old ++ part period values
part-added old new got period lent values grown p v =
    grown ∙ ap (λ o. old ++ part o lent) p ∙ ap (λ vs. old ++ part period vs) v

-- two parts, one after the other
pub two-added : (old one two : List Draft) (first second : List Draft) → one ≡ old ++ first → two ≡ one ++ second
    → two ≡ old ++ (first ++ second)
two-added old one two first second e f = f ∙ ap (λ l. l ++ second) e ∙ append_assoc old first second

-- how many there are

one_or_none : (period : Option Period) (values : List Value) → length (part period values) ≡ cond (is_some period) 1 0
one_or_none None values = refl
one_or_none (Some p) values = refl

pub length-two_parts : (a b : Option Period) (u v : List Value) (i j : ℕ) → i ≡ cond (is_some a) 1 0
    → j ≡ cond (is_some b) 1 0 → i + j ≡ length (part a u ++ part b v)
length-two_parts a b u v i j e f = omega (arith, length-append (part a u) (part b v), one_or_none a u, one_or_none b v)

pub length-three_parts : (a b c : Option Period) (u v w : List Value) (i j k : ℕ) → i ≡ cond (is_some a) 1 0
    → j ≡ cond (is_some b) 1 0 → k ≡ cond (is_some c) 1 0 → i + j + k ≡ length (part a u ++ (part b v ++ part c w))
length-three_parts a b c u v w i j k e f g =
    omega (
      arith,
      length-append (part a u) (part b v ++ part c w),
      length-append (part b v)
          (part c w),
      one_or_none a u,
      one_or_none b v,
      one_or_none c w,
    )

part-few : (period : Option Period) (values : List Value) → length (part period values) ≤ 1
part-few None values = omega arith
part-few (Some p) values = omega arith

inside-few : (sets : Option (List (Option Value))) (period : Option Period) (values : List Value)
    → length (inside sets period values) ≤ 1
inside-few None period values = omega arith
inside-few (Some sets) None values = omega arith
inside-few (Some sets) (Some p) values = omega arith

-- at most three
pub parts_of-few : (change : PortionChange) (row : Row) → length (parts_of change row) ≤ 3
parts_of-few change row =
    let first = part (before row.period change.portion) row.values in
    let inner = inside change.sets (meet row.period change.portion) row.values in
    let last = part (later row.period change.portion) row.values in
    omega (
      arith,
      length-append first (inner ++ last),
      length-append inner last,
      part-few (before row.period change.portion) row.values,
      inside-few change.sets (meet row.period change.portion) row.values,
      part-few (later row.period change.portion) row.values,
    )
