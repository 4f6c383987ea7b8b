-- Rows that stand for others match and are ordered in the same way.
use Rattle.std.proofs.Common.{◌≡◌, ◌⊎◌, ◌<◌, ℕ, List, map, inl, inr, sym, ap, subst, ◌∙◌, arith}
use Rattle.std.specs.Prelude.{Contains}
use Rattle.std.specs.Ordering.{nat_cmp}
use Rattle.std.specs.declared.cmp.Ordering.TheVariants.{Less, Equal, Greater}
use Rattle.std.proofs.lemmas.Bool.Decides.{nat_tests}
use Rattle.list_core.specs.Wanted.{IsListOf}
use Rattle.list_core.proofs.MadeLemmas.{AllPairs-map, Contains-map, Contains-map_source}
use Rattle.row_core.specs.Name.{NamePair}
use Rattle.row_core.specs.declared.row.Row.{Row}
use Rattle.row_core.specs.declared.schema.Column.{Column}
use Rattle.match_core.specs.Columns.{MatchesOn}
use Rattle.match_core.specs.Lots.{left_values, right_values}
use Rattle.match_core.specs.StandIns.{AnswersAreOfCodes, AnswersAreOfStandIns, KeepValues, MatchAlike, StandFor}
use Rattle.match_core.proofs.SentLemmas.{rows_match_by_values}

-- the comparison of a smaller number with a larger one
nat_less : (m n : ℕ) → m < n → nat_cmp m n ≡ Less
nat_less m n h = grind (arith, nat_tests)

nat_more : (m n : ℕ) → n < m → nat_cmp m n ≡ Greater
nat_more m n h = grind (arith, nat_tests)

-- of two numbers one is less, or they are equal
nat_order : (m n : ℕ) → (m < n) ⊎ ((m ≡ n) ⊎ (n < m))
nat_order m n = grind arith

-- the ids of rows that stand for others are ordered in the same way
pub ids_alike : (row_of : Row → Row) (f : ℕ → ℕ) (rows : List Row) → StandFor row_of f rows → (m n : ℕ)
    → nat_cmp (f m) (f n) ≡ nat_cmp m n
ids_alike row_of f rows stand m n = elim (nat_order m n) [
  | inl less ↦ nat_less (f m) (f n) (stand.rises m n less) ∙ sym (nat_less m n less)
  | inr other ↦ elim other [
    | inl same ↦ same_cmp m n same
    | inr more ↦ nat_more (f m) (f n) (stand.rises n m more) ∙ sym (nat_more m n more)
  ]
]
  where
    tied : (k : ℕ) → nat_cmp k k ≡ Equal
    tied k = grind (arith, nat_tests)

    same_cmp : (k l : ℕ) → k ≡ l → nat_cmp (f k) (f l) ≡ nat_cmp k l
    same_cmp k l e =
        ap (λ v. nat_cmp (f k) (f v)) (sym e) ∙ tied (f k) ∙ sym (tied k) ∙ ap (λ v. nat_cmp k v) e

-- the answers here, mapped by `f`, are the answers there: `f` maps each answer here to one there, reaches each of
-- them, and keeps the order
pub answers_there : {X : Type 0} (Before : X → X → Type 0) (Here There : X → Type 0) (f : X → X) (xs : List X)
    → ((a b : X) → Before a b → Before (f a) (f b)) → ((x : X) → Here x → There (f x))
    → ((y : X) → There y → (x : X) × Here x × (f x ≡ y)) → IsListOf Before Here xs → IsListOf Before There (map f xs)
answers_there Before Here There f xs alike there here is = record {
  ordered = AllPairs-map Before Before f xs (λ a b b_in before. alike a b before) is.ordered;
  exactly = λ y. (
    λ h. (let (x, x_in, same) = Contains-map_source f xs y h in subst There same (there x ((is.exactly x).0 x_in))),
    λ w. (let (x, x_is, same) = here y w in
        subst (Contains (map f xs)) same (Contains-map f xs x ((is.exactly x).1 x_is))),
  );
}

-- rows with the compared values of the rows they stand for match in the same way
match_alike : (left_here right_here left_there right_there : List Column) (on_here on_there : List NamePair)
    (left right : List Row) (left_of right_of : Row → Row)
    → KeepValues (left_values left_here on_here) (left_values left_there on_there) left_of left
    → KeepValues (right_values right_here on_here) (right_values right_there on_there) right_of right
    → MatchAlike (MatchesOn left_here right_here on_here) (MatchesOn left_there right_there on_there) left_of right_of
    left right
match_alike left_here right_here left_there right_there on_here on_there left right left_of right_of lefts rights x y x_in
    y_in = (
      λ matches.
          ((rows_match_by_values left_there right_there on_there (left_of x) (right_of y)).1
          (lefts x x_in ∙ (rows_match_by_values left_here right_here on_here x y).0 matches ∙ sym (rights y y_in))),
      λ matches.
          ((rows_match_by_values left_here right_here on_here x y).1
          (sym (lefts x x_in)
          ∙ (rows_match_by_values left_there right_there on_there (left_of x) (right_of y)).0 matches
          ∙ rights y y_in)),
    )

-- so the law on rows that match in the same way gives the law on rows with the same compared values
pub stand_ins_of_codes : {X : Type 0} (Before : X → X → Type 0)
    (Wanted : (Row → Row → Type 0) → List Row → List Row → X → Type 0) (with_ids : (ℕ → ℕ) → (ℕ → ℕ) → X → X)
    → AnswersAreOfCodes Before Wanted with_ids → AnswersAreOfStandIns Before Wanted with_ids
stand_ins_of_codes Before Wanted with_ids law left_here right_here left_there right_there on_here on_there left right
    left_of right_of left_id right_id answers lefts rights left_values_are right_values_are =
    law left_here right_here left_there right_there on_here on_there left right left_of right_of left_id right_id answers
    lefts rights
    (match_alike left_here right_here left_there right_there on_here on_there left right left_of right_of left_values_are
    right_values_are)
