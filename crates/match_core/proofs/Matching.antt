-- It is decidable whether two rows match.
use Rattle.std.proofs.Common.{◌≡◌, ◌≢◌, ◌⊎◌, inl, inr, Bool, true, false, List, [], ◌∷◌, Option, Some, None, All, refl, ap}
use Rattle.std.specs.Prelude.{bytes_eq}
use Rattle.std.specs.Bool.{Decides}
use Rattle.std.specs.Cmp.Lexicographic.{bytes_decides}
use Rattle.std.specs.Ordering.{int_eq}
use Rattle.std.proofs.lemmas.Bool.Decides.{Decides-int_eq, not_from_Decides}
use Rattle.std.proofs.lemmas.List.Elements.{All-nil, All-cons, All-head, All-tail}
use Rattle.row_core.specs.declared.row.Row.{Row}
use Rattle.row_core.specs.declared.schema.Column.{Column}
use Rattle.row_core.specs.declared.value.Value.{Value}
use Rattle.row_core.specs.declared.value.Value.TheVariants.{Int, Text}
use Rattle.row_core.specs.Name.{NamePair}
use Rattle.match_core.specs.Columns.{MatchesOn, value_under}

-- a boolean test decides the fact
holds_or_not : (P : Type 0) (test : Bool) → Decides test P → P ⊎ (P → ⊥)
holds_or_not P true decides = inl (decides.0 refl)
holds_or_not P false decides = inr (not_from_Decides false decides refl)

-- equality of values is decidable
value_or_not : (a b : Value) → (a ≡ b) ⊎ (a ≢ b)
value_or_not (Int m) (Int n) = elim (holds_or_not (m ≡ n) (int_eq m n) (Decides-int_eq m n)) [
  | inl same ↦ inl (ap Int same)
  | inr differ ↦ inr (λ e. differ (cc))
]
value_or_not (Text s) (Text t) = elim (holds_or_not (s ≡ t) (bytes_eq s t) (bytes_decides s t)) [
  | inl same ↦ inl (ap Text same)
  | inr differ ↦ inr (λ e. differ (cc))
]
value_or_not (Int m) (Text t) = inr (λ e. cc)
value_or_not (Text s) (Int n) = inr (λ e. cc)

-- equality of optional values is decidable
maybe_value_or_not : (a b : Option Value) → (a ≡ b) ⊎ (a ≢ b)
maybe_value_or_not None None = inl refl
maybe_value_or_not None (Some v) = inr (λ e. cc)
maybe_value_or_not (Some v) None = inr (λ e. cc)
maybe_value_or_not (Some v) (Some w) = elim (value_or_not v w) [
  | inl same ↦ inl (ap Some same)
  | inr differ ↦ inr (λ e. differ (cc))
]

-- if a fact is decidable for each element, it is decidable for all elements of a list
all_or_not : {X : Type 0} (P : X → Type 0) → ((x : X) → P x ⊎ (P x → ⊥)) → (xs : List X) → All P xs ⊎ (All P xs → ⊥)
all_or_not P each [] = inl (All-nil P)
all_or_not P each (x ∷ xs) = elim (each x) [
  | inr not_first ↦ inr (λ all. not_first (All-head P x xs all))
  | inl first ↦ elim (all_or_not P each xs) [
    | inl others ↦ inl (All-cons P x xs first others)
    | inr not_others ↦ inr (λ all. not_others (All-tail P x xs all))
  ]
]

-- it is decidable whether two rows match
pub match_or_not : (left_columns right_columns : List Column) (on : List NamePair) (x y : Row)
    → MatchesOn left_columns right_columns on x y ⊎ (MatchesOn left_columns right_columns on x y → ⊥)
match_or_not left_columns right_columns on x y =
    all_or_not (λ (names : NamePair). value_under left_columns names.0 x ≡ value_under right_columns names.1 y)
    (λ names. maybe_value_or_not (value_under left_columns names.0 x) (value_under right_columns names.1 y)) on
