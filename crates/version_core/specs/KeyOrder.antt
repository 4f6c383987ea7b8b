-- The order that brings rows with equal keys together.
use Rattle.std.specs.Prelude.{ℕ, List, [], ◌∷◌, Bool, false, ◌||◌, slice_get}
use Rattle.std.specs.declared.cmp.Ordering.{Ordering}
use Rattle.std.specs.declared.cmp.Ordering.TheVariants.{Equal}
use Rattle.std.specs.Ordering.{int_cmp, ordering_then}
use Rattle.row_core.specs.ValueOrder.{maybe_cmp}
use Rattle.row_core.specs.declared.draft.Draft.{Draft}
use Rattle.row_core.specs.declared.value.Value.{Value}

-- by the values in the columns, the first column first
abbrev pub key_cmp : List ℕ → List Value → List Value → Ordering
key_cmp [] a b = Equal
key_cmp (column ∷ columns) a b =
    ordering_then (maybe_cmp (slice_get a column) (slice_get b column)) (key_cmp columns a b)

-- by key, and then by start
abbrev pub row_cmp : List ℕ → Draft → Draft → Ordering
row_cmp key a b = ordering_then (key_cmp key a.values b.values) (int_cmp a.period.from b.period.from)

-- the test holds for an element and the next one
abbrev pub have_neighbours : {X : Type 0} → (X → X → Bool) → List X → Bool
have_neighbours test [] = false
have_neighbours test (x ∷ []) = false
have_neighbours test (x ∷ y ∷ xs) = test x y || have_neighbours test (y ∷ xs)
