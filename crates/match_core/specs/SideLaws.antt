-- Laws on the columns of one side.
use Rattle.std.specs.Prelude.{◌≡◌, ℕ, zero, suc, ◌<◌, List, [], ◌∷◌, length, All, Option, Some, None, refl, slice_get}
use Rattle.std.specs.Borrow.{Bor}
use Rattle.std.specs.Option.{ForSome}
use Rattle.std.proofs.Common.{ap, arith, sym, ◌∙◌}
use Rattle.std.proofs.lemmas.List.{length-map, length-replicate}
use Rattle.row_core.specs.declared.row.Row.{Row}
use Rattle.row_core.specs.declared.value.Value.{Value}
use Rattle.match_core.specs.Cells.{column_at, so_far}

-- a value at an existing index
value_from : (values : List Value) (place : ℕ) → place < length values
    → (v : Value) × (slice_get values place ≡ Some v)
value_from [] place lt = absurd (omega (arith, lt))
value_from (v ∷ values) zero lt = (v, refl)
value_from (v ∷ values) (suc place) lt = value_from values place (omega (arith, lt))

-- each row has a value
pub value_there : (place : ℕ) (rows : List Row) → All (λ (row : Row). place < length row.values) rows → (i : ℕ)
    → i < length (column_at place rows) → (v : Value) × (slice_get (column_at place rows) i ≡ Some (Some v))
value_there place [] wide i lt = absurd (omega (arith, lt))
value_there place (row ∷ rows) wide zero lt =
    let (v, at) = value_from row.values place (wide 0 row (omega arith)) in (v, ap Some at)
value_there place (row ∷ rows) wide (suc i) lt =
    value_there place rows (λ k d inside. wide (suc k) d (omega (arith, inside))) i (omega (arith, lt))

-- and a current class
pub class_there : (place : ℕ) (classes : Option (Bor (List ℕ))) (rows : List Row)
    → ForSome classes (λ (c : Bor (List ℕ)). length c.now ≡ length rows)
    → length (so_far classes rows) ≡ length (column_at place rows)
class_there place None rows count =
    length-replicate {A = ℕ} (length rows) 0 ∙ sym (length-map rows (λ (row : Row). slice_get row.values place))
class_there place (Some classes) rows count =
    count classes refl ∙ sym (length-map rows (λ (row : Row). slice_get row.values place))
