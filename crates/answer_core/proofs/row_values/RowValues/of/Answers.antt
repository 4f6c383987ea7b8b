use Rattle.std.proofs.Common.{◌≡◌, ◌==◌, ◌∙◌, ℕ, List, [], ◌∷◌, Bool, true, false, cond, Option, None, Some, ap, refl, rules}
use Rattle.std.specs.Prelude.{All, find, option_map}
use Rattle.std.specs.Option.{option_map_or}
use Rattle.std.proofs.lemmas.List.Elements.{All-head, All-tail}
use Rattle.row_core.specs.declared.row.Row.{Row}
use Rattle.table_core.specs.Lent.{lent_row}
use Rattle.table_core.specs.declared.row_ref.RowRef.{RowRef}
use Rattle.answer_core.specs.JoinedRows.{values_with}
use Rattle.answer_core.proofs.row_values.RowValues.of.Goals as goal

-- If no row has values, none are found.
bare_row : (row : Row) (here : Bool) (more : Option Row) → row.values ≡ []
    → option_map_or (λ (r : Row). r.values) more [] ≡ []
    → option_map_or (λ (r : Row). r.values) (cond here (Some row) more) [] ≡ []
bare_row row true more bare rest = bare
bare_row row false more bare rest = rest

bare_values : (rows : List Row) (id : ℕ) → All (λ (row : Row). row.values ≡ []) rows → values_with rows id ≡ []
bare_values [] id bare = refl
bare_values (r ∷ rs) id bare =
    bare_row r (r.id == id) (find (λ row. row.id == id) rs) (All-head (λ (row : Row). row.values ≡ []) r rs bare)
    (bare_values rs id (All-tail (λ (row : Row). row.values ≡ []) r rs bare))

pub returns-then-self : goal.returns-then-self
returns-then-self c =
    let none = bare_values c.self.inside.rows c.args.id (c.self.invariant c.if-self.true) in search rules

-- The values of a lent row.
lent_values : (row : Option RowRef)
    → option_map_or (λ (r : RowRef). (lent_row r).values) row []
    ≡ option_map_or (λ (r : Row). r.values) (option_map lent_row row) []
lent_values None = refl
lent_values (Some row) = refl

pub returns : goal.returns
returns c =
    let same = lent_values c.get.result ∙ ap (λ row. option_map_or (λ (r : Row). r.values) row []) c.get.ensures in
    search rules
