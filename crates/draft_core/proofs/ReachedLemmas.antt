-- A row overlaps a portion if its period does; and the test of one index more.
use Rattle.std.proofs.Common.{◌≡◌, ℕ, zero, suc, ◌+◌, ◌<◌, ◌||◌, Bool, List, [], ◌∷◌, Some, ap, false, get_or, length, map, refl, sym, take, ◌∙◌}
use Rattle.std.specs.List.{list_any, slice_get}
use Rattle.std.specs.Prelude.{option_map, unwrap_or}
use Rattle.std.proofs.lemmas.List.Folds.{list_any_more}
use Rattle.period_core.specs.declared.period.Period.{Period}
use Rattle.row_core.specs.declared.draft.Draft.{Draft}
use Rattle.row_core.specs.declared.value.Value.{Value}
use Rattle.draft_core.specs.Columns.{rows_by_column}
use Rattle.draft_core.specs.Reached.{is_met, is_reached}

periods-rows : (place : ℕ) (ps : List Period) (columns : List (List Value))
    → map (λ (d : Draft). d.period) (rows_by_column place ps columns) ≡ ps
periods-rows place [] columns = refl
periods-rows place (p ∷ ps) columns = ap (λ l. p ∷ l) (periods-rows (suc place) ps columns)

reached-met : (portion : Period) (rows : List Draft) (place : ℕ)
    → is_reached portion rows place ≡ is_met portion (map (λ (d : Draft). d.period) rows) place
reached-met portion [] place = refl
reached-met portion (d ∷ ds) zero = refl
reached-met portion (d ∷ ds) (suc place) = reached-met portion ds place

pub any_reached-rows : (portion : Period) (ps : List Period) (columns : List (List Value)) (places : List ℕ)
    → list_any (is_reached portion (rows_by_column 0 ps columns)) places ≡ list_any (is_met portion ps) places
any_reached-rows portion ps columns [] = refl
any_reached-rows portion ps columns (place ∷ places) =
    let rows = rows_by_column 0 ps columns in
    let here = reached-met portion rows place ∙ ap (λ l. is_met portion l place) (periods-rows 0 ps columns) in
    ap (λ b. b || list_any (is_reached portion rows) places) here
    ∙ ap (λ b. is_met portion ps place || b) (any_reached-rows portion ps columns places)

-- the item at an index passes the test; false past the last
abbrev pub passes_at : {X : Type 0} → (X → Bool) → List X → ℕ → Bool
passes_at test items place = unwrap_or (option_map test (slice_get items place)) false

-- whether an item at one of the first indexes passes, with one index more
pub any_at-more : {X : Type 0} (test : X → Bool) (items : List X) (places : List ℕ) (i : ℕ) (item : X)
    (any here : Bool) → i < length places → slice_get items (get_or places i 0) ≡ Some item → here ≡ test item
    → any ≡ list_any (passes_at test items) (take i places)
    → (any || here) ≡ list_any (passes_at test items) (take (i + 1) places)
any_at-more test items places i item any here inside at is so_far =
    let there : passes_at test items (get_or places i 0) ≡ here =
    ap (λ o. unwrap_or (option_map test o) false) at ∙ sym is in
    ap (λ b. b || here) so_far
    ∙ ap (λ b. list_any (passes_at test items) (take i places) || b) (sym there)
    ∙ sym (list_any_more (passes_at test items) places i 0 inside)
