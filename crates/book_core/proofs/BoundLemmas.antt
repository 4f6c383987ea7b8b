-- Names that are bound to column indexes.
use Rattle.std.proofs.Common.{◌≡◌, ℕ, ◌+◌, ◌<◌, List, [], ◌∷◌, ◌++◌, Bool, true, false, ◌&&◌, Option, Some, None, length, take, get_or, set, refl, ap, sym, ◌∙◌}
use Rattle.std.specs.Prelude.{fold, filter, flat_map, is_some, option_and_then, option_map, slice_get, unwrap_or}
use Rattle.std.specs.List.{list_all}
use Rattle.std.specs.Option.{option_map_or}
use Rattle.std.proofs.lemmas.List.{take_more}
use Rattle.std.proofs.lemmas.List.Elements.{filter_agree}
use Rattle.std.proofs.lemmas.List.Sums.{fold-append}
use Rattle.period_core.specs.Period.{after as later, before, meet}
use Rattle.period_core.specs.declared.period.Period.{Period}
use Rattle.row_core.specs.Schema.{column_of}
use Rattle.row_core.specs.ValueOrder.{same_value}
use Rattle.row_core.specs.declared.draft.Draft.{Draft}
use Rattle.row_core.specs.declared.row.Row.{Row}
use Rattle.row_core.specs.declared.schema.Column.{Column}
use Rattle.row_core.specs.declared.value.Value.{Value}
use Rattle.version_core.proofs.WantedLemmas.{set-more, wanted-again, wanted-otherwise}
use Rattle.version_core.specs.Portion.{inside, part, parts_of as parts_by_place, takes_out}
use Rattle.version_core.specs.Wanted.{are_wanted, with_set}
use Rattle.version_core.specs.declared.portion_change.PortionChange.{PortionChange}
use Rattle.book_core.specs.Bound.{Does, IsOfRows, portion_parts, rows_changed}
use Rattle.book_core.specs.Rows.{Pair, inside_set, is_equal_at, is_touched, parts_within, set_at}
use Rattle.book_core.specs.State.{table_named}
use Rattle.book_core.specs.StoredTables.{StoredTable, at_kept, kept_table_after, kept_tables_after}
use Rattle.book_core.specs.declared.change.Change.{Change}
use Rattle.book_core.specs.declared.change.Change.TheVariants.{Make, Load, Update, Delete}

-- ---- one pair more

-- the pair's column is found
set-at_column : (schema : List Column) (pair : Pair) (column : ℕ) (values : List Value)
    → column_of schema pair.0 ≡ Some column → set values column pair.1 ≡ set_at schema values pair
set-at_column schema pair column values e = sym (ap (λ o. unwrap_or (option_map (λ i. set values i pair.1) o) values) e)

pub equal-at_column : (schema : List Column) (pair : Pair) (column : ℕ) (values : List Value)
    → column_of schema pair.0 ≡ Some column
    → unwrap_or (option_map (same_value pair.1) (slice_get values column)) false ≡ is_equal_at schema values pair
equal-at_column schema pair column values e =
    sym (ap (λ o. unwrap_or (option_map (same_value pair.1) (option_and_then (slice_get values) o)) false) e)

-- one setting more
pub settings-more : (schema : List Column) (pairs : List Pair) (sets : List (Option Value)) (i column : ℕ) (pair : Pair)
    → i < length pairs → pair ≡ get_or pairs i pair → column_of schema pair.0 ≡ Some column → column < length sets
    → ((values : List Value) → with_set sets values ≡ fold (set_at schema) values (take i pairs))
    → (values : List Value)
    → with_set (set sets column (Some pair.1)) values ≡ fold (set_at schema) values (take (i + 1) pairs)
settings-more schema pairs sets i column pair inside_pairs is named room so_far values =
    set-more sets values column pair.1 room
    ∙ set-at_column schema pair column (with_set sets values) named
    ∙ ap (λ vs. set_at schema vs pair) (so_far values)
    ∙ ap (set_at schema (fold (set_at schema) values (take i pairs))) is
    ∙ sym (fold-append (set_at schema) values (take i pairs) (get_or pairs i pair ∷ []))
    ∙ ap (fold (set_at schema) values) (sym (take_more pairs i pair inside_pairs))

-- one condition more
all-push : (test : Pair → Bool) (xs : List Pair) (x : Pair) → list_all test (xs ++ x ∷ []) ≡ (list_all test xs && test x)
all-push test [] x = and_one (test x) where
  and_one : (b : Bool) → (b && true) ≡ (true && b)
  and_one true = refl
  and_one false = refl
all-push test (y ∷ ys) x = ap (λ b. test y && b) (all-push test ys x) ∙ sym (assoc (test y) (list_all test ys) (test x))
  where
    assoc : (a b c : Bool) → ((a && b) && c) ≡ (a && (b && c))
    assoc true b c = refl
    assoc false b c = refl

shuffled : (r a n o t l : Bool) → (r && n) ≡ (o && t) → (a && o) ≡ l → ((r && a) && n) ≡ (l && t)
shuffled true true n o t l e f = e ∙ ap (λ b. b && t) f
shuffled true false n o t l e f = ap (λ b. b && t) f
shuffled false true n o t l e f = e ∙ ap (λ b. b && t) f
shuffled false false n o t l e f = ap (λ b. b && t) f

pub conds-more : (schema : List Column) (pairs : List Pair) (wanted more : List (Option Value)) (agree r : Bool)
    (i column : ℕ) (pair : Pair) → i < length pairs → pair ≡ get_or pairs i pair → column_of schema pair.0 ≡ Some column
    → ((values : List Value) → (r && are_wanted more values)
    ≡ (are_wanted wanted values && unwrap_or (option_map (same_value pair.1) (slice_get values column)) false))
    → ((values : List Value) → (agree && are_wanted wanted values) ≡ list_all (is_equal_at schema values) (take i pairs))
    → (values : List Value)
    → ((r && agree) && are_wanted more values) ≡ list_all (is_equal_at schema values) (take (i + 1) pairs)
conds-more schema pairs wanted more agree r i column pair inside_pairs is named step so_far values =
    shuffled r agree (are_wanted more values) (are_wanted wanted values)
    (unwrap_or (option_map (same_value pair.1) (slice_get values column)) false)
    (list_all (is_equal_at schema values) (take i pairs)) (step values) (so_far values)
    ∙ ap (λ b. list_all (is_equal_at schema values) (take i pairs) && b) (equal-at_column schema pair column values named)
    ∙ ap (λ p. list_all (is_equal_at schema values) (take i pairs) && is_equal_at schema values p) is
    ∙ sym (all-push (is_equal_at schema values) (take i pairs) (get_or pairs i pair))
    ∙ ap (list_all (is_equal_at schema values)) (sym (take_more pairs i pair inside_pairs))

-- a value is required where another was
pub want-again : (wanted : List (Option Value)) (values : List Value) (i : ℕ) (one other : Value) (r : Bool)
    → get_or wanted i None ≡ Some one → r ≡ same_value one other
    → (r && are_wanted wanted values)
    ≡ (are_wanted wanted values && unwrap_or (option_map (same_value other) (slice_get values i)) false)
want-again wanted values i one other true e is = wanted-again wanted values i one other e (sym is)
want-again wanted values i one other false e is = sym (wanted-otherwise wanted values i one other e (sym is))

-- ---- a change of a portion

parts-same : (schema : List Column) (portion : Period) (sets : Option (List Pair)) (change : PortionChange)
    → change.portion ≡ portion
    → ((period : Option Period) (values : List Value)
    → inside change.sets period values ≡ inside_set schema sets period values)
    → (row : Row) → parts_by_place change row ≡ parts_within portion sets schema row
parts-same schema portion sets change at same row =
    ap (λ p. part (before row.period p) row.values ++ (inside change.sets (meet row.period p) row.values
    ++ part (later row.period p) row.values)) at
    ∙ ap (λ l. part (before row.period portion) row.values ++ (l ++ part (later row.period portion) row.values))
    (same (meet row.period portion) row.values)

mapped-same : (f g : Row → List Draft) → ((row : Row) → f row ≡ g row) → (rows : List Row)
    → flat_map f rows ≡ flat_map g rows
mapped-same f g same [] = refl
mapped-same f g same (row ∷ rows) =
    ap (λ l. l ++ flat_map f rows) (same row) ∙ ap (λ l. g row ++ l) (mapped-same f g same rows)

nothing-goes : (rows : List Row) (goes : Row → Bool) → ((row : Row) → false ≡ goes row)
    → (f : Row → List Draft) → [] ≡ flat_map f (filter goes rows)
nothing-goes rows goes none f =
    sym (ap (flat_map f) (sym (filter_agree (λ row. false) goes none rows) ∙ nothing rows))
  where
    nothing : (rows : List Row) → filter (λ (row : Row). false) rows ≡ []
    nothing [] = refl
    nothing (row ∷ rows) = nothing rows

pub does-portion : (schema : List Column) (portion : Period) (sets : Option (List Pair)) (conds : List Pair)
    (bound : Option (List (Option Value))) (wanted : Option (List (Option Value)))
    → ((period : Option Period) (values : List Value)
    → inside bound period values ≡ inside_set schema sets period values)
    → ((values : List Value) → option_map_or (λ w. are_wanted w values) wanted false
    ≡ list_all (is_equal_at schema values) conds)
    → Does (is_touched schema portion conds) (portion_parts schema portion sets conds)
    (rows_changed (option_map (λ w. record { portion = portion; sets = bound; conds = w }) wanted))
does-portion schema portion sets conds bound None same meets = record {
  out = λ row. ap (λ b. b && is_some (meet row.period portion)) (meets row.values);
  new = λ now. nothing-goes now (is_touched schema portion conds)
      (λ row. ap (λ b. b && is_some (meet row.period portion)) (meets row.values)) (parts_within portion sets schema);
}
does-portion schema portion sets conds bound (Some wanted) same meets =
    let change : PortionChange = record { portion = portion; sets = bound; conds = wanted } in
    let goes : (row : Row) → takes_out change row ≡ is_touched schema portion conds row =
    λ row. ap (λ b. b && is_some (meet row.period portion)) (meets row.values) in
    record {
      out = goes;
      new = λ now. ap (flat_map (parts_by_place change))
          (filter_agree (takes_out change) (is_touched schema portion conds) goes now)
          ∙ mapped-same (parts_by_place change) (parts_within portion sets schema)
          (parts-same schema portion sets change refl same) (filter (is_touched schema portion conds) now);
    }

-- ---- changes of rows

pub changes-rows : (n : ℕ) (ts : List StoredTable) (c : Change) → IsOfRows c
    → at_kept (table_named c) (kept_table_after n c) ts ≡ kept_tables_after n ts c
changes-rows n ts (Make name schema) of = absurd of
changes-rows n ts (Load name rows) of = refl
changes-rows n ts (Update name portion sets conds) of = refl
changes-rows n ts (Delete name portion conds) of = refl
