-- The aggregate of rows that stand for others, compared with the aggregate of the others.
use Rattle.std.specs.Prelude.{◌≡◌, ◌↔◌, ℕ, ℤ, List, Contains, Option, map}
use Rattle.std.specs.declared.cmp.Ordering.TheVariants.{Less}
use Rattle.row_core.specs.ValueOrder.{maybe_cmp}
use Rattle.row_core.specs.declared.row.Row.{Row}
use Rattle.row_core.specs.declared.schema.Column.{Column}
use Rattle.row_core.specs.declared.value.Value.{Value}
use Rattle.agg_core.specs.Agg.{IsAgg, amount_in, measure_of, value_in}
use Rattle.row_core.specs.declared.func.Func.{Func}
use Rattle.agg_core.specs.declared.rows.AggRow.{AggRow}

-- Each row has the period, the amount and the group of the row `row_of` maps it to.
pub record StandInGroups (amount_here amount_there : Row → ℤ) (group_here group_there : Row → Option Value)
    (row_of : Row → Row) (rows : List Row) : Type 0 where
  pub period_is : (row : Row) → Contains rows row → (row_of row).period ≡ row.period
  pub amount_is : (row : Row) → Contains rows row → amount_there (row_of row) ≡ amount_here row
  pub group_is : (row : Row) → Contains rows row → group_there (row_of row) ≡ group_here row

-- The aggregate of rows that stand for others is the aggregate of the others.
abbrev pub AggIsOfStandIns : Type 0
AggIsOfStandIns =
    (columns_here columns_there : List Column) (func_here func_there : Func) (by_here by_there : Option (List ℕ))
    (rows : List Row) (row_of : Row → Row) (answer : List AggRow)
    → measure_of func_here ≡ measure_of func_there
    → StandInGroups (amount_in columns_here func_here) (amount_in columns_there func_there)
    (value_in columns_here by_here) (value_in columns_there by_there) row_of rows
    → IsAgg columns_here func_here by_here rows answer
    ↔ IsAgg columns_there func_there by_there (map row_of rows) answer

-- Each row has the period and the amount of the row `row_of` maps it to. `group_of` maps its group to that row's
-- group, and keeps the order of groups.
pub record RankGroups (amount_here amount_there : Row → ℤ) (group_here group_there : Row → Option Value)
    (row_of : Row → Row) (group_of : Option Value → Option Value) (rows : List Row) : Type 0 where
  pub period_is : (row : Row) → Contains rows row → (row_of row).period ≡ row.period
  pub amount_is : (row : Row) → Contains rows row → amount_there (row_of row) ≡ amount_here row
  pub group_is : (row : Row) → Contains rows row → group_there (row_of row) ≡ group_of (group_here row)
  pub rises : (x y : Row) → Contains rows x → Contains rows y → maybe_cmp (group_here x) (group_here y) ≡ Less
      → maybe_cmp (group_of (group_here x)) (group_of (group_here y)) ≡ Less

-- An aggregate's row with its group mapped by `group_of`.
abbrev pub with_group : (Option Value → Option Value) → AggRow → AggRow
with_group group_of row = record row { group = group_of row.group }

-- The aggregate of rows whose groups have the order of the others' groups is, with the others' groups, the aggregate
-- of the others.
abbrev pub AggIsOfRanks : Type 0
AggIsOfRanks =
    (columns_here columns_there : List Column) (func_here func_there : Func) (by_here by_there : Option (List ℕ))
    (rows : List Row) (row_of : Row → Row) (group_of : Option Value → Option Value) (answer : List AggRow)
    → measure_of func_here ≡ measure_of func_there
    → RankGroups (amount_in columns_here func_here) (amount_in columns_there func_there)
    (value_in columns_here by_here) (value_in columns_there by_there) row_of group_of rows
    → IsAgg columns_here func_here by_here rows answer
    → IsAgg columns_there func_there by_there (map row_of rows) (map (with_group group_of) answer)
