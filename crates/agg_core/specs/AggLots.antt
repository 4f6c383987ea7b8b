-- The aggregates of lots of rows, compared with the aggregate of all rows.
use Rattle.std.specs.Prelude.{◌≡◌, ◌↔◌, ℕ, List, filter, Contains, Bool, Option}
use Rattle.std.specs.List.{list_any}
use Rattle.row_core.specs.ValueOrder.{same_maybe}
use Rattle.row_core.specs.declared.row.Row.{Row}
use Rattle.row_core.specs.declared.schema.Column.{Column}
use Rattle.row_core.specs.declared.value.Value.{Value}
use Rattle.list_core.specs.Wanted.{IsListOf}
use Rattle.match_core.specs.Lots.{IsInSome, rows_sent}
use Rattle.agg_core.specs.Agg.{IsAgg, value_in}
use Rattle.agg_core.specs.Groups.{AggRowBefore}
use Rattle.row_core.specs.declared.func.Func.{Func}
use Rattle.agg_core.specs.declared.rows.AggRow.{AggRow}

-- Rows of one group go to the same lot.
abbrev pub SendsGroupsTogether : (Row → Option Value) → (Row → ℕ) → List Row → Type 0
SendsGroupsTogether group_of lot_of rows =
    (x y : Row) → Contains rows x → Contains rows y → group_of x ≡ group_of y → lot_of x ≡ lot_of y

-- Some row is of the group.
abbrev pub has_group : (Row → Option Value) → List Row → Option Value → Bool
has_group group_of rows group = list_any (λ (row : Row). same_maybe (group_of row) group) rows

-- The rows of an aggregate whose group goes to a lot.
abbrev pub agg_rows_sent : (Row → Option Value) → (Row → ℕ) → List Row → ℕ → List AggRow → List AggRow
agg_rows_sent group_of lot_of rows lot answer =
    filter (λ (row : AggRow). has_group group_of (rows_sent lot_of lot rows) row.group) answer

-- Any function of a group's value sends its rows to one lot.
abbrev pub ValuesSendGroupsTogether : Type 0
ValuesSendGroupsTogether =
    (columns : List Column) (group : Option (List ℕ)) (hash : Option Value → ℕ) (rows : List Row)
    → SendsGroupsTogether (value_in columns group) (λ row. hash (value_in columns group row)) rows

-- If rows of one group go to the same lot, the aggregate of a lot is the rows of the whole aggregate whose group goes
-- to that lot.
abbrev pub LotAggIsOfWhole : Type 0
LotAggIsOfWhole =
    (columns : List Column) (func : Func) (group : Option (List ℕ)) (rows : List Row) (lot_of : Row → ℕ) (lot : ℕ)
    (whole answer : List AggRow)
    → SendsGroupsTogether (value_in columns group) lot_of rows
    → IsAgg columns func group rows whole
    → IsAgg columns func group (rows_sent lot_of lot rows) answer
    → answer ≡ agg_rows_sent (value_in columns group) lot_of rows lot whole

-- If rows of one group go to the same lot, the whole aggregate is the ordered list of the rows of the lots'
-- aggregates.
abbrev pub WholeAggIsOfLots : Type 0
WholeAggIsOfLots =
    (columns : List Column) (func : Func) (group : Option (List ℕ)) (rows : List Row) (lot_of : Row → ℕ)
    (answer_of : ℕ → List AggRow) (whole : List AggRow)
    → SendsGroupsTogether (value_in columns group) lot_of rows
    → ((lot : ℕ) → IsAgg columns func group (rows_sent lot_of lot rows) (answer_of lot))
    → IsAgg columns func group rows whole ↔ IsListOf AggRowBefore (IsInSome answer_of) whole

-- If rows of one group go to the same lot, no row is in the aggregates of two lots.
abbrev pub LotAggsAreApart : Type 0
LotAggsAreApart =
    (columns : List Column) (func : Func) (group : Option (List ℕ)) (rows : List Row) (lot_of : Row → ℕ)
    (one other : ℕ) (answer more : List AggRow) (row : AggRow)
    → SendsGroupsTogether (value_in columns group) lot_of rows
    → IsAgg columns func group (rows_sent lot_of one rows) answer
    → IsAgg columns func group (rows_sent lot_of other rows) more
    → Contains answer row → Contains more row → one ≡ other
