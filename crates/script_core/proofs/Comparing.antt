-- Reading one table, or two.
use Rattle.std.proofs.Common.{◌≡◌, ◌∙◌, ℕ, List, Option, None, Result, Ok, ap, refl, sym}
use Rattle.std.specs.Borrow.{Bor}
use Rattle.book_core.specs.History.{History}
use Rattle.command_core.specs.Fields.{both_ok}
use Rattle.command_core.specs.Pairs.{Compared}
use Rattle.command_core.specs.declared.aggregate.Aggregate.{Aggregate}
use Rattle.command_core.specs.declared.refusal.Fault.{Fault}
use Rattle.agg_core.specs.Agg.{agg_refusal}
use Rattle.match_core.specs.Columns.{columns_refusal}
use Rattle.row_core.specs.Refusals.{and_then, map_ok}
use Rattle.row_core.specs.declared.failure.Failure.TheVariants.{Refused, NoMemory}
use Rattle.row_core.specs.declared.row.Row.{Row}
use Rattle.row_core.specs.declared.schema.Column.{Column}
use Rattle.script_core.specs.Failure.{Failure, IsFailureOf}
use Rattle.script_core.specs.Performing.{IsShown}
use Rattle.script_core.specs.Effects.{TableRows, aggregated_or_fault, columns_or_fault, rows_or_fault, sides_or_fault, table_or_fault}

-- A table's rows and columns.
pub table-read : (number : ℕ) (h : History) (asof : Option ℕ) (name : List ℕ) (columns : List Column) (rows : List Row)
    → rows_or_fault number h asof name ≡ Ok rows → columns_or_fault number h name ≡ Ok columns
    → table_or_fault number h asof name ≡ Ok (columns, rows)
table-read number h asof name columns rows read reported =
    ap
    (λ r. and_then r
    (λ (rows : List Row). map_ok (λ (columns : List Column). (columns, rows)) (columns_or_fault number h name))) read
    ∙ ap (map_ok (λ (columns : List Column). (columns, rows))) reported

pub shown-read : (number : ℕ) (h : History) (asof : Option ℕ) (name : List ℕ) (read : Bor (List Column) × List Row)
    → IsShown number h asof name (Ok read) → table_or_fault number h asof name ≡ Ok (read.0.now, read.1)
shown-read number h asof name read shown =
    let (_, reported, is) = shown.gives in
    table-read number h asof name read.0.now read.1 (reported ∙ ap Ok (sym is)) shown.columns

-- Two tables whose columns may be compared.
pub sides-read : (number : ℕ) (h : History) (asof : Option ℕ) (tables : Compared) (left right : TableRows)
    → table_or_fault number h asof tables.left ≡ Ok left → table_or_fault number h asof tables.right ≡ Ok right
    → columns_refusal left.0 right.0 tables.on ≡ None → sides_or_fault number h asof tables ≡ Ok (left, right)
sides-read number h asof tables left right one other allowed = rw (one, other, allowed) refl

-- The same for two tables as they are shown.
pub compared-read : (number : ℕ) (h : History) (asof : Option ℕ) (tables : Compared) (left right : Bor (List Column) × List Row)
    → IsShown number h asof tables.left (Ok left) → IsShown number h asof tables.right (Ok right)
    → columns_refusal left.0.now right.0.now tables.on ≡ None
    → sides_or_fault number h asof tables ≡ Ok ((left.0.now, left.1), (right.0.now, right.1))
compared-read number h asof tables left right one other allowed =
    sides-read number h asof tables (left.0.now, left.1) (right.0.now, right.1)
    (shown-read number h asof tables.left left one) (shown-read number h asof tables.right right other) allowed

-- A table that may be aggregated.
pub aggregated-read : (number : ℕ) (h : History) (asof : Option ℕ) (asked : Aggregate) (table : TableRows)
    → table_or_fault number h asof asked.table ≡ Ok table → agg_refusal table.0 asked.func asked.by ≡ None
    → aggregated_or_fault number h asof asked ≡ Ok table
aggregated-read number h asof asked table read allowed = rw (read, allowed) refl

-- If the left table fails, so does the comparison.
pub sides-failed : (number : ℕ) (h : History) (asof : Option ℕ) (tables : Compared) (why : Failure)
    → IsFailureOf (rows_or_fault number h asof tables.left) why → IsFailureOf (sides_or_fault number h asof tables) why
sides-failed number h asof tables (Refused fault) e = rw e refl
sides-failed number h asof tables NoMemory e = tt

-- If the table fails, so does the aggregate.
pub aggregated-failed : (number : ℕ) (h : History) (asof : Option ℕ) (asked : Aggregate) (why : Failure)
    → IsFailureOf (rows_or_fault number h asof asked.table) why → IsFailureOf (aggregated_or_fault number h asof asked) why
aggregated-failed number h asof asked (Refused fault) e = rw e refl
aggregated-failed number h asof asked NoMemory e = tt

-- If the first of two values fails, so do both.
pub both_ok-failed : {S T : Type 0} (one : Result S Fault) (other : Result T Fault) (why : Failure)
    → IsFailureOf one why → IsFailureOf (both_ok one other) why
both_ok-failed one other (Refused fault) e = ap (λ r. both_ok r other) e
both_ok-failed one other NoMemory e = tt
