use Rattle.std.proofs.Common.{◌≡◌, ◌<◌, ℕ, List, Option, Some, None, Result, Ok, Err, MatchResult, ap, refl, subst, sym, arith, length}
use Rattle.std.specs.Prelude.{IfSome, option_map}
use Rattle.std.specs.List.{slice_get}
use Rattle.std.specs.Option.{option_and_then}
use Rattle.std.proofs.lemmas.Grind.{common_steps}
use Rattle.row_core.specs.Refusals.{IsAnswer, map_err, map_ok}
use Rattle.row_core.specs.Schema.{column_of}
use Rattle.row_core.specs.Value.{value_of}
use Rattle.row_core.specs.declared.schema.Column.{Column}
use Rattle.row_core.specs.declared.failure.Failure.{Failure}
use Rattle.row_core.specs.declared.failure.Failure.TheVariants.{Refused, NoMemory}
use Rattle.row_core.specs.declared.value.Value.{Value}
use Rattle.row_core.specs.declared.value.ValueRefused.{ValueRefused}
use Rattle.book_core.specs.Rows.{Pair}
use Rattle.command_core.specs.declared.refusal.Refusal.{Refusal}
use Rattle.command_core.proofs.Cutting.{slice_get-there}
use Rattle.script_core.specs.Failure.{IsRecordFailure, failure_at}
use Rattle.script_core.specs.Refusal.{value_refusal}
use Rattle.script_core.specs.Effects.{pair_read, named_value}
use Rattle.script_core.proofs.pairs.value_named.Goals as goal

-- The value, or the failure, is what the column's kind makes of the text.
abbrev IsRead : ℕ → List ℕ → Result Pair Refusal → Result Value (Failure ValueRefused) → Type 0
IsRead number name meant result =
    MatchResult result (λ value. meant ≡ Ok (name, value))
    (λ why. IsRecordFailure number meant (failure_at number value_refusal why))

value-read : (number : ℕ) (name : List ℕ) (meant : Result Value ValueRefused)
    (result : Result Value (Failure ValueRefused)) → IsAnswer meant result
    → IsRead number name (map_ok (λ value. (name, value)) (map_err value_refusal meant)) result
value-read number name meant (Ok value) same =
    ap (λ (m : Result Value ValueRefused). map_ok (λ (v : Value). (name, v)) (map_err value_refusal m)) same
value-read number name meant (Err (Refused why)) same = (
  value_refusal why,
  ap
      (λ (m : Result Value ValueRefused). map_ok (λ (v : Value). (name, v)) (map_err value_refusal m)) same,
  refl,
)
value-read number name meant (Err NoMemory) same = tt

column_of-within : (columns : List Column) (name : List ℕ) (place : ℕ) → column_of columns name ≡ Some place
    → place < length columns
column_of-within columns name place e = grind (arith, common_steps)

-- If the column exists, its kind makes this value of the text, or this failure.
abbrev IsAnswerAt : Option Column → List ℕ → Result Value (Failure ValueRefused) → Type 0
IsAnswerAt found text result = IfSome found (λ column. IsAnswer (value_of column.kind text) result)

pair-read : (number : ℕ) (columns : List Column) (name text : List ℕ) (place : ℕ)
    (result : Result Value (Failure ValueRefused)) → column_of columns name ≡ Some place
    → IsAnswerAt (slice_get columns place) text result → IsRead number name (pair_read columns (name, text)) result
pair-read number columns name text place result e h =
    subst (λ (o : Option ℕ).
    IsRead number name
    (named_value name text
    (option_map (λ (column : Column). column.kind) (option_and_then (slice_get columns) o))) result) (sym e)
    (by_column (slice_get columns place) refl h)
  where
    by_column : (found : Option Column) → slice_get columns place ≡ found → IsAnswerAt found text result
        → IsRead number name (named_value name text (option_map (λ (column : Column). column.kind) found)) result
    by_column None none k = absurd (slice_get-there columns place (column_of-within columns name place e) none)
    by_column (Some column) there k = value-read number name (value_of column.kind text) result k

pub returns-in-Ok : goal.returns-in-Ok
returns-in-Ok c =
    let read = pair-read c.args.number c.args.schema.now c.args.name c.args.text.now c.in-Some.place
    c.read_value.result (sym c.in-Some.ensures) c.read_value.ensures in
    rw c.in-Ok.is at read

pub returns-in-Err : goal.returns-in-Err
returns-in-Err c =
    let read = pair-read c.args.number c.args.schema.now c.args.name c.args.text.now c.in-Some.place
    c.read_value.result (sym c.in-Some.ensures) c.read_value.ensures in
    rw c.failure_at.ensures (rw c.in-Err.is at read)
