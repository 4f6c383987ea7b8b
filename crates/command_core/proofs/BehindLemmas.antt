-- Only a block has records after its first.
use Rattle.std.proofs.Common.{ℕ, ◌+◌, ◌≤◌, [], ◌∷◌, Bool, true, false, List, length, Option, Some, None, Result, Ok, Err, arith}
use Rattle.std.specs.Prelude.{codes, if◌then◌else◌}
use Rattle.row_core.specs.Refusals.{and_then, map_ok}
use Rattle.row_core.specs.declared.schema.Column.{Column}
use Rattle.command_core.specs.Aggregates.{aggregated}
use Rattle.command_core.specs.Fields.{claimed, dated, name_in, named, period_in, spanned, compared, with_asof}
use Rattle.command_core.specs.Meaning.{Meaning, TableForm, behind_length, block_meaning, check_meaning, delete_meaning, delete_of, if_formed, load_meaning, make_table, name_table, table_columns, table_form, table_meaning, meaning_or_refusal, update_meaning, update_of, verb_meaning}
use Rattle.command_core.specs.Pairs.{named_pairs}
use Rattle.command_core.specs.Portions.{conditions_in, settings_in}
use Rattle.command_core.specs.Records.{Record}
use Rattle.command_core.specs.Words.{begins}
use Rattle.command_core.specs.declared.refusal.Refusal.{Refusal}
use Rattle.command_core.specs.declared.words.Verb.{Verb}
use Rattle.command_core.specs.declared.words.Verb.TheVariants as verb

-- The command has at most `most` records after its first.
abbrev HasBehind : ℕ → ℕ → Result Meaning Refusal → Type 0
HasBehind most number r = behind_length (meaning_or_refusal number r) ≤ most

refused-has : (most number : ℕ) (e : Refusal) → HasBehind most number (Err e)
refused-has most number e = omega arith

follows : {T : Type 0} (most number : ℕ) (r : Result T Refusal) (f : T → Result Meaning Refusal)
    → ((x : T) → HasBehind most number (f x)) → HasBehind most number (and_then r f)
follows most number (Ok x) f h = h x
follows most number (Err e) f h = refused-has most number e

made : {T : Type 0} (most number : ℕ) (f : T → Meaning) (r : Result T Refusal) → ((x : T) → behind_length (f x) ≤ most)
    → HasBehind most number (map_ok f r)
made most number f (Ok x) h = h x
made most number f (Err e) h = refused-has most number e

formed : {T : Type 0} (most number : ℕ) (f : T → Result Meaning Refusal) (o : Option T)
    → ((x : T) → HasBehind most number (f x)) → HasBehind most number (if_formed f o)
formed most number f (Some x) h = h x
formed most number f None h = omega arith

update-has : (number : ℕ) (line : Record) → HasBehind 0 number (update_meaning line)
update-has number [] = omega arith
update-has number (word ∷ []) = omega arith
update-has number (word ∷ name ∷ []) = omega arith
update-has number (word ∷ name ∷ from ∷ []) = omega arith
update-has number (word ∷ name ∷ from ∷ to ∷ fields) =
    formed 0 number (update_of name from to) (settings_in fields) (λ parts.
    follows 0 number (name_in name) _
    (λ table. follows 0 number (named_pairs parts.0) _
    (λ sets. follows 0 number (named_pairs parts.1) _
    (λ conds. follows 0 number (period_in from to) _ (λ portion. omega arith)))))

delete-has : (number : ℕ) (line : Record) → HasBehind 0 number (delete_meaning line)
delete-has number [] = omega arith
delete-has number (word ∷ []) = omega arith
delete-has number (word ∷ name ∷ []) = omega arith
delete-has number (word ∷ name ∷ from ∷ []) = omega arith
delete-has number (word ∷ name ∷ from ∷ to ∷ fields) =
    formed 0 number (delete_of name from to) (conditions_in fields) (λ conds.
    follows 0 number (name_in name) _
    (λ table. follows 0 number (named_pairs conds) _
    (λ pairs. follows 0 number (period_in from to) _ (λ portion. omega arith))))

columns-have : (number : ℕ) (name : List ℕ) (r : Result (List Column) Refusal) (b : Bool) (e : Refusal)
    → HasBehind 0 number (if b then make_table name r else Err e)
columns-have number name (Ok columns) true e = omega arith
columns-have number name (Err refused) true e = omega arith
columns-have number name r false e = omega arith

named-has : (number : ℕ) (name : List ℕ) (o : Option TableForm) → HasBehind 0 number (name_table name o)
named-has number name None = omega arith
named-has number name (Some form) = columns-have number name (table_columns form) _ _

table-has : (number : ℕ) (line : Record) → HasBehind 0 number (table_meaning line)
table-has number [] = omega arith
table-has number (word ∷ []) = omega arith
table-has number (word ∷ name ∷ fields) = named-has number name (table_form fields)

log-has : (number : ℕ) (line : Record) → HasBehind 0 number (verb_meaning line (Some verb.Log))
log-has number [] = omega arith
log-has number (word ∷ []) = omega arith
log-has number (word ∷ second ∷ rest) = omega arith

-- A command of one record has none.
pub record-behind : (number : ℕ) (line : Record) (v : Option Verb)
    → behind_length (meaning_or_refusal number (verb_meaning line v)) ≤ 0
record-behind number line None = omega arith
record-behind number line (Some verb.Table) = table-has number line
record-behind number line (Some verb.Update) = update-has number line
record-behind number line (Some verb.Delete) = delete-has number line
record-behind number line (Some verb.Rows) = made 0 number _ (with_asof named line) (λ r. omega arith)
record-behind number line (Some verb.At) = made 0 number _ (with_asof dated line) (λ r. omega arith)
record-behind number line (Some verb.Between) = made 0 number _ (spanned line) (λ r. omega arith)
record-behind number line (Some verb.FromTo) = made 0 number _ (spanned line) (λ r. omega arith)
record-behind number line (Some verb.Dip) = made 0 number _ (with_asof named line) (λ r. omega arith)
record-behind number line (Some verb.Join) = made 0 number _ (with_asof compared line) (λ r. omega arith)
record-behind number line (Some verb.Anti) = made 0 number _ (with_asof compared line) (λ r. omega arith)
record-behind number line (Some verb.Agg) = made 0 number _ (with_asof aggregated line) (λ r. omega arith)
record-behind number line (Some verb.Log) = log-has number line

-- A block has at most its body and its `end`.
pub block-behind : (number : ℕ) (opening : Record) (body : List Record)
    → behind_length (meaning_or_refusal number (block_meaning opening body)) ≤ length body + 1
block-behind number opening body = by (begins (codes "load") opening)
  where
    by : (b : Bool)
        → HasBehind (length body + 1) number (if b then load_meaning opening body else check_meaning opening body)
    by true = made (length body + 1) number _ (named opening) (λ name. omega arith)
    by false = made (length body + 1) number _ (with_asof claimed opening) (λ r. omega arith)
