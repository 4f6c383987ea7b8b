-- What a command's records mean, before any table is read.
use Rattle.std.specs.Prelude.{ℕ, ◌+◌, ◌≡◌, ◌⊎◌, ◌&&◌, ℤ, List, [], ◌∷◌, ◌++◌, Bool, true, false, Option, Some, None, Result, Ok, Err, All, bytes_eq, codes, length, option_map, if◌then◌else◌}
use Rattle.std.specs.List.{list_all}
use Rattle.period_core.specs.declared.period.Period.{Period}
use Rattle.row_core.specs.Name.{is_name}
use Rattle.row_core.specs.Refusals.{and_then, map_err, map_ok}
use Rattle.row_core.specs.Schema.{keyed_of, schema_of}
use Rattle.row_core.specs.declared.schema.Column.{Column}
use Rattle.row_core.specs.declared.value.Kind.{Kind}
use Rattle.row_core.specs.declared.value.Kind.TheVariants as kind
use Rattle.command_core.specs.Aggregates.{aggregated}
use Rattle.command_core.specs.Fields.{claimed, compared, dated, name_in, named, period_in, spanned, with_asof}
use Rattle.command_core.specs.Pairs.{Compared, TextPair, named_pairs}
use Rattle.command_core.specs.Portions.{conditions_in, settings_in}
use Rattle.command_core.specs.Records.{Record}
use Rattle.command_core.specs.Refusal.{fault, key_refusal, schema_refusal}
use Rattle.command_core.specs.Words.{begins, is_end, opens_block, verb_of}
use Rattle.command_core.specs.declared.aggregate.Aggregate.{Aggregate}
use Rattle.command_core.specs.declared.refusal.Fault.{Fault}
use Rattle.command_core.specs.declared.refusal.Refusal.{Refusal}
use Rattle.command_core.specs.declared.refusal.Refusal.TheVariants.{BadCommand, BadName, Unended}
use Rattle.command_core.specs.declared.words.Verb.{Verb}
use Rattle.command_core.specs.declared.words.Verb.TheVariants as verb

-- A command that tables may still refuse, or the fault that it has whatever the tables are.
pub data Meaning : Type 0 where
  Refuse : Fault → Meaning
  Make : List ℕ → List Column → Meaning
  Load : List ℕ → List Record → Meaning
  Update : List ℕ → Period → List TextPair → List TextPair → Meaning
  Delete : List ℕ → Period → List TextPair → Meaning
  Rows : List ℕ → Option ℕ → Meaning
  At : List ℕ → ℤ → Option ℕ → Meaning
  Between : List ℕ → ℕ → ℕ → Meaning
  FromTo : List ℕ → ℕ → ℕ → Meaning
  Dip : List ℕ → Option ℕ → Meaning
  Join : Compared → Option ℕ → Meaning
  Anti : Compared → Option ℕ → Meaning
  Agg : Aggregate → Option ℕ → Meaning
  Check : List ℕ → ℕ → Option ℤ → Option ℕ → List Record → Meaning
  Log : Meaning

-- The refusal of the record of this number.
abbrev pub refuse : ℕ → Refusal → Meaning
refuse number refusal = Refuse (fault number refusal)

-- The meaning, or the refusal of the record of this number.
abbrev pub meaning_or_refusal : ℕ → Result Meaning Refusal → Meaning
meaning_or_refusal number (Ok meaning) = meaning
meaning_or_refusal number (Err refusal) = refuse number refusal

-- ---- new tables

-- The kind that a word names.
abbrev pub kind_named : List ℕ → Option Kind
kind_named word =
    if bytes_eq word (codes "int") then Some kind.Int
    else if bytes_eq word (codes "text") then Some kind.Text
    else None

-- The columns, and the names of the key's columns. A table without a key has no such names.
abbrev pub TableForm : Type 0
TableForm = List (List ℕ × Kind) × List (List ℕ)

-- The form with one more column at the beginning, if that column's kind is known and the form is right.
abbrev pub column_before : List ℕ → Option Kind → Option TableForm → Option TableForm
column_before name None more = None
column_before name (Some kind) more = option_map (λ form. ((name, kind) ∷ form.0, form.1)) more

-- Fields that are column names and kinds, alternately, up to a `key` in a name's position. The names of the key's
-- columns, at least one, come after `key`.
abbrev pub table_form : Record → Option TableForm
table_form [] = Some ([], [])
table_form (last ∷ []) = None
table_form (name ∷ word ∷ fields) =
    if bytes_eq name (codes "key") then Some ([], word ∷ fields)
    else column_before name (kind_named word) (table_form fields)

-- The columns with their key, or the first refusal. The columns are tested before the key.
abbrev pub table_columns : TableForm → Result (List Column) Refusal
table_columns form =
    and_then (map_err schema_refusal (schema_of form.0)) (λ columns. map_err key_refusal (keyed_of columns form.1))

-- The texts for the columns and for the key are names.
abbrev pub is_named : TableForm → Bool
is_named form = list_all (λ column. is_name column.0) form.0 && list_all is_name form.1

-- A new table of these columns, or why they are refused.
abbrev pub make_table : List ℕ → Result (List Column) Refusal → Result Meaning Refusal
make_table name columns = map_ok (Make name) columns

-- A new table, if its name and the names of its columns and its key are names.
abbrev pub name_table : List ℕ → Option TableForm → Result Meaning Refusal
name_table name None = Err BadCommand
name_table name (Some form) =
    if is_name name && is_named form then make_table name (table_columns form) else Err BadName

-- What a record of `table` means.
abbrev pub table_meaning : Record → Result Meaning Refusal
table_meaning (word ∷ name ∷ fields) = name_table name (table_form fields)
table_meaning line = Err BadCommand

-- ---- portions of tables

-- What an update means. The table's name is tested first, then the names in settings and conditions, then the portion.
abbrev pub update_of : List ℕ → List ℕ → List ℕ → List TextPair × List TextPair → Result Meaning Refusal
update_of name from to parts =
    and_then (name_in name) (λ table.
    and_then (named_pairs parts.0) (λ sets.
    and_then (named_pairs parts.1) (λ conds.
    and_then (period_in from to) (λ portion. Ok (Update table portion sets conds)))))

-- What a deletion means, which has no settings.
abbrev pub delete_of : List ℕ → List ℕ → List ℕ → List TextPair → Result Meaning Refusal
delete_of name from to conds =
    and_then (name_in name) (λ table.
    and_then (named_pairs conds) (λ named.
    and_then (period_in from to) (λ portion. Ok (Delete table portion named))))

-- What follows from the fields, or `BadCommand` if they don't have the right form.
abbrev pub if_formed : {T : Type 0} → (T → Result Meaning Refusal) → Option T → Result Meaning Refusal
if_formed follow None = Err BadCommand
if_formed follow (Some fields) = follow fields

-- What a record of `update` means.
abbrev pub update_meaning : Record → Result Meaning Refusal
update_meaning (word ∷ name ∷ from ∷ to ∷ fields) = if_formed (update_of name from to) (settings_in fields)
update_meaning line = Err BadCommand

-- What a record of `delete` means.
abbrev pub delete_meaning : Record → Result Meaning Refusal
delete_meaning (word ∷ name ∷ from ∷ to ∷ fields) = if_formed (delete_of name from to) (conditions_in fields)
delete_meaning line = Err BadCommand

-- ---- queries

-- What a record of `rows` means.
abbrev pub rows_meaning : Record → Result Meaning Refusal
rows_meaning line = map_ok (λ r. Rows r.0 r.1) (with_asof named line)

-- What a record of `at` means.
abbrev pub at_meaning : Record → Result Meaning Refusal
at_meaning line = map_ok (λ r. At r.0.0 r.0.1 r.1) (with_asof dated line)

-- What a record of `dip` means.
abbrev pub dip_meaning : Record → Result Meaning Refusal
dip_meaning line = map_ok (λ r. Dip r.0 r.1) (with_asof named line)

-- What a record of `between` means.
abbrev pub between_meaning : Record → Result Meaning Refusal
between_meaning line = map_ok (λ r. Between r.0 r.1.0 r.1.1) (spanned line)

-- What a record of `fromto` means.
abbrev pub from_to_meaning : Record → Result Meaning Refusal
from_to_meaning line = map_ok (λ r. FromTo r.0 r.1.0 r.1.1) (spanned line)

-- What a record of `join` means.
abbrev pub join_meaning : Record → Result Meaning Refusal
join_meaning line = map_ok (λ r. Join r.0 r.1) (with_asof compared line)

-- What a record of `anti` means.
abbrev pub anti_meaning : Record → Result Meaning Refusal
anti_meaning line = map_ok (λ r. Anti r.0 r.1) (with_asof compared line)

-- What a record of `agg` means.
abbrev pub agg_meaning : Record → Result Meaning Refusal
agg_meaning line = map_ok (λ r. Agg r.0 r.1) (with_asof aggregated line)

-- What a record of `log` means. It has no other field.
abbrev pub log_meaning : Record → Result Meaning Refusal
log_meaning (word ∷ []) = Ok Log
log_meaning line = Err BadCommand

-- ---- commands

-- What a command of one record means, by its word.
abbrev pub verb_meaning : Record → Option Verb → Result Meaning Refusal
verb_meaning line None = Err BadCommand
verb_meaning line (Some verb.Table) = table_meaning line
verb_meaning line (Some verb.Update) = update_meaning line
verb_meaning line (Some verb.Delete) = delete_meaning line
verb_meaning line (Some verb.Rows) = rows_meaning line
verb_meaning line (Some verb.At) = at_meaning line
verb_meaning line (Some verb.Between) = between_meaning line
verb_meaning line (Some verb.FromTo) = from_to_meaning line
verb_meaning line (Some verb.Dip) = dip_meaning line
verb_meaning line (Some verb.Join) = join_meaning line
verb_meaning line (Some verb.Anti) = anti_meaning line
verb_meaning line (Some verb.Agg) = agg_meaning line
verb_meaning line (Some verb.Log) = log_meaning line

-- What a command of one record means.
abbrev pub record_meaning : Record → Result Meaning Refusal
record_meaning line = verb_meaning line (verb_of line)

-- What a block of `load` means.
abbrev pub load_meaning : Record → List Record → Result Meaning Refusal
load_meaning opening body = map_ok (λ name. Load name body) (named opening)

-- What a block of `check` means.
abbrev pub check_meaning : Record → List Record → Result Meaning Refusal
check_meaning opening body = map_ok (λ r. Check r.0.0 r.0.1.0 r.0.1.1 r.1 body) (with_asof claimed opening)

-- What a block means, by the word that opens it.
abbrev pub block_meaning : Record → List Record → Result Meaning Refusal
block_meaning opening body =
    if begins (codes "load") opening then load_meaning opening body else check_meaning opening body

-- No record of a block's body ends it.
abbrev pub IsBody : List Record → Type 0
IsBody body = All (λ line. is_end line ≡ false) body

-- A command of one record.
pub record MeansRecord (number : ℕ) (own : List Record) (meaning : Meaning) : Type 0 where
  pub opening : Record
  pub alone : own ≡ opening ∷ []
  pub plain : opens_block opening ≡ false
  pub means : meaning ≡ meaning_or_refusal number (record_meaning opening)

-- A block, which runs to the next `end`.
pub record MeansBlock (number : ℕ) (own : List Record) (meaning : Meaning) : Type 0 where
  pub opening : Record
  pub body : List Record
  pub last : Record
  pub whole : own ≡ opening ∷ (body ++ last ∷ [])
  pub opens : opens_block opening ≡ true
  pub inside : IsBody body
  pub closes : is_end last ≡ true
  pub means : meaning ≡ meaning_or_refusal number (block_meaning opening body)

-- A block without its `end` takes the rest of the script.
pub record MeansUnended (number : ℕ) (own later : List Record) (meaning : Meaning) : Type 0 where
  pub opening : Record
  pub body : List Record
  pub whole : own ≡ opening ∷ body
  pub opens : opens_block opening ≡ true
  pub inside : IsBody body
  pub last : later ≡ []
  pub means : meaning ≡ refuse number Unended

-- One command takes the records `own`, followed by `later`, and has this meaning. `number` is the number of its first
-- record.
abbrev pub Means : ℕ → List Record → List Record → Meaning → Type 0
Means number own later meaning =
    MeansRecord number own meaning ⊎ MeansBlock number own meaning ⊎ MeansUnended number own later meaning

-- How many records a block that isn't refused has after its first; 0 for other commands.
abbrev pub behind_length : Meaning → ℕ
behind_length (Load name body) = length body + 1
behind_length (Check name parts instant asof body) = length body + 1
behind_length meaning = 0
