-- Names of a new table's columns, read in order.
use Rattle.std.proofs.Common.{◌≡◌, ℕ, zero, suc, ◌+◌, ◌<◌, ◌&&◌, Bool, true, false, List, [], ◌∷◌, ◌++◌, length, take, drop, get_or, Some, None, Result, Err, refl, sym, ap, ◌∙◌, arith, if◌then◌else◌}
use Rattle.std.specs.Borrow.{Bor}
use Rattle.std.specs.List.{list_all, slice_get}
use Rattle.row_core.specs.Name.{is_name, name_of}
use Rattle.row_core.specs.Refusals.{Reads}
use Rattle.row_core.specs.declared.failure.Failure.{Failure}
use Rattle.row_core.specs.declared.failure.Failure.TheVariants.{Refused, NoMemory}
use Rattle.row_core.specs.declared.schema.Column.{Column}
use Rattle.row_core.specs.declared.value.Kind.{Kind}
use Rattle.command_core.specs.Command.{meaning_of}
use Rattle.command_core.specs.Meaning.{TableForm, make_table, name_table, table_columns, table_form, table_meaning}
use Rattle.command_core.specs.Records.{Record}
use Rattle.command_core.specs.TableCommand.{raw_column, raw_of}
use Rattle.command_core.specs.declared.refusal.Refusal.{Refusal}
use Rattle.command_core.specs.declared.refusal.Refusal.TheVariants.{BadName}
use Rattle.command_core.proofs.Cutting.{drop-slice_get}

-- All columns have names.
abbrev all_named : List (List ℕ × Kind) → Bool
all_named columns = list_all (λ column. is_name column.0) columns

pub none-named : (text : List ℕ) → None ≡ name_of text → is_name text ≡ false
none-named text e = by (is_name text) refl e
  where
    by : (b : Bool) → is_name text ≡ b → None ≡ (if b then Some text else None) → is_name text ≡ false
    by true same e = absurd (cc)
    by false same e = same

pub some-named : (text name : List ℕ) → Some name ≡ name_of text → (is_name text ≡ true) × (name ≡ text)
some-named text name e = by (is_name text) refl e
  where
    by : (b : Bool) → is_name text ≡ b → Some name ≡ (if b then Some text else None) → (is_name text ≡ true)
        × (name ≡ text)
    by true same e = (same, cc)
    by false same e = absurd (cc)

-- A column without a name is found.
pub all_named-fails : (raw : List (Bor (List ℕ) × Kind)) (place : ℕ) (d : Bor (List ℕ) × Kind) → place < length raw
    → is_name (get_or raw place d).0.now ≡ false → all_named (raw_of (drop place raw)) ≡ false
all_named-fails [] place d lt e = absurd (omega arith)
all_named-fails (x ∷ raw) zero d lt e = ap (λ b. b && all_named (raw_of raw)) e
all_named-fails (x ∷ raw) (suc place) d lt e = all_named-fails raw place d (omega arith) e

-- After a column with a name, the others decide.
pub all_named-more : (raw : List (Bor (List ℕ) × Kind)) (place : ℕ) (d : Bor (List ℕ) × Kind) → place < length raw
    → is_name (get_or raw place d).0.now ≡ true
    → all_named (raw_of (drop (place + 1) raw)) ≡ all_named (raw_of (drop place raw))
all_named-more [] place d lt e = absurd (omega arith)
all_named-more (x ∷ raw) zero d lt e = sym (ap (λ b. b && all_named (raw_of raw)) e)
all_named-more (x ∷ raw) (suc place) d lt e =
    let next : suc place + 1 ≡ suc (place + 1) = omega arith in
    rw next (all_named-more raw place d (omega arith) e)

-- The columns before an index, and the one there.
pub raw_of-more : (raw : List (Bor (List ℕ) × Kind)) (place : ℕ) (d : Bor (List ℕ) × Kind) → place < length raw
    → raw_of (take place raw) ++ raw_column (get_or raw place d) ∷ [] ≡ raw_of (take (place + 1) raw)
raw_of-more [] place d lt = absurd (omega arith)
raw_of-more (x ∷ raw) zero d lt = refl
raw_of-more (x ∷ raw) (suc place) d lt =
    let next : suc place + 1 ≡ suc (place + 1) = omega arith in
    rw next (ap (λ l. raw_column x ∷ l) (raw_of-more raw place d (omega arith)))

-- A text for the key isn't a name.
pub key_named-fails : (key : List (List ℕ)) (place : ℕ) (name : List ℕ) → slice_get key place ≡ Some name
    → is_name name ≡ false
    → list_all is_name (drop place key) ≡ false
key_named-fails key place name at e =
    ap (list_all is_name) (drop-slice_get key place name at) ∙ ap (λ b. b && list_all is_name (drop (place + 1) key)) e

pub key_named-more : (key : List (List ℕ)) (place : ℕ) (name : List ℕ) → slice_get key place ≡ Some name
    → is_name name ≡ true
    → list_all is_name (drop (place + 1) key) ≡ list_all is_name (drop place key)
key_named-more key place name at e =
    sym
    (ap (list_all is_name) (drop-slice_get key place name at)
    ∙ ap (λ b. b && list_all is_name (drop (place + 1) key)) e)

-- The table's text isn't a name.
pub name_table-unnamed : (table : List ℕ) (form : TableForm) → is_name table ≡ false
    → name_table table (Some form) ≡ Err BadName
name_table-unnamed table form e = rw e refl

-- The table's text is a name, a column's isn't.
pub name_table-column : (table : List ℕ) (form : TableForm) → is_name table ≡ true → all_named form.0 ≡ false
    → name_table table (Some form) ≡ Err BadName
name_table-column table form e f = rw (e, f) refl

-- The table and the columns have names, but a text for the key isn't a name.
pub name_table-key : (table : List ℕ) (form : TableForm) → is_name table ≡ true → all_named form.0 ≡ true
    → list_all is_name form.1 ≡ false
    → name_table table (Some form) ≡ Err BadName
name_table-key table form e f g = rw (e, f, g) refl

-- All texts are names.
name_table-named : (table : List ℕ) (form : TableForm) → is_name table ≡ true → all_named form.0 ≡ true
    → list_all is_name form.1 ≡ true
    → name_table table (Some form) ≡ make_table table (table_columns form)
name_table-named table form e f g = rw (e, f, g) refl

-- The same for the columns and the key that were read.
pub name_table-made : (table : List ℕ) (form : TableForm) (columns : List (List ℕ × Kind)) (key : List (List ℕ))
    → is_name table ≡ true
    → (all_named form.0 ≡ true) × (columns ≡ form.0) → (list_all is_name form.1 ≡ true) × (key ≡ form.1)
    → name_table table (Some form) ≡ make_table table (table_columns (columns, key))
name_table-made table form columns key e (all, same) (names, own) =
    name_table-named table form e all names ∙ ap (λ c. make_table table (table_columns (c, form.1))) (sym same)
    ∙ ap (λ k. make_table table (table_columns (columns, k))) (sym own)

-- If the columns can't be read, nor can the table.
pub make_table-unread : (table : List ℕ) (columns : Result (List Column) Refusal) (why : Failure Refusal)
    → Reads {T = List Column} (λ schema. schema) columns (Err why)
    → Reads meaning_of (make_table table columns) (Err why)
make_table-unread table columns (Refused refusal) e = ap (make_table table) e
make_table-unread table columns NoMemory e = tt

-- The field after the record's word is the table's name.
pub table_meaning-named : (fields : Record) (name : List ℕ) → slice_get fields 1 ≡ Some name
    → table_meaning fields ≡ name_table name (table_form (drop 2 fields))
table_meaning-named [] name e = absurd (cc)
table_meaning-named (word ∷ []) name e = absurd (cc)
table_meaning-named (word ∷ own ∷ fields) name e =
    let same : own ≡ name = cc in
    ap (λ n. name_table n (table_form fields)) same
