-- A new table's columns, read in order, and its key.
use Rattle.std.proofs.Common.{◌≡◌, ℕ, ◌≤◌, List, [], ◌∷◌, ◌++◌, Bool, false, length, drop, Option, Some, None, refl, sym, ap, ◌∙◌, arith, append_assoc}
use Rattle.std.specs.Borrow.{Bor}
use Rattle.std.specs.Prelude.{codes, if◌then◌else◌, option_map}
use Rattle.std.proofs.lemmas.List.{map-append}
use Rattle.row_core.specs.declared.value.Kind.{Kind}
use Rattle.command_core.specs.Meaning.{TableForm, column_before, kind_named, table_form}
use Rattle.command_core.specs.Records.{Record}
use Rattle.command_core.specs.TableCommand.{first_column, raw_column, raw_of}
use Rattle.command_core.specs.Words.{begins}

-- The columns already read, followed by the form of the rest.
abbrev pub form_behind : List (List ℕ × Kind) → Option TableForm → Option TableForm
form_behind columns more = option_map (λ rest. (columns ++ rest.0, rest.1)) more

-- The form of two fields and the rest, by whether the first is `key`.
abbrev behind_word : List (List ℕ × Kind) → Record → Bool → List ℕ → List ℕ → Option TableForm
behind_word columns fields is_key name word =
    form_behind columns
    (if is_key then Some ([], word ∷ fields) else column_before name (kind_named word) (table_form fields))

behind-one : (columns : List (List ℕ × Kind)) (name : List ℕ) (kind : Kind) (more : Option TableForm)
    → form_behind columns (column_before name (Some kind) more) ≡ form_behind (columns ++ (name, kind) ∷ []) more
behind-one columns name kind None = refl
behind-one columns name kind (Some rest) =
    ap (λ l. Some (l, rest.1)) (sym (append_assoc columns ((name, kind) ∷ []) rest.0))

-- One more column.
pub column-here : (fields : Record) (columns : List (List ℕ × Kind)) (column : List ℕ × Kind) → 2 ≤ length fields
    → begins (codes "key") fields ≡ false → first_column fields ≡ Some column
    → form_behind columns (table_form fields) ≡ form_behind (columns ++ column ∷ []) (table_form (drop 2 fields))
column-here [] columns column two e some = absurd (omega arith)
column-here (name ∷ []) columns column two e some = absurd (omega arith)
column-here (name ∷ word ∷ fields) columns column two e some =
    ap (λ is_key. behind_word columns fields is_key name word) e ∙ by_kind (kind_named word) some
  where
    by_kind : (kind : Option Kind) → option_map {U = List ℕ × Kind} (λ k. (name, k)) kind ≡ Some column
        → form_behind columns (column_before name kind (table_form fields))
        ≡ form_behind (columns ++ column ∷ []) (table_form fields)
    by_kind None n = absurd (cc)
    by_kind (Some kind) n =
        let same : (name, kind) ≡ column = cc in
        behind-one columns name kind (table_form fields)
        ∙ ap (λ (c : List ℕ × Kind). form_behind (columns ++ c ∷ []) (table_form fields)) same

-- The same for the columns in memory.
pub raw_of-push : (columns kept : List (Bor (List ℕ) × Kind)) (column : Bor (List ℕ) × Kind)
    → kept ≡ columns ++ column ∷ []
    → raw_of kept ≡ raw_of columns ++ raw_column column ∷ []
raw_of-push columns kept column e = ap raw_of e ∙ map-append raw_column columns (column ∷ [])
