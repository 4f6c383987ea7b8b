-- Lemmas for the functions that read a book.
use Rattle.std.proofs.Common.{◌≡◌, ℕ, ◌≤◌, List, [], ◌∷◌, ◌++◌, length, map, true, false, cond, Option, Some, None, refl, ap, sym, ◌∙◌}
use Rattle.std.specs.Prelude.{option_map, unwrap_or, IfNone, option_copied, bytes_eq}
use Rattle.std.specs.Borrow.{Bor}
use Rattle.std.proofs.lemmas.List.{take-append-le}
use Rattle.version_core.specs.Shown.{shown}
use Rattle.book_core.specs.State.{table_of, rows_of}
use Rattle.book_core.specs.History.{History, state_after, rows_at}
use Rattle.book_core.specs.StoredTables.{kept_table, StoredTable, table_at, kept_tables_from, AreKept}
use Rattle.book_core.proofs.Shown.{rows_at-kept, newest-kept}

-- a lookup of a table as of commit n
pub table_of-map : (n : ℕ) (ts : List StoredTable) (name : List ℕ)
    → table_of (map (table_at n) ts) name ≡ option_map (table_at n) (kept_table name ts)
table_of-map n [] name = refl
table_of-map n (t ∷ ts) name =
    elim (bytes_eq t.name name) as
    (λ b. cond b (Some (table_at n t)) (table_of (map (table_at n) ts) name) ≡ option_map (table_at n)
    (cond b (Some t) (kept_table name ts))) [ true ↦ refl | false ↦ table_of-map n ts name ]

-- a lookup in the newest state
pub table_of-newest : (h : History) (ts : List StoredTable) (name : List ℕ) (o : Option StoredTable)
    → ts ≡ kept_tables_from 0 [] h → o ≡ kept_table name ts
    → table_of (state_after h) name ≡ option_map (table_at (length h)) o
table_of-newest h ts name o e f =
    ap (λ s. table_of s name) (sym (newest-kept h)) ∙ ap (λ l. table_of (map (table_at (length h)) l) name) (sym e)
    ∙ table_of-map (length h) ts name ∙ ap (option_map (table_at (length h))) (sym f)

-- the rows as of commit n of the table with that name
pub rows_at-found : (h : History) (ts : List StoredTable) (name : List ℕ) (n : ℕ) (t : StoredTable)
    → ts ≡ kept_tables_from 0 [] h → n ≤ length h → Some t ≡ kept_table name ts → shown n t.versions ≡ rows_at h n name
rows_at-found h ts name n t e k f =
    ap (λ o. unwrap_or (option_map (λ u. u.rows) (option_map (table_at n) o)) []) f
    ∙ ap (λ o. unwrap_or (option_map (λ u. u.rows) o) []) (sym (table_of-map n ts name))
    ∙ ap (λ l. rows_of (map (table_at n) l) name) e
    ∙ rows_at-kept h n name k

-- the past does not change
pub rows_at-append : (h more : History) (n : ℕ) (name : List ℕ) → n ≤ length h
    → rows_at (h ++ more) n name ≡ rows_at h n name
rows_at-append h more n name k = ap (λ l. rows_of (state_after l) name) (take-append-le n h more k)

-- if no table is found, none exists
pub table_of-absent : (h now : History) (ts asked : List StoredTable) (name : List ℕ) (o : Option (Bor StoredTable))
    → AreKept h ts → h ≡ now → asked ≡ ts → option_copied o ≡ kept_table name asked
    → IfNone o (table_of (state_after now) name ≡ None)
table_of-absent h now ts asked name None k v e f =
    table_of-newest now asked name None (e ∙ k.tables ∙ ap (kept_tables_from 0 []) v) f
table_of-absent h now ts asked name (Some t) k v e f = tt
