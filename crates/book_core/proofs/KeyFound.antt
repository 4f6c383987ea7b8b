-- The test of keys of a table that is found.
use Rattle.std.proofs.Common.{◌≡◌, ℕ, List, ◌++◌, length, map, Bool, false, not, Option, Some, None, ap, arith, sym, ◌∙◌}
use Rattle.std.specs.Prelude.{IfSome, filter, option_map}
use Rattle.std.specs.List.{AllByRecursion}
use Rattle.std.proofs.lemmas.List.{take_all}
use Rattle.std.proofs.lemmas.List.Elements.{filter_agree}
use Rattle.row_core.specs.Schema.{key_of}
use Rattle.row_core.specs.declared.row.Row.{Row}
use Rattle.row_core.specs.declared.schema.Column.{Column}
use Rattle.version_core.specs.Keys.{overlap_after, break_key}
use Rattle.version_core.specs.Rows as by_place
use Rattle.version_core.specs.declared.change.RowsChange.{RowsChange}
use Rattle.version_core.specs.OpenVersions.{current}
use Rattle.book_core.specs.Bound.{DoesTheSame, IsOfRows}
use Rattle.book_core.specs.Rows.{drafts_of, is_touched, removes}
use Rattle.table_core.specs.Numbered.{unnumbered}
use Rattle.book_core.specs.declared.change.Change.{Change}
use Rattle.book_core.specs.declared.change.Change.TheVariants.{Make, Load, Update, Delete}
use Rattle.version_core.proofs.Unbroken.{cut-unbroken}
use Rattle.book_core.specs.StoredTables.{IsUnbroken, overlap_in, AreKept, IsWellKept, StoredTable, kept_table, table_at}
use Rattle.book_core.specs.History.{History, IsLegal, state_after}
use Rattle.book_core.specs.State.{Table, breaks_key, leaves_overlap, table_named, table_of}
use Rattle.book_core.proofs.Applying.{found_in, newest_of}
use Rattle.book_core.proofs.KeyLaw.{breaks-changed, found-unbroken, rows_left, unbroken}
use Rattle.book_core.proofs.Shown.{shown-current}
use Rattle.book_core.proofs.Tables.{well_named}

-- the test of the rows that the change keeps and adds, given a table's rows
tested : Change → List Column → List Row → Bool
tested c schema rows = break_key (key_of schema) (rows_left c schema rows ++ drafts_of c schema rows)

left-same : (p q : Row → Bool) → ((row : Row) → p row ≡ q row) → (rows : List Row)
    → filter (λ row. not (p row)) rows ≡ filter (λ row. not (q row)) rows
left-same p q same rows = filter_agree (λ row. not (p row)) (λ row. not (q row)) (λ row. ap not (same row)) rows

-- the test for a change by column indexes with the same effect
after-bound : (c : Change) (r : RowsChange) (t : StoredTable) → DoesTheSame c t.schema r
    → overlap_after r (key_of t.schema) t.versions ≡ tested c t.schema (current t.versions)
unfolding tested
after-bound c r t same =
    let rows = current t.versions in
    ap (λ l. break_key (key_of t.schema) (map unnumbered l ++ by_place.drafts_of r rows))
    (left-same (by_place.removes r) (removes c t.schema) same.out rows)
    ∙ ap (λ l. break_key (key_of t.schema) (rows_left c t.schema rows ++ l)) (same.new rows)

-- the test decides whether the change leaves overlapping rows with the same key
overlap-found : (n : ℕ) (c : Change) (t : StoredTable) → IsOfRows c → IsWellKept n t → IsUnbroken t
    → tested c t.schema (current t.versions) ≡ leaves_overlap c (Some (table_at n t))
unfolding tested
overlap-found n (Make name schema) t of well none = absurd of
overlap-found n (Load name rows) t of well none =
    ap (tested (Load name rows) t.schema) (sym (shown-current n t.versions well.times))
    ∙ sym (breaks-changed (Load name rows) (table_at n t))
overlap-found n (Update name portion sets conds) t of well none =
    ap (tested (Update name portion sets conds) t.schema) (sym (shown-current n t.versions well.times))
    ∙ sym (breaks-changed (Update name portion sets conds) (table_at n t))
overlap-found n (Delete name portion conds) t of well none =
    cut-unbroken (is_touched t.schema portion conds) portion (key_of t.schema) (current t.versions) none

pub overlap-in : (n : ℕ) (c : Change) (r : RowsChange) (t : StoredTable) (o : Option StoredTable) → IsOfRows c
    → DoesTheSame c t.schema r → IsWellKept n t → IsUnbroken t → o ≡ Some t
    → overlap_after r (key_of t.schema) t.versions ≡ overlap_in n c o
overlap-in n c r t o of same well none e =
    after-bound c r t same ∙ overlap-found n c t of well none ∙ ap (overlap_in n c) (sym e)

-- ---- the tables of a book

-- they are the tables of the newest state, where no rows with the same key overlap
unbroken-shown : (n : ℕ) (o : Option StoredTable)
    → IfSome (option_map (table_at n) o) (λ (t : Table). breaks_key t ≡ false) → IfSome o (IsWellKept n)
    → IfSome o IsUnbroken
unbroken-shown n None h well = tt
unbroken-shown n (Some t) h well =
    ap (λ rows. break_key (key_of t.schema) (map unnumbered rows)) (sym (shown-current n t.versions well.times)) ∙ h

pub unbroken-named : (h now : History) (ts : List StoredTable) (name : List ℕ) → AreKept h ts → h ≡ now
    → IfSome (kept_table name ts) IsUnbroken
unbroken-named h now ts name k v =
    let n = length now in
    let legal : IsLegal now = rw v at k.legal in
    let all : AllByRecursion (λ (t : Table). breaks_key t ≡ false) (state_after now) =
    rw (take_all n now (omega arith)) at (unbroken now n legal) in
    let shown = found-unbroken name (state_after now) all in
    unbroken-shown n (kept_table name ts) (rw (found_in n (state_after now) ts name (newest_of h now ts k v)) shown)
    (rw (sym v) (well_named h ts name k))

-- the test of keys of the table with that name is the test of the newest state
pub overlap-named : (h now : History) (ts : List StoredTable) (c : Change) (n : ℕ) → AreKept h ts → h ≡ now
    → n ≡ length h
    → overlap_in n c (kept_table (table_named c) ts) ≡ leaves_overlap c (table_of (state_after now) (table_named c))
overlap-named h now ts c n k v e =
    ap (λ m. overlap_in m c (kept_table (table_named c) ts)) (e ∙ ap length v)
    ∙ ap (leaves_overlap c) (found_in (length now) (state_after now) ts (table_named c) (newest_of h now ts k v))
