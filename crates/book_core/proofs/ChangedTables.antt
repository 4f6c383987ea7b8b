-- One commit in the tables.
use Rattle.std.proofs.Common.{◌≡◌, ℕ, ◌+◌, ◌≤◌, List, [], ◌∷◌, ◌++◌, Bool, true, false, ◌&&◌, cond, Option, Some, None, length, map, get_or, set, refl, ap, sym, ◌∙◌, arith}
use Rattle.std.specs.Prelude.{position, count_by, IfSome, bytes_eq, is_none}
use Rattle.std.specs.List.{position_from}
use Rattle.std.proofs.lemmas.Iterator.Adapters.{position_from-zero}
use Rattle.list_core.proofs.MadeLemmas.{count-cons}
use Rattle.row_core.specs.declared.row.Row.{Row}
use Rattle.row_core.specs.declared.schema.Column.{Column}
use Rattle.version_core.specs.Limits.{version_limit}
use Rattle.table_core.specs.Numbered.{numbered}
use Rattle.version_core.specs.Rows as by_place
use Rattle.version_core.specs.declared.change.RowsChange.{RowsChange}
use Rattle.version_core.specs.declared.version.Version.{Version}
use Rattle.book_core.specs.Bound.{DoesTheSame}
use Rattle.book_core.specs.Rows.{drafts_of, removes}
use Rattle.version_core.specs.OpenVersions.{closed, current, versions_after}
use Rattle.version_core.specs.Made.{made}
use Rattle.version_core.specs.Shown.{shown}
use Rattle.book_core.specs.declared.change.Change.{Change}
use Rattle.book_core.specs.declared.change.Change.TheVariants.{Make}
use Rattle.version_core.proofs.ListLemmas.{at_some}
use Rattle.book_core.specs.State.{changed}
use Rattle.book_core.specs.StoredTables.{kept_table, IsWellKept, StoredTable, added_in, at_kept, closed_in, kept_table_after, table_at}
use Rattle.book_core.proofs.Applying.{place}
use Rattle.book_core.proofs.Shown.{shown-current}

find-absent_from : (name : List ℕ) (ts : List StoredTable) (i : ℕ)
    → position_from (λ t. bytes_eq t.name name) i ts ≡ None → kept_table name ts ≡ None
find-absent_from name [] i = λ h. refl
find-absent_from name (t ∷ ts) i =
    elim (bytes_eq t.name name) as
    (λ b. cond b (Some i) (position_from (λ t. bytes_eq t.name name) (i + 1) ts) ≡ None
    → cond b (Some t) (kept_table name ts) ≡ None) [
      | true ↦ λ h. absurd (cc)
      | false ↦ λ h. find-absent_from name ts (i + 1) h
    ]

-- without an index, the table doesn't exist
pub find-absent : (name : List ℕ) (ts : List StoredTable) → position (λ t. bytes_eq t.name name) ts ≡ None
    → kept_table name ts ≡ None
find-absent name ts e = find-absent_from name ts 0 (sym (position_from-zero (λ t. bytes_eq t.name name) ts) ∙ e)

-- the table at the index is the one that is found
pub find-place : (name : List ℕ) (ts : List StoredTable) (at : ℕ) (t : StoredTable)
    → position (λ t. bytes_eq t.name name) ts ≡ Some at → t ≡ get_or ts at t → kept_table name ts ≡ Some t
find-place name ts at t e g = (place name ts at e).found t ∙ ap Some (sym g)

-- a fact about the table with that name
pub holds-place : (P : StoredTable → Type 0) (name : List ℕ) (ts : List StoredTable) (at : ℕ) (t : StoredTable)
    → position (λ t. bytes_eq t.name name) ts ≡ Some at → t ≡ get_or ts at t → IfSome (kept_table name ts) P → P t
holds-place P name ts at t e g h = at_some P (kept_table name ts) t (find-place name ts at t e g) h

-- a table is replaced at its index
pub at_kept-place : (name : List ℕ) (f : StoredTable → StoredTable) (ts : List StoredTable) (at : ℕ)
    (t new : StoredTable) → position (λ t. bytes_eq t.name name) ts ≡ Some at → t ≡ get_or ts at t → new ≡ f t
    → set ts at new ≡ at_kept name f ts
at_kept-place name f ts at t new e g h = ap (set ts at) (h ∙ ap f g) ∙ sym ((place name ts at e).changes f t)

pub none_counted : (rows : List Row) → count_by (λ row. false) rows ≡ 0
none_counted [] = refl
none_counted (row ∷ rows) = count-cons (λ row. false) row rows ∙ omega (arith, none_counted rows)

pub closed_in-make : (n : ℕ) (name : List ℕ) (schema : List Column) (o : Option StoredTable)
    → closed_in n (Make name schema) o ≡ 0
closed_in-make n name schema None = refl
closed_in-make n name schema (Some t) = none_counted (shown n t.versions)

-- ---- a change by column indexes with the same effect

closed-same : (n : ℕ) (p q : Row → Bool) → ((row : Row) → p row ≡ q row) → (vs : List Version)
    → map (closed n p) vs ≡ map (closed n q) vs
closed-same n p q same [] = refl
closed-same n p q same (v ∷ vs) =
    ap (λ b. cond (is_none v.systo && b) (record v { systo = Some n }) v ∷ map (closed n p) vs) (same v.row)
    ∙ ap (λ l. closed n q v ∷ l) (closed-same n p q same vs)

count-same : (p q : Row → Bool) → ((row : Row) → p row ≡ q row) → (rows : List Row) → count_by p rows ≡ count_by q rows
count-same p q same [] = refl
count-same p q same (row ∷ rows) =
    count-cons p row rows
    ∙ ap (λ b. cond b 1 0 + count_by p rows) (same row)
    ∙ ap (λ n. cond (q row) 1 0 + n) (count-same p q same rows)
    ∙ sym (count-cons q row rows)

-- the open versions are the ones visible as of the newest commit
pub versions_after-kept : (n : ℕ) (c : Change) (r : RowsChange) (t : StoredTable) → DoesTheSame c t.schema r
    → IsWellKept n t → record t { versions = versions_after (n + 1) r t.versions } ≡ kept_table_after n c t
versions_after-kept n c r t same well =
    ap (λ vs. record t {
      versions = vs ++ made (n + 1) (numbered (length t.versions) (by_place.drafts_of r (current t.versions)));
    })
    (closed-same (n + 1) (by_place.removes r) (removes c t.schema) same.out t.versions)
    ∙ ap (λ ds. record t {
      versions = map (closed (n + 1) (removes c t.schema)) t.versions ++ made (n + 1)
          (numbered (length t.versions) ds);
    })
    (same.new (current t.versions) ∙ ap (drafts_of c t.schema) (sym (shown-current n t.versions well.times)))

-- how many versions a change adds and closes
pub added-current : (n : ℕ) (c : Change) (r : RowsChange) (t : StoredTable) (o : Option StoredTable)
    → DoesTheSame c t.schema r → IsWellKept n t → o ≡ Some t
    → length (by_place.drafts_of r (current t.versions)) ≡ added_in n c o
added-current n c r t o same well e =
    ap length (same.new (current t.versions))
    ∙ ap (λ rows. length (drafts_of c t.schema rows)) (sym (shown-current n t.versions well.times))
    ∙ ap (added_in n c) (sym e)

pub taken-current : (n : ℕ) (c : Change) (r : RowsChange) (t : StoredTable) (o : Option StoredTable)
    → DoesTheSame c t.schema r → IsWellKept n t → o ≡ Some t
    → count_by (by_place.removes r) (current t.versions) ≡ closed_in n c o
taken-current n c r t o same well e =
    count-same (by_place.removes r) (removes c t.schema) same.out (current t.versions)
    ∙ ap (count_by (removes c t.schema)) (sym (shown-current n t.versions well.times)) ∙ ap (closed_in n c) (sym e)

-- they don't exceed the limit if they don't in the table as it is read
pub room-current : (n : ℕ) (c : Change) (r : RowsChange) (o : Option StoredTable)
    → IfSome o (λ t. DoesTheSame c t.schema r) → IfSome o (IsWellKept n)
    → IfSome o (λ t. (changed c (table_at n t)).used ≤ version_limit)
    → IfSome o (λ t. length t.versions + length (by_place.drafts_of r (current t.versions)) ≤ version_limit)
room-current n c r None same well room = tt
room-current n c r (Some t) same well room =
    let count = ap length (same.new (current t.versions)
    ∙ ap (drafts_of c t.schema) (sym (shown-current n t.versions well.times))) in
    omega (arith, count, room)
