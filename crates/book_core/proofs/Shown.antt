-- The stored versions, read as of a commit, have the rows of the history's states.
use Rattle.std.proofs.Common.{◌≡◌, ℕ, ◌+◌, ◌<◌, ◌≤◌, List, [], ◌∷◌, ◌++◌, Bool, true, false, ◌&&◌, cond, Option, Some, None, length, map, take, zero, suc, refl, ap, sym, ◌∙◌, arith, length-append, leb, not, add-zero}
use Rattle.std.specs.Prelude.{filter, fold, unwrap_or, option_map, is_none, IfSome, bytes_eq}
use Rattle.std.specs.List.{cons_option, AllByRecursion}
use Rattle.std.proofs.lemmas.Bool.{le-leb, le-ltb, lt-ltb, lt-leb}
use Rattle.std.proofs.lemmas.List.{append-nil, length-map, map-append}
use Rattle.std.proofs.lemmas.List.Elements.{filter_map-append}
use Rattle.row_core.specs.declared.row.Row.{Row}
use Rattle.row_core.specs.declared.schema.Column.{Column}
use Rattle.version_core.proofs.ReplacedRows.{append-all}
use Rattle.table_core.specs.Numbered.{numbered}
use Rattle.book_core.specs.Rows.{drafts_of, removes}
use Rattle.version_core.specs.OpenVersions.{closed, current, is_open}
use Rattle.version_core.specs.Made.{made}
use Rattle.version_core.specs.Shown.{row_shown, shown, shows}
use Rattle.book_core.specs.declared.change.Change.{Change}
use Rattle.book_core.specs.declared.change.Change.TheVariants.{Make, Load, Update, Delete}
use Rattle.version_core.specs.declared.version.Version.{Version}
use Rattle.table_core.proofs.NumberedLemmas.{length-numbered}
use Rattle.book_core.specs.StoredTables.{IsTimely, StoredTable, table_at, kept_table_after, at_kept, kept_tables_after, kept_tables_from}
use Rattle.book_core.specs.State.{State, Table, applied, at_table, changed, rows_of, table_of}
use Rattle.book_core.specs.History.{History, state_after}

-- lists

-- an element if it passes
keep : {X : Type 0} → (X → Bool) → Option X → Option X
keep p None = None
keep p (Some x) = cond (p x) (Some x) None

filter-cons_option : {X : Type 0} (p : X → Bool) (o : Option X) (xs : List X)
    → filter p (cons_option o xs) ≡ cons_option (keep p o) (filter p xs)
unfolding keep
filter-cons_option p None xs = refl
filter-cons_option p (Some x) xs =
    elim (p x) as
    (λ b. cond b (x ∷ filter p xs) (filter p xs) ≡ cons_option (cond b (Some x) None) (filter p xs)) [
      | true ↦
          refl
      | false ↦ refl
    ]

-- versions

-- the version's commits aren't after n
InTime : ℕ → Version → Type 0
InTime n v = (v.sysfrom ≤ n) × IfSome v.systo (λ to. to ≤ n)

-- closing at a later commit does not change the version as of commit n
stays : (n m from : ℕ) (row : Row) (to : Option ℕ) (b : Bool) → n ≤ m
    → row_shown n
    (cond (is_none to && b) (record { row = row; sysfrom = from; systo = Some (m + 1) })
    (record { row = row; sysfrom = from; systo = to })) ≡ row_shown n (record { row = row; sysfrom = from; systo = to })
stays n m from row None true h =
    let e = lt-ltb n (m + 1) (omega arith) in ap (λ b. cond (leb from n && b) (Some row) None) e
stays n m from row None false h = refl
stays n m from row (Some to) b h = refl

row_shown-closed_later : (n m : ℕ) (goes : Row → Bool) (v : Version) → n ≤ m
    → row_shown n (closed (m + 1) goes v) ≡ row_shown n v
row_shown-closed_later n m goes v h = stays n m v.sysfrom v.row v.systo (goes v.row) h

shown-closed_later : (n m : ℕ) (goes : Row → Bool) (vs : List Version) → n ≤ m
    → shown n (map (closed (m + 1) goes) vs) ≡ shown n vs
shown-closed_later n m goes [] h = refl
shown-closed_later n m goes (v ∷ vs) h =
    ap (λ o. cons_option o (shown n (map (closed (m + 1) goes) vs))) (row_shown-closed_later n m goes v h)
    ∙ ap (cons_option (row_shown n v)) (shown-closed_later n m goes vs h)

shown-made_later : (n m : ℕ) (rows : List Row) → n ≤ m → shown n (made (m + 1) rows) ≡ []
shown-made_later n m [] h = refl
shown-made_later n m (r ∷ rs) h =
    ap (λ b. cons_option (cond (b && true) (Some r) None) (shown n (made (m + 1) rs))) (lt-leb (m + 1) n (omega arith))
    ∙ shown-made_later n m rs h

shown-made : (n : ℕ) (rows : List Row) → shown n (made n rows) ≡ rows
shown-made n [] = refl
shown-made n (r ∷ rs) =
    ap (λ b. cons_option (cond (b && true) (Some r) None) (shown n (made n rs))) (le-leb n n (omega arith))
    ∙ ap (λ l. r ∷ l) (shown-made n rs)

-- a later commit does not change the rows of a table as of commit n
shown-kept_table_after_later : (n m : ℕ) (c : Change) (t : StoredTable) → n ≤ m
    → shown n (kept_table_after m c t).versions ≡ shown n t.versions
shown-kept_table_after_later n m c t h =
    filter_map-append (row_shown n) (map (closed (m + 1) (removes c t.schema)) t.versions)
    (made (m + 1) (numbered (length t.versions) (drafts_of c t.schema (shown m t.versions))))
    ∙ ap (λ l. shown n (map (closed (m + 1) (removes c t.schema)) t.versions) ++ l) (shown-made_later n m _ h)
    ∙ append-nil _
    ∙ shown-closed_later n m (removes c t.schema) t.versions h

-- nothing, if the second test fails
none_shown : (a : Bool) (row : Row) → cond (a && false) (Some row) None ≡ None
none_shown true row = refl
none_shown false row = refl

past_none : (n from t : ℕ) (row : Row) → t ≤ n
    → row_shown n (record { row = row; sysfrom = from; systo = Some t }) ≡ None
past_none n from t row h = ap (λ b. cond (leb from n && b) (Some row) None) (le-ltb n t h) ∙ none_shown (leb from n) row

kept_none : (b : Bool) → cond {A = Option Row} b None None ≡ None
kept_none true = refl
kept_none false = refl

-- the row visible as of commit n is visible as of the next, unless it is removed
goes_on : (n from : ℕ) (row : Row) (to : Option ℕ) (b : Bool) → from ≤ n → IfSome to (λ t. t ≤ n) →
    row_shown (n + 1)
    (cond (is_none to && b) (record { row = row; sysfrom = from; systo = Some (n + 1) })
    (record { row = row; sysfrom = from; systo = to }))
    ≡ cond (not b) (row_shown n (record { row = row; sysfrom = from; systo = to })) None
goes_on n from row None true h k = past_none (n + 1) from (n + 1) row (omega arith)
goes_on n from row None false h k =
    ap (λ b. cond (b && true) (Some row) None) (le-leb from (n + 1) (omega arith) ∙ sym (le-leb from n h))
goes_on n from row (Some t) b h k =
    past_none (n + 1) from t row (omega (arith, k))
    ∙ sym (ap (λ o. cond (not b) o None) (past_none n from t row k) ∙ kept_none (not b))

keep-row_shown : (n : ℕ) (p : Row → Bool) (v : Version) → keep p (row_shown n v) ≡ cond (p v.row) (row_shown n v) None
unfolding keep
keep-row_shown n p v =
    elim (shows n v) as
    (λ t. keep p (cond t (Some v.row) None) ≡ cond (p v.row) (cond t (Some v.row) None) None) [
      | true ↦ refl
      | false ↦
          sym (kept_none (p v.row))
    ]

row_shown-next : (n : ℕ) (goes : Row → Bool) (v : Version) → InTime n v
    → row_shown (n + 1) (closed (n + 1) goes v) ≡ keep (λ r. not (goes r)) (row_shown n v)
unfolding InTime
row_shown-next n goes v h =
    goes_on n v.sysfrom v.row v.systo (goes v.row) h.0 h.1 ∙ sym (keep-row_shown n (λ r. not (goes r)) v)

shown-closed_next : (n : ℕ) (goes : Row → Bool) (vs : List Version) → AllByRecursion (InTime n) vs
    → shown (n + 1) (map (closed (n + 1) goes) vs) ≡ filter (λ r. not (goes r)) (shown n vs)
shown-closed_next n goes [] h = refl
shown-closed_next n goes (v ∷ vs) h =
    ap (λ o. cons_option o (shown (n + 1) (map (closed (n + 1) goes) vs))) (row_shown-next n goes v h.0)
    ∙ ap (cons_option (keep (λ r. not (goes r)) (row_shown n v))) (shown-closed_next n goes vs h.1)
    ∙ sym (filter-cons_option (λ r. not (goes r)) (row_shown n v) (shown n vs))

-- if nothing changes, the row visible as of commit n is visible as of the next
same_shown : (n from : ℕ) (row : Row) (to : Option ℕ) → from ≤ n → IfSome to (λ t. t ≤ n)
    → row_shown (n + 1) (record { row = row; sysfrom = from; systo = to }) ≡ row_shown n
    (record { row = row; sysfrom = from; systo = to })
same_shown n from row None h k =
    ap (λ b. cond (b && true) (Some row) None) (le-leb from (n + 1) (omega arith) ∙ sym (le-leb from n h))
same_shown n from row (Some t) h k = past_none (n + 1) from t row (omega (arith, k)) ∙ sym (past_none n from t row k)

-- if nothing changes, the rows as of the next commit are the same
shown-next : (n : ℕ) (vs : List Version) → AllByRecursion (InTime n) vs → shown (n + 1) vs ≡ shown n vs
unfolding InTime
shown-next n [] h = refl
shown-next n (v ∷ vs) h =
    ap (λ o. cons_option o (shown (n + 1) vs)) (same_shown n v.sysfrom v.row v.systo h.0.0 h.0.1)
    ∙ ap (cons_option (row_shown n v)) (shown-next n vs h.1)

length-made : (n : ℕ) (rows : List Row) → length (made n rows) ≡ length rows
length-made n rows = length-map rows _

-- tables

shown-kept_table_after : (n : ℕ) (c : Change) (t : StoredTable) → AllByRecursion (InTime n) t.versions
    → shown (n + 1) (kept_table_after n c t).versions ≡ (changed c (table_at n t)).rows
shown-kept_table_after n c t h =
    filter_map-append (row_shown (n + 1)) (map (closed (n + 1) (removes c t.schema)) t.versions)
    (made (n + 1) (numbered (length t.versions) (drafts_of c t.schema (shown n t.versions))))
    ∙ ap (λ l. shown (n + 1) (map (closed (n + 1) (removes c t.schema)) t.versions) ++ l)
    (shown-made (n + 1) (numbered (length t.versions) (drafts_of c t.schema (shown n t.versions))))
    ∙ ap (λ l. l ++ numbered (length t.versions) (drafts_of c t.schema (shown n t.versions)))
    (shown-closed_next n (removes c t.schema) t.versions h)

pub length-kept_table_after : (n : ℕ) (c : Change) (t : StoredTable)
    → length (kept_table_after n c t).versions ≡ (changed c (table_at n t)).used
length-kept_table_after n c t =
    let rows = numbered (length t.versions) (drafts_of c t.schema (shown n t.versions)) in
    length-append (map (closed (n + 1) (removes c t.schema)) t.versions) _
    ∙ omega (
      arith,
      length-map t.versions (closed (n + 1) (removes c t.schema)),
      length-made
          (n + 1) rows,
      length-numbered (length t.versions) (drafts_of c t.schema (shown n t.versions)),
    )

table_at-kept_table_after : (n : ℕ) (c : Change) (t : StoredTable) → AllByRecursion (InTime n) t.versions
    → table_at (n + 1) (kept_table_after n c t) ≡ changed c (table_at n t)
table_at-kept_table_after n c t h =
    ap (λ k. record {
      name = t.name;
      schema = t.schema;
      used = k;
      rows = shown (n + 1)
          (kept_table_after n c t).versions;
    }) (length-kept_table_after n c t)
    ∙ ap (λ l. record { name = t.name; schema = t.schema; used = (changed c (table_at n t)).used; rows = l })
    (shown-kept_table_after n c t h)

table_at-next : (n : ℕ) (t : StoredTable) → AllByRecursion (InTime n) t.versions → table_at (n + 1) t ≡ table_at n t
table_at-next n t h =
    ap (λ l. record { name = t.name; schema = t.schema; used = length t.versions; rows = l })
    (shown-next n t.versions h)

-- states

pub AllInTime : ℕ → List StoredTable → Type 0
AllInTime n ts = AllByRecursion (λ (t : StoredTable). AllByRecursion (InTime n) t.versions) ts

tables_at-next : (n : ℕ) (ts : List StoredTable) → AllInTime n ts → map (table_at (n + 1)) ts ≡ map (table_at n) ts
unfolding AllInTime
tables_at-next n [] h = refl
tables_at-next n (t ∷ ts) h =
    ap (λ u. u ∷ map (table_at (n + 1)) ts) (table_at-next n t h.0)
    ∙ ap (λ l. table_at n t ∷ l) (tables_at-next n ts h.1)

tables_at-at_kept : (n : ℕ) (c : Change) (name : List ℕ) (ts : List StoredTable) → AllInTime n ts
    → map (table_at (n + 1)) (at_kept name (kept_table_after n c) ts) ≡ at_table name (changed c) (map (table_at n) ts)
unfolding AllInTime
tables_at-at_kept n c name [] h = refl
tables_at-at_kept n c name (t ∷ ts) h =
    elim (bytes_eq t.name name) as
    (λ b. map (table_at (n + 1))
    (cond b (kept_table_after n c t ∷ ts) (t ∷ at_kept name (kept_table_after n c) ts)) ≡ cond b
    (changed c (table_at n t) ∷ map (table_at n) ts) (table_at n t ∷ at_table name (changed c) (map (table_at n) ts))) [
      | true ↦ ap (λ u. u ∷ map (table_at (n + 1)) ts) (table_at-kept_table_after n c t h.0)
          ∙ ap (λ l. changed c (table_at n t) ∷ l) (tables_at-next n ts h.1)
      | false ↦ ap (λ u. u ∷ map (table_at (n + 1)) (at_kept name (kept_table_after n c) ts)) (table_at-next n t h.0)
          ∙ ap (λ l. table_at n t ∷ l) (tables_at-at_kept n c name ts h.1)
    ]

-- one commit more: the newest state
tables_at-kept_tables_after : (n : ℕ) (c : Change) (ts : List StoredTable) → AllInTime n ts
    → map (table_at (n + 1)) (kept_tables_after n ts c) ≡ applied (map (table_at n) ts) c
tables_at-kept_tables_after n (Make table schema) ts h =
    map-append (table_at (n + 1)) ts _
    ∙ ap (λ l. l ++ record { name = table; schema = schema; used = 0; rows = [] } ∷ []) (tables_at-next n ts h)
tables_at-kept_tables_after n (Load table rows) ts h = tables_at-at_kept n (Load table rows) table ts h
tables_at-kept_tables_after n (Update table portion sets conds) ts h =
    tables_at-at_kept n (Update table portion sets conds) table ts h
tables_at-kept_tables_after n (Delete table portion conds) ts h =
    tables_at-at_kept n (Delete table portion conds) table ts h

-- versions keep their commits in time

InTime-next : (n : ℕ) (v : Version) → InTime n v → InTime (n + 1) v
unfolding InTime
InTime-next n v h = (omega (arith, h.0), IfSome-next v.systo h.1) where
  IfSome-next : (to : Option ℕ) → IfSome to (λ t. t ≤ n) → IfSome to (λ t. t ≤ n + 1)
  IfSome-next None k = tt
  IfSome-next (Some t) k = omega (arith, k)

InTime-closed : (n : ℕ) (goes : Row → Bool) (v : Version) → InTime n v → InTime (n + 1) (closed (n + 1) goes v)
unfolding InTime
InTime-closed n goes v h =
    elim (is_none v.systo && goes v.row) as
    (λ b. InTime (n + 1) (cond b (record v { systo = Some (n + 1) }) v)) [
      | true ↦
          (omega (arith, h.0), omega arith)
      | false ↦ InTime-next n v h
    ]

closed_in_time : (n : ℕ) (goes : Row → Bool) (vs : List Version) → AllByRecursion (InTime n) vs
    → AllByRecursion (InTime (n + 1)) (map (closed (n + 1) goes) vs)
closed_in_time n goes [] h = tt
closed_in_time n goes (v ∷ vs) h = (InTime-closed n goes v h.0, closed_in_time n goes vs h.1)

next_in_time : (n : ℕ) (vs : List Version) → AllByRecursion (InTime n) vs → AllByRecursion (InTime (n + 1)) vs
next_in_time n [] h = tt
next_in_time n (v ∷ vs) h = (InTime-next n v h.0, next_in_time n vs h.1)

made_in_time : (n : ℕ) (rows : List Row) → AllByRecursion (InTime n) (made n rows)
unfolding InTime
made_in_time n [] = tt
made_in_time n (r ∷ rs) = ((omega arith, tt), made_in_time n rs)

tables_in_time : (n : ℕ) (ts : List StoredTable) → AllInTime n ts → AllInTime (n + 1) ts
unfolding AllInTime
tables_in_time n [] h = tt
tables_in_time n (t ∷ ts) h = (next_in_time n t.versions h.0, tables_in_time n ts h.1)

at_kept_in_time : (n : ℕ) (c : Change) (name : List ℕ) (ts : List StoredTable) → AllInTime n ts
    → AllInTime (n + 1) (at_kept name (kept_table_after n c) ts)
unfolding AllInTime
at_kept_in_time n c name [] h = tt
at_kept_in_time n c name (t ∷ ts) h =
    elim (bytes_eq t.name name) as
    (λ b. AllInTime (n + 1) (cond b (kept_table_after n c t ∷ ts) (t ∷ at_kept name (kept_table_after n c) ts))) [
      | true ↦ (
        append-all (InTime (n + 1)) _ _ (closed_in_time n (removes c t.schema) t.versions h.0)
            (made_in_time (n + 1)
            (numbered (length t.versions) (drafts_of c t.schema (shown n t.versions)))),
        tables_in_time n ts h.1,
      )
      | false ↦ (next_in_time n t.versions h.0, at_kept_in_time n c name ts h.1)
    ]

kept_tables_after_in_time : (n : ℕ) (c : Change) (ts : List StoredTable) → AllInTime n ts
    → AllInTime (n + 1) (kept_tables_after n ts c)
unfolding AllInTime
kept_tables_after_in_time n (Make table schema) ts h = append-all _ ts _ (tables_in_time n ts h) (tt, tt)
kept_tables_after_in_time n (Load table rows) ts h = at_kept_in_time n (Load table rows) table ts h
kept_tables_after_in_time n (Update table portion sets conds) ts h =
    at_kept_in_time n (Update table portion sets conds) table ts h
kept_tables_after_in_time n (Delete table portion conds) ts h =
    at_kept_in_time n (Delete table portion conds) table ts h

-- the past: a later commit doesn't change the rows as of commit n

rows_at-at_kept_later : (n m : ℕ) (c : Change) (name asked : List ℕ) (ts : List StoredTable) → n ≤ m
    → rows_of (map (table_at n) (at_kept name (kept_table_after m c) ts)) asked ≡ rows_of (map (table_at n) ts) asked
rows_at-at_kept_later n m c name asked [] h = refl
rows_at-at_kept_later n m c name asked (t ∷ ts) h =
    elim (bytes_eq t.name name) as
    (λ b. rows_of
    (map (table_at n)
    (cond b (kept_table_after m c t ∷ ts) (t ∷ at_kept name (kept_table_after m c) ts))) asked ≡ rows_of
    (map (table_at n) (t ∷ ts)) asked) [
      | true ↦ elim (bytes_eq t.name asked) as
          (λ b. unwrap_or
          (option_map (λ u. u.rows)
          (cond b (Some (table_at n (kept_table_after m c t))) (table_of (map (table_at n) ts) asked))) [] ≡ unwrap_or
          (option_map (λ u. u.rows) (cond b (Some (table_at n t)) (table_of (map (table_at n) ts) asked))) []) [
            | true ↦ shown-kept_table_after_later n m c t h
            | false ↦ refl
          ]
      | false ↦ elim (bytes_eq t.name asked) as
          (λ b. unwrap_or
          (option_map (λ u. u.rows)
          (cond b (Some (table_at n t))
          (table_of (map (table_at n) (at_kept name (kept_table_after m c) ts)) asked))) [] ≡ unwrap_or
          (option_map (λ u. u.rows) (cond b (Some (table_at n t)) (table_of (map (table_at n) ts) asked))) []) [
            | true ↦ refl
            | false ↦ rows_at-at_kept_later n m c name asked ts h
          ]
    ]

pub rows_at-make : (n : ℕ) (name : List ℕ) (schema : List Column) (asked : List ℕ) (ts : List StoredTable)
    → rows_of (map (table_at n) (ts ++ record { name = name; schema = schema; versions = [] } ∷ [])) asked ≡ rows_of
    (map (table_at n) ts) asked
rows_at-make n name schema asked [] =
    elim (bytes_eq name asked) as
    (λ b. unwrap_or
    (option_map (λ (u : Table). u.rows)
    (cond b (Some (record { name = name; schema = schema; used = 0; rows = [] })) None)) [] ≡ []) [
      | true ↦
          refl
      | false ↦ refl
    ]
rows_at-make n name schema asked (t ∷ ts) =
    elim (bytes_eq t.name asked) as
    (λ b. unwrap_or
    (option_map (λ u. u.rows)
    (cond b (Some (table_at n t))
    (table_of
    (map (table_at n) (ts ++ record { name = name; schema = schema; versions = [] } ∷ [])) asked))) [] ≡ unwrap_or
    (option_map (λ u. u.rows) (cond b (Some (table_at n t)) (table_of (map (table_at n) ts) asked))) []) [
      | true ↦ refl
      | false ↦ rows_at-make n name schema asked ts
    ]

rows_at-kept_tables_after_later : (n m : ℕ) (c : Change) (asked : List ℕ) (ts : List StoredTable) → n ≤ m
    → rows_of (map (table_at n) (kept_tables_after m ts c)) asked ≡ rows_of (map (table_at n) ts) asked
rows_at-kept_tables_after_later n m (Make table schema) asked ts h = rows_at-make n table schema asked ts
rows_at-kept_tables_after_later n m (Load table rows) asked ts h =
    rows_at-at_kept_later n m (Load table rows) table asked ts h
rows_at-kept_tables_after_later n m (Update table portion sets conds) asked ts h =
    rows_at-at_kept_later n m (Update table portion sets conds) table asked ts h
rows_at-kept_tables_after_later n m (Delete table portion conds) asked ts h =
    rows_at-at_kept_later n m (Delete table portion conds) table asked ts h

rows_at-kept_tables_from_later : (n m : ℕ) (asked : List ℕ) (ts : List StoredTable) (cs : History) → n ≤ m
    → rows_of (map (table_at n) (kept_tables_from m ts cs)) asked ≡ rows_of (map (table_at n) ts) asked
rows_at-kept_tables_from_later n m asked ts [] h = refl
rows_at-kept_tables_from_later n m asked ts (c ∷ cs) h =
    rows_at-kept_tables_from_later n (m + 1) asked (kept_tables_after m ts c.change) cs (omega arith)
    ∙ rows_at-kept_tables_after_later n m c.change asked ts h

-- whole histories

-- the tables after n commits have the rows of that state
pub record Ties (n : ℕ) (s : State) (ts : List StoredTable) : Type 0 where
  pub newest : map (table_at n) ts ≡ s
  pub in_time : AllInTime n ts

pub Ties-after : (n : ℕ) (s : State) (ts : List StoredTable) (c : Change) → Ties n s ts
    → Ties (n + 1) (applied s c) (kept_tables_after n ts c)
Ties-after n s ts c t =
    record {
      newest = tables_at-kept_tables_after n c ts t.in_time
          ∙ ap (λ s. applied s c) t.newest;
      in_time = kept_tables_after_in_time n c ts t.in_time;
    }

-- before the first commit
pub Ties-none : Ties 0 [] []
unfolding AllInTime
Ties-none = record { newest = refl; in_time = tt }

past-from : (n k : ℕ) (s : State) (ts : List StoredTable) (cs : History) (asked : List ℕ) → Ties n s ts → k ≤ length cs
    → rows_of (map (table_at (n + k)) (kept_tables_from n ts cs)) asked ≡ rows_of
    (fold (λ s c. applied s c.change) s (take k cs)) asked
past-from n zero s ts cs asked t h =
    rw (add-zero n) (rows_at-kept_tables_from_later n n asked ts cs (omega arith) ∙ ap (λ s. rows_of s asked) t.newest)
past-from n (suc k) s ts [] asked t h = absurd (omega arith)
past-from n (suc k) s ts (c ∷ cs) asked t h =
    let e : n + suc k ≡ n + 1 + k = omega arith in
    rw e (past-from (n + 1) k (applied s c.change) (kept_tables_after n ts c.change) cs asked
    (Ties-after n s ts c.change t) (omega arith))

-- a book's tables as of commit n have the rows of the state after n changes
pub rows_at-kept : (h : History) (n : ℕ) (asked : List ℕ) → n ≤ length h
    → rows_of (map (table_at n) (kept_tables_from 0 [] h)) asked ≡ rows_of (state_after (take n h)) asked
unfolding AllInTime
rows_at-kept h n asked k =
    let e : 0 + n ≡ n = omega arith in rw e at (past-from 0 n [] [] h asked (record { newest = refl; in_time = tt }) k)

newest-from : (n : ℕ) (s : State) (ts : List StoredTable) (cs : History) → Ties n s ts
    → map (table_at (n + length cs)) (kept_tables_from n ts cs) ≡ fold (λ s c. applied s c.change) s cs
newest-from n s ts [] t = rw (add-zero n) t.newest
newest-from n s ts (c ∷ cs) t =
    let e : n + suc (length cs) ≡ n + 1 + length cs = omega arith in
    rw e (newest-from (n + 1) (applied s c.change) (kept_tables_after n ts c.change) cs (Ties-after n s ts c.change t))

-- a book's tables as of the newest commit are the newest state
pub newest-kept : (h : History) → map (table_at (length h)) (kept_tables_from 0 [] h) ≡ state_after h
unfolding AllInTime
newest-kept h =
    let e : 0 + length h ≡ length h =
    omega arith in rw e at (newest-from 0 [] [] h (record { newest = refl; in_time = tt }))

-- the open versions are the ones visible as of the newest commit

shown_when_open : (n : ℕ) (row : Row) (from : ℕ) (to : Option ℕ) (rows : List Row) (opened : List Version) → from ≤ n
    → IfSome to (λ t. (from < t) × (t ≤ n)) → rows ≡ map (λ (v : Version). v.row) opened
    → cons_option (row_shown n (record { row = row; sysfrom = from; systo = to })) rows ≡ map (λ (v : Version). v.row)
    (cond (is_none to) (record { row = row; sysfrom = from; systo = to } ∷ opened) opened)
shown_when_open n row from None rows opened h k e =
    ap (λ b. cons_option (cond (b && true) (Some row) None) rows) (le-leb from n h) ∙ ap (λ l. row ∷ l) e
shown_when_open n row from (Some t) rows opened h k e =
    ap (λ b. cons_option (cond (leb from n && b) (Some row) None) rows) (le-ltb n t k.1) ∙ none_shown (leb from n)
    ∙ e where
      none_shown : (b : Bool) → cons_option (cond (b && false) (Some row) None) rows ≡ rows
      none_shown true = refl
      none_shown false = refl

pub shown-current : (n : ℕ) (vs : List Version) → AllByRecursion (IsTimely n) vs → shown n vs ≡ current vs
shown-current n [] h = refl
shown-current n (v ∷ vs) h =
    shown_when_open n v.row v.sysfrom v.systo (shown n vs) (filter is_open vs) h.0.begun h.0.ended
    (shown-current n vs h.1)
