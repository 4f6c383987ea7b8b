-- The log of a history with one more commit.
use Rattle.std.proofs.Common.{◌≡◌, ℕ, ◌+◌, ◌<◌, ◌≤◌, List, [], ◌∷◌, ◌++◌, length, map, Bool, true, false, not, cond, Option, Some, None, refl, ap, sym, ◌∙◌, arith, suc, leb, length-append}
use Rattle.std.specs.Prelude.{option_map, unwrap_or, IfSome, is_none, bytes_eq}
use Rattle.std.proofs.lemmas.List.{take_all}
use Rattle.std.proofs.lemmas.List.Sums.{fold-append}
use Rattle.row_core.specs.declared.schema.Column.{Column}
use Rattle.book_core.specs.Limits.{commit_limit, table_limit}
use Rattle.book_core.specs.Rows.{removes, drafts_of}
use Rattle.version_core.specs.Shown.{shown}
use Rattle.book_core.specs.declared.change.Change.{Change}
use Rattle.book_core.specs.declared.change.Change.TheVariants.{Make, Load, Update, Delete}
use Rattle.book_core.specs.State.{State, Table, table_named, table_of, rows_of, at_table, applied, changed, first_refusal, refusal_of}
use Rattle.book_core.specs.History.{History, state_after, rows_at}
use Rattle.book_core.specs.Versions.{new_ids, change_kind, entry_at, entries_from, log_of}
use Rattle.book_core.specs.StoredTables.{kept_table, StoredTable, IsBook, table_at, kept_tables_from, IsWellKept, added_in, closed_in}
use Rattle.book_core.specs.declared.commit.Commit.{Commit}
use Rattle.book_core.specs.declared.log.ChangeKind.{ChangeKind}
use Rattle.book_core.specs.declared.log.Entry.{Entry}
use Rattle.book_core.specs.declared.refusal.BookRefused.TheVariants.{TableExists, TooMany, Full}
use Rattle.book_core.proofs.Accepted.{first-none}
use Rattle.book_core.proofs.Reading.{rows_at-append, table_of-map}
use Rattle.book_core.proofs.Applying.{first_of-none, newest_of}
use Rattle.book_core.proofs.Ids.{shown_rise_all, ids_added, ids_taken, all_well_kept, found_well}

-- entries

entry_at-append : (h more : History) (n : ℕ) (c : Commit) → n < length h → entry_at (h ++ more) n c ≡ entry_at h n c
entry_at-append h more n c k =
    let t = table_named c.change in
    ap (λ rows. record {
      number = n + 1;
      by = c.by;
      kind = change_kind c.change;
      table = t;
      added = new_ids rows
          (rows_at (h ++ more) n t);
      closed = new_ids (rows_at (h ++ more) n t) rows;
    })
    (rows_at-append h more (n + 1) t (omega arith))
    ∙ ap (λ rows. record {
      number = n + 1;
      by = c.by;
      kind = change_kind c.change;
      table = t;
      added = new_ids
          (rows_at h (n + 1) t) rows;
      closed = new_ids rows (rows_at h (n + 1) t);
    })
    (rows_at-append h more n t (omega arith))

entries_from-append : (h more : History) (n : ℕ) (cs : History) → n + length cs ≤ length h
    → entries_from (h ++ more) n cs ≡ entries_from h n cs
entries_from-append h more n [] k = refl
entries_from-append h more n (c ∷ cs) k =
    ap (λ e. e ∷ entries_from (h ++ more) (n + 1) cs) (entry_at-append h more n c (omega arith))
    ∙ ap (λ l. entry_at h n c ∷ l) (entries_from-append h more (n + 1) cs (omega arith))

entries_from-push : (h : History) (n : ℕ) (cs : History) (c : Commit)
    → entries_from h n (cs ++ c ∷ []) ≡ entries_from h n cs ++ entry_at h (n + length cs) c ∷ []
entries_from-push h n [] c = let e : n ≡ n + 0 = omega arith in ap (λ m. entry_at h m c ∷ []) e
entries_from-push h n (d ∷ ds) c =
    let e : n + 1 + length ds ≡ n + suc (length ds) =
    omega arith in ap (λ l. entry_at h n d ∷ l)
    (entries_from-push h (n + 1) ds c ∙ ap (λ m. entries_from h (n + 1) ds ++ entry_at h m c ∷ []) e)

length-entries_from : (h : History) (n : ℕ) (cs : History) → length (entries_from h n cs) ≡ length cs
length-entries_from h n [] = refl
length-entries_from h n (c ∷ cs) = ap suc (length-entries_from h (n + 1) cs)

-- a log has an entry for each commit
pub length-log_of : (h : History) (log : List Entry) → log ≡ log_of h → length log ≡ length h
length-log_of h log e = ap length e ∙ length-entries_from h 0 h

log_of-push : (h : History) (c : Commit) → log_of (h ++ c ∷ []) ≡ log_of h ++ entry_at (h ++ c ∷ []) (length h) c ∷ []
log_of-push h c =
    entries_from-push (h ++ c ∷ []) 0 h c
    ∙ ap (λ l. l ++ entry_at (h ++ c ∷ []) (0 + length h) c ∷ []) (entries_from-append h (c ∷ []) 0 h (omega arith))
    ∙ (let e : 0 + length h ≡ length h = omega arith in ap (λ m. log_of h ++ entry_at (h ++ c ∷ []) m c ∷ []) e)

-- the rows of the change's table

rows-at_table : (name : List ℕ) (c : Change) (s : State)
    → rows_of (at_table name (changed c) s) name ≡ unwrap_or (option_map (λ t. (changed c t).rows) (table_of s name)) []
rows-at_table name c [] = refl
rows-at_table name c (t ∷ ts) = by_test (rows-at_table name c ts) (bytes_eq t.name name) refl where
  by_test : rows_of (at_table name (changed c) ts) name ≡ unwrap_or
      (option_map (λ u. (changed c u).rows) (table_of ts name)) [] → (b : Bool) → bytes_eq t.name name ≡ b
      → rows_of (cond b (changed c t ∷ ts) (t ∷ at_table name (changed c) ts)) name ≡ unwrap_or
      (option_map (λ u. (changed c u).rows) (cond b (Some t) (table_of ts name))) []
  by_test rest true e =
      ap (λ b. unwrap_or (option_map (λ (u : Table). u.rows) (cond b (Some (changed c t)) (table_of ts name))) []) e
  by_test rest false e =
      ap (λ b. unwrap_or
      (option_map (λ (u : Table). u.rows) (cond b (Some t) (table_of (at_table name (changed c) ts) name))) []) e ∙ rest

-- how many ids a change of rows adds to the table that was found, and how many it removes

added_of : (n : ℕ) (c : Change) (o : Option StoredTable) → IfSome o (IsWellKept n)
    → new_ids (unwrap_or (option_map (λ t. (changed c t).rows) (option_map (table_at n) o)) [])
    (unwrap_or (option_map (λ t. t.rows) (option_map (table_at n) o)) []) ≡ added_in n c o
added_of n c None w = refl
added_of n c (Some t) w =
    ids_added (removes c t.schema) (length t.versions) (shown n t.versions) (drafts_of c t.schema (shown n t.versions))
    (shown_rise_all n t.versions w.ids)

closed_of : (n : ℕ) (c : Change) (o : Option StoredTable) → IfSome o (IsWellKept n)
    → new_ids (unwrap_or (option_map (λ t. t.rows) (option_map (table_at n) o)) [])
    (unwrap_or (option_map (λ t. (changed c t).rows) (option_map (table_at n) o)) []) ≡ closed_in n c o
closed_of n c None w = refl
closed_of n c (Some t) w =
    ids_taken (removes c t.schema) (length t.versions) (shown n t.versions) (drafts_of c t.schema (shown n t.versions))
    (shown_rise_all n t.versions w.ids)

-- the new entry has those numbers

portion_added : (n : ℕ) (c : Change) (name : List ℕ) (s : State) (ts : List StoredTable) → s ≡ map (table_at n) ts
    → IfSome (kept_table name ts) (IsWellKept n)
    → new_ids (rows_of (at_table name (changed c) s) name) (rows_of s name) ≡ added_in n c (kept_table name ts)
portion_added n c name s ts e w =
    let there = ap (λ s. table_of s name) e ∙ table_of-map n ts name in
    ap (λ rows. new_ids rows (rows_of s name)) (rows-at_table name c s)
    ∙ ap (λ o. new_ids (unwrap_or (option_map (λ t. (changed c t).rows) o) [])
    (unwrap_or (option_map (λ t. t.rows) o) [])) there
    ∙ added_of n c (kept_table name ts) w

portion_closed : (n : ℕ) (c : Change) (name : List ℕ) (s : State) (ts : List StoredTable) → s ≡ map (table_at n) ts
    → IfSome (kept_table name ts) (IsWellKept n)
    → new_ids (rows_of s name) (rows_of (at_table name (changed c) s) name) ≡ closed_in n c (kept_table name ts)
portion_closed n c name s ts e w =
    let there = ap (λ s. table_of s name) e ∙ table_of-map n ts name in
    ap (λ rows. new_ids (rows_of s name) rows) (rows-at_table name c s)
    ∙ ap (λ o. new_ids (unwrap_or (option_map (λ t. t.rows) o) [])
    (unwrap_or (option_map (λ t. (changed c t).rows) o) [])) there
    ∙ closed_of n c (kept_table name ts) w

-- a new table has no rows, before and after it is made

table_absent : (n : ℕ) (s : State) (name : List ℕ) (schema : List Column) → first_refusal n s (Make name schema) ≡ None
    → is_none (table_of s name) ≡ true
table_absent n s name schema h =
    by_test (is_none (table_of s name))
    (first_of-none
    ((not (is_none (table_of s name)), TableExists) ∷ (leb table_limit (length s), TooMany) ∷
    (leb commit_limit n, Full) ∷ []) h).0 where
      by_test : (b : Bool) → not b ≡ false → b ≡ true
      by_test true k = refl
      by_test false k = absurd (cc)

no_rows : (o : Option Table) → is_none o ≡ true → unwrap_or (option_map (λ t. t.rows) o) [] ≡ []
no_rows None h = refl
no_rows (Some t) h = absurd (cc)

rows-made : (name : List ℕ) (schema : List Column) (s : State)
    → rows_of (s ++ record { name = name; schema = schema; used = 0; rows = [] } ∷ []) name ≡ rows_of s name
rows-made name schema [] =
    elim (bytes_eq name name) as
    (λ b. unwrap_or
    (option_map (λ (u : Table). u.rows)
    (cond b (Some (record { name = name; schema = schema; used = 0; rows = [] })) None)) [] ≡ []) [
      | true ↦
          refl
      | false ↦ refl
    ]
rows-made name schema (t ∷ ts) =
    elim (bytes_eq t.name name) as
    (λ b. unwrap_or
    (option_map (λ (u : Table). u.rows)
    (cond b (Some t)
    (table_of (ts ++ record { name = name; schema = schema; used = 0; rows = [] } ∷ []) name))) [] ≡ unwrap_or
    (option_map (λ (u : Table). u.rows) (cond b (Some t) (table_of ts name))) []) [
      | true ↦ refl
      | false ↦ rows-made name schema ts
    ]

nothing_found : (n : ℕ) (c : Change) (o : Option StoredTable) (asked : Option Table) → is_none asked ≡ true
    → asked ≡ option_map (table_at n) o → (added_in n c o ≡ 0) × (closed_in n c o ≡ 0)
nothing_found n c None asked h e = (refl, refl)
nothing_found n c (Some t) asked h e =
    absurd (let k : is_none (Some (table_at n t)) ≡ true = ap is_none (sym e) ∙ h in cc)

entry_added : (n : ℕ) (s : State) (ts : List StoredTable) (c : Change) → s ≡ map (table_at n) ts
    → first_refusal n s c ≡ None → IfSome (kept_table (table_named c) ts) (IsWellKept n)
    → (new_ids (rows_of (applied s c) (table_named c)) (rows_of s (table_named c)) ≡ added_in n c
    (kept_table (table_named c) ts))
    × (new_ids (rows_of s (table_named c)) (rows_of (applied s c) (table_named c)) ≡ closed_in n c
    (kept_table (table_named c) ts))
entry_added n s ts (Make name schema) e r w =
    let gone = table_absent n s name schema r in
    let before = no_rows (table_of s name) gone in
    let later = rows-made name schema s ∙ before in
    let none_there = nothing_found n (Make name schema) (kept_table name ts) (table_of s name) gone
    (ap (λ s. table_of s name) e ∙ table_of-map n ts name) in (
      ap (λ xs. new_ids xs (rows_of s name)) later ∙ sym none_there.0,
      ap (λ xs. new_ids xs (rows_of (applied s (Make name schema)) name)) before ∙ sym none_there.1,
    )
entry_added n s ts (Load name rows) e r w =
    (portion_added n (Load name rows) name s ts e w, portion_closed n (Load name rows) name s ts e w)
entry_added n s ts (Update name portion sets conds) e r w = (
  portion_added n (Update name portion sets conds) name s ts e w,
  portion_closed n
      (Update name portion sets conds) name s ts e w,
)
entry_added n s ts (Delete name portion conds) e r w = (
  portion_added n (Delete name portion conds) name s ts e w,
  portion_closed n
      (Delete name portion conds) name s ts e w,
)

-- the state after one more commit

rows_at-new : (h : History) (c : Commit) (name : List ℕ)
    → rows_at (h ++ c ∷ []) (length h + 1) name ≡ rows_of (applied (state_after h) c.change) name
rows_at-new h c name =
    let enough : length (h ++ c ∷ []) ≤ length h + 1 = omega (arith, length-append h (c ∷ [])) in
    ap (λ l. rows_of (state_after l) name) (take_all (length h + 1) (h ++ c ∷ []) enough)
    ∙ ap (λ s. rows_of s name) (fold-append (λ s c. applied s c.change) [] h (c ∷ []))

rows_at-old : (h : History) (c : Commit) (name : List ℕ)
    → rows_at (h ++ c ∷ []) (length h) name ≡ rows_of (state_after h) name
rows_at-old h c name =
    rows_at-append h (c ∷ []) (length h) name (omega arith)
    ∙ ap (λ l. rows_of (state_after l) name) (take_all (length h) h (omega arith))

abbrev pub new_entry : ℕ → ℕ → Change → List StoredTable → Entry
new_entry n by c ts =
    record {
      number = n + 1;
      by = by;
      kind = change_kind c;
      table = table_named c;
      added = added_in n c
          (kept_table (table_named c) ts);
      closed = closed_in n c (kept_table (table_named c) ts);
    }

-- an entry of the change's kind and table
pub named_entry : (n by added took : ℕ) (c : Change) (kind : ChangeKind) (table : List ℕ) (entry : Entry)
    → kind ≡ change_kind c → table ≡ table_named c
    → entry ≡ record { number = n + 1; by = by; kind = kind; table = table; added = added; closed = took }
    → entry
    ≡ record { number = n + 1; by = by; kind = change_kind c; table = table_named c; added = added; closed = took }
named_entry n by added took c kind table entry k t h =
    h
    ∙ ap (λ w. record { number = n + 1; by = by; kind = w; table = table; added = added; closed = took }) k
    ∙ ap (λ w. record { number = n + 1; by = by; kind = change_kind c; table = w; added = added; closed = took }) t

-- an entry with those counts
pub entry_same : (n m by added took : ℕ) (c : Change) (ts : List StoredTable) (entry : Entry) → n ≡ m
    → added ≡ added_in n c (kept_table (table_named c) ts) → took ≡ closed_in n c (kept_table (table_named c) ts)
    → entry
    ≡ record { number = n + 1; by = by; kind = change_kind c; table = table_named c; added = added; closed = took }
    → entry ≡ new_entry m by c ts
entry_same n m by added took c ts entry e a b h =
    h
    ∙ ap
    (λ k. record { number = n + 1; by = by; kind = change_kind c; table = table_named c; added = k; closed = took })
    a
    ∙ ap (λ k. record {
      number = n + 1;
      by = by;
      kind = change_kind c;
      table = table_named c;
      added = added_in n c
          (kept_table (table_named c) ts);
      closed = k;
    }) b
    ∙ ap (λ k. new_entry k by c ts) e

-- the log with the new entry
pub log-push : (h now new : History) (ts : List StoredTable) (log logged : List Entry) (c : Commit) → IsBook h ts log
    → h ≡ now → refusal_of (length now) (state_after now) c.change ≡ None → new ≡ h ++ c ∷ []
    → logged ≡ log ++ new_entry (length h) c.by c.change ts ∷ [] → logged ≡ log_of new
log-push h now new ts log logged c k v r n l =
    let accepted : first_refusal (length h) (state_after h) c.change ≡ None =
    first-none (length h) (state_after h) c.change
    (ap (λ x. refusal_of (length x) (state_after x) c.change) v ∙ r) in
    let name = table_named c.change in
    let s = newest_of h h ts k.kept refl in
    let well = found_well (length h) name (kept_tables_from 0 [] h) (all_well_kept h) in
    let there : IfSome (kept_table name ts) (IsWellKept (length h)) = rw k.kept.tables well in
    let both = entry_added (length h) (state_after h) ts c.change s accepted there in
    let was = ap (λ xs. new_ids xs (rows_at (h ++ c ∷ []) (length h) name)) (rows_at-new h c name)
    ∙ ap (λ xs. new_ids (rows_of (applied (state_after h) c.change) name) xs) (rows_at-old h c name) ∙ both.0 in
    let went = ap (λ xs. new_ids xs (rows_at (h ++ c ∷ []) (length h + 1) name)) (rows_at-old h c name)
    ∙ ap (λ xs. new_ids (rows_of (state_after h) name) xs) (rows_at-new h c name) ∙ both.1 in
    l
    ∙ ap (λ old. old ++ new_entry (length h) c.by c.change ts ∷ []) k.logged
    ∙ ap (λ k. log_of h ++ record {
      number = length h + 1;
      by = c.by;
      kind = change_kind c.change;
      table = name;
      added = k;
      closed = closed_in
          (length h) c.change (kept_table name ts);
    } ∷ []) (sym was)
    ∙ ap (λ k. log_of h ++ record {
      number = length h + 1;
      by = c.by;
      kind = change_kind c.change;
      table = name;
      added = new_ids
          (rows_at (h ++ c ∷ []) (length h + 1) name) (rows_at (h ++ c ∷ []) (length h) name);
      closed = k;
    } ∷ [])
    (sym went)
    ∙ sym (log_of-push h c)
    ∙ ap log_of (sym n)
