-- Rows fit their table's columns, and there are at most a million, since each change was accepted.
use Rattle.std.proofs.Common.{◌≡◌, ℕ, ◌+◌, ◌≤◌, List, [], ◌∷◌, ◌++◌, length, map, Bool, true, false, ◌&&◌, ◌||◌, not, cond, Option, Some, None, refl, ap, ◌∙◌, arith, zero, suc, take, get_or, leb, ltb}
use Rattle.std.specs.Prelude.{All, IfSome, IsTrue, filter, flat_map, fold, is_none, option_map, option_and_then, slice_get, slice_set, unwrap_or, bytes_eq}
use Rattle.std.specs.List.{AllByRecursion, cons_option, list_all}
use Rattle.std.proofs.lemmas.Bool.{and_parts, ltb-false, or_parts, and_from, not-false}
use Rattle.std.proofs.lemmas.List.Elements.{All-filter, All-from_recursion}
use Rattle.std.proofs.lemmas.List.Sums.{count_by-le-length, length-filter}
use Rattle.std.proofs.lemmas.Option.{slice_get-get_or}
use Rattle.period_core.specs.Period.{before, meet, after as later}
use Rattle.period_core.specs.declared.period.Period.{Period}
use Rattle.row_core.specs.Refusals.{first_of}
use Rattle.row_core.specs.Rows.{RowsRise}
use Rattle.row_core.specs.Schema.{column_of, fits}
use Rattle.row_core.specs.Value.{kind_of, same_kind}
use Rattle.row_core.specs.declared.draft.Draft.{Draft}
use Rattle.row_core.specs.declared.row.Row.{Row}
use Rattle.row_core.specs.declared.schema.Column.{Column}
use Rattle.row_core.specs.declared.value.Value.{Value}
use Rattle.version_core.proofs.ReplacedRows.{append-all, append-parts}
use Rattle.version_core.specs.Limits.{version_limit}
use Rattle.book_core.specs.Limits.{commit_limit}
use Rattle.table_core.specs.Numbered.{numbered}
use Rattle.version_core.specs.Portion.{part}
use Rattle.book_core.specs.Rows.{Pair, drafts_of, is_touched, parts_of, removes, set_at}
use Rattle.version_core.specs.OpenVersions.{closed}
use Rattle.version_core.specs.Made.{made}
use Rattle.version_core.specs.Shown.{shown, shows}
use Rattle.book_core.specs.declared.change.Change.{Change}
use Rattle.book_core.specs.declared.change.Change.TheVariants.{Make, Load, Update, Delete}
use Rattle.version_core.specs.declared.version.Version.{Version}
use Rattle.book_core.specs.State.{State, Table, applied, changed, full_tests, is_of_kind, pair_tests, first_refusal, refusal_of, table_of, tests_of, with_table}
use Rattle.book_core.specs.History.{History, IsLegal, schema_in, state_after}
use Rattle.book_core.specs.StoredTables.{kept_table, IsSound, IsTableOf, StoredTable, at_kept, kept_tables_after, kept_table_after, kept_tables_from, table_at}
use Rattle.book_core.specs.declared.refusal.BookRefused.{BookRefused}
use Rattle.book_core.specs.declared.refusal.BookRefused.TheVariants.{Full, WrongKind}
use Rattle.book_core.specs.declared.commit.Commit.{Commit}
use Rattle.book_core.proofs.Accepted.{first-none}
use Rattle.book_core.proofs.Applying.{few, first_of-none, last_of}
use Rattle.book_core.proofs.Ids.{RiseIn, RiseIn-filter, shown_rise_all}
use Rattle.book_core.proofs.Shown.{Ties, Ties-after, Ties-none, length-kept_table_after}

-- the rows of a list fit the columns
abbrev FitRows : List Column → List Row → Type 0
FitRows columns rows = AllByRecursion (λ (row : Row). fits columns row.values ≡ true) rows

abbrev FitVersions : List Column → List Version → Type 0
FitVersions columns vs = AllByRecursion (λ (v : Version). fits columns v.row.values ≡ true) vs

abbrev FitDrafts : List Column → List Draft → Type 0
FitDrafts columns ds = AllByRecursion (λ (d : Draft). fits columns d.values ≡ true) ds

-- a value of its column's kind still fits
fits-set : (columns : List Column) (values : List Value) (i : ℕ) (column : Column) (value : Value)
    → fits columns values ≡ true → slice_get columns i ≡ Some column → same_kind column.kind (kind_of value) ≡ true
    → fits columns (slice_set values i value) ≡ true
fits-set [] [] i column value h g k = absurd (cc)
fits-set [] (v ∷ vs) i column value h g k = absurd (cc)
fits-set (c ∷ cs) [] i column value h g k = absurd (cc)
fits-set (c ∷ cs) (v ∷ vs) zero column value h g k =
    let parts = and_parts (same_kind c.kind (kind_of v)) (fits cs vs) h in
    let same : c ≡ column = cc in
    and_from (same_kind c.kind (kind_of value)) (fits cs vs)
    (ap (λ (x : Column). same_kind x.kind (kind_of value)) same ∙ k) parts.1
fits-set (c ∷ cs) (v ∷ vs) (suc i) column value h g k =
    let parts = and_parts (same_kind c.kind (kind_of v)) (fits cs vs) h in
    and_from (same_kind c.kind (kind_of v)) (fits cs (slice_set vs i value)) parts.0
    (fits-set cs vs i column value parts.1 g k)

abbrev kind_test : Option Column → Value → Bool
kind_test column value =
    unwrap_or (option_map (λ kind. same_kind kind (kind_of value)) (option_map (λ (c : Column). c.kind) column)) false

fits-place : (columns : List Column) (values : List Value) (place : Option ℕ) (value : Value)
    → fits columns values ≡ true → kind_test (option_and_then (slice_get columns) place) value ≡ true
    → fits columns (unwrap_or (option_map (λ i. slice_set values i value) place) values) ≡ true
fits-place columns values None value h k = h
fits-place columns values (Some i) value h k = by_column (slice_get columns i) refl k where
  by_column : (o : Option Column) → slice_get columns i ≡ o → kind_test o value ≡ true
      → fits columns (slice_set values i value) ≡ true
  by_column None e t = absurd (cc)
  by_column (Some column) e t = fits-set columns values i column value h e t

fits-set_at : (columns : List Column) (values : List Value) (pair : Pair) → fits columns values ≡ true
    → is_of_kind columns pair ≡ true → fits columns (set_at columns values pair) ≡ true
fits-set_at columns values pair h k = fits-place columns values (column_of columns pair.0) pair.1 h k

fits-sets : (columns : List Column) (values : List Value) (sets : List Pair) → fits columns values ≡ true
    → AllByRecursion (λ (pair : Pair). is_of_kind columns pair ≡ true) sets
    → fits columns (fold (set_at columns) values sets) ≡ true
fits-sets columns values [] h k = h
fits-sets columns values (pair ∷ sets) h k =
    fits-sets columns (set_at columns values pair) sets (fits-set_at columns values pair h k.0) k.1

-- facts from the tests

pairs-of_kind : (columns : List Column) (pairs : List Pair)
    → AllByRecursion (λ (t : Bool × BookRefused). t.0 ≡ false) (flat_map (pair_tests columns) pairs)
    → AllByRecursion (λ (pair : Pair). is_of_kind columns pair ≡ true) pairs
pairs-of_kind columns [] h = tt
pairs-of_kind columns (pair ∷ pairs) h = (not-false (is_of_kind columns pair) h.1.0, pairs-of_kind columns pairs h.1.1)

all-from_test : {X : Type 0} (p : X → Bool) (xs : List X) → list_all p xs ≡ true
    → AllByRecursion (λ (x : X). p x ≡ true) xs
all-from_test p [] h = tt
all-from_test p (x ∷ xs) h = let parts = and_parts (p x) (list_all p xs) h in (parts.0, all-from_test p xs parts.1)

-- the parts of rows that fit

part-fits : (columns : List Column) (period : Option Period) (values : List Value) → fits columns values ≡ true
    → FitDrafts columns (part period values)
part-fits columns None values h = tt
part-fits columns (Some p) values h = (h, tt)

two_parts-fit : (columns : List Column) (a b : Option Period) (u v : List Value) → fits columns u ≡ true
    → fits columns v ≡ true → FitDrafts columns (part a u ++ part b v)
two_parts-fit columns a b u v h k =
    append-all (λ (d : Draft). fits columns d.values ≡ true) (part a u) (part b v) (part-fits columns a u h)
    (part-fits columns b v k)

three_parts-fit : (columns : List Column) (a b c : Option Period) (u v : List Value) → fits columns u ≡ true
    → fits columns v ≡ true → FitDrafts columns (part a u ++ (part b v ++ part c u))
three_parts-fit columns a b c u v h k =
    append-all (λ (d : Draft). fits columns d.values ≡ true) (part a u) (part b v ++ part c u)
    (part-fits columns a u h) (two_parts-fit columns b c v u k h)

flat-fits : (columns : List Column) (f : Row → List Draft) (p : Row → Bool) (rows : List Row)
    → ((row : Row) → fits columns row.values ≡ true → FitDrafts columns (f row)) → FitRows columns rows
    → FitDrafts columns (flat_map f (filter p rows))
flat-fits columns f p [] each h = tt
flat-fits columns f p (row ∷ rows) each h =
    let rest = flat-fits columns f p rows each h.1 in
    elim (p row) as (λ b. FitDrafts columns (flat_map f (cond b (row ∷ filter p rows) (filter p rows)))) [
      | true ↦ append-all (λ (d : Draft). fits columns d.values ≡ true) (f row) (flat_map f (filter p rows))
          (each row h.0) rest
      | false ↦ rest
    ]

shown-fits : (n : ℕ) (columns : List Column) (vs : List Version) → FitVersions columns vs → FitRows columns (shown n vs)
shown-fits n columns [] h = tt
shown-fits n columns (v ∷ vs) h =
    elim (shows n v) as (λ b. FitRows columns (cons_option (cond b (Some v.row) None) (shown n vs))) [
      | true ↦ (h.0, shown-fits n columns vs h.1)
      | false ↦ shown-fits n columns vs h.1
    ]

drafts-fit : (n : ℕ) (c : Change) (t : StoredTable) → first_of (tests_of n c (table_at n t)) ≡ None
    → FitRows t.schema (shown n t.versions) → FitDrafts t.schema (drafts_of c t.schema (shown n t.versions))
drafts-fit n (Make name schema) t h k = tt
drafts-fit n (Load name rows) t h k =
    let tests = first_of-none (tests_of n (Load name rows) (table_at n t)) h in
    all-from_test (λ d. fits t.schema d.values) rows (not-false (list_all (λ d. fits t.schema d.values) rows) tests.0)
drafts-fit n (Update name portion sets conds) t h k =
    let tests = append-parts (λ (t : Bool × BookRefused). t.0 ≡ false) (flat_map (pair_tests t.schema) (sets ++ conds))
    (full_tests n (changed (Update name portion sets conds) (table_at n t)).used)
    (first_of-none (tests_of n (Update name portion sets conds) (table_at n t)) h) in
    let of_kind =
    (append-parts (λ (pair : Pair). is_of_kind t.schema pair ≡ true) sets conds
    (pairs-of_kind t.schema (sets ++ conds) tests.0)).0 in
    flat-fits t.schema (parts_of (Update name portion sets conds) t.schema) (is_touched t.schema portion conds)
    (shown n t.versions)
    (λ row fit. three_parts-fit t.schema (before row.period portion) (meet row.period portion)
    (later row.period portion) row.values (fold (set_at t.schema) row.values sets) fit
    (fits-sets t.schema row.values sets fit of_kind))
    k
drafts-fit n (Delete name portion conds) t h k =
    flat-fits t.schema (parts_of (Delete name portion conds) t.schema) (is_touched t.schema portion conds)
    (shown n t.versions)
    (λ row fit. two_parts-fit t.schema (before row.period portion)
    (later row.period portion) row.values row.values fit fit)
    k

-- a table after a change

made-fits : (n used : ℕ) (columns : List Column) (ds : List Draft) → FitDrafts columns ds
    → FitVersions columns (made n (numbered used ds))
made-fits n used columns [] h = tt
made-fits n used columns (d ∷ ds) h = (h.0, made-fits n (used + 1) columns ds h.1)

closed-fits : (n : ℕ) (goes : Row → Bool) (columns : List Column) (vs : List Version) → FitVersions columns vs
    → FitVersions columns (map (closed n goes) vs)
closed-fits n goes columns [] h = tt
closed-fits n goes columns (v ∷ vs) h = (
  elim (is_none v.systo && goes v.row) as
      (λ b. fits columns (cond b (record v { systo = Some n }) v).row.values ≡ true) [ true ↦ h.0 | false ↦ h.0 ],
  closed-fits n goes columns vs h.1,
)

used-few : (n used : ℕ) (tests : List (Bool × BookRefused))
    → first_of (tests ++ (leb commit_limit n || ltb version_limit used, Full) ∷ []) ≡ None → used ≤ version_limit
used-few n used tests h =
    ltb-false version_limit used
    (or_parts _ _
    (last_of (λ (t : Bool × BookRefused). t.0 ≡ false) tests (leb commit_limit n || ltb version_limit used, Full)
    (first_of-none _ h))).1

changed-few : (n : ℕ) (c : Change) (t : Table) → t.used ≤ version_limit → first_of (tests_of n c t) ≡ None
    → (changed c t).used ≤ version_limit
changed-few n (Make name schema) t few h = omega arith
changed-few n (Load name rows) t few h =
    used-few n (changed (Load name rows) t).used ((not (list_all (λ d. fits t.schema d.values) rows), WrongKind) ∷ []) h
changed-few n (Update name portion sets conds) t few h =
    used-few n (changed (Update name portion sets conds) t).used (flat_map (pair_tests t.schema) (sets ++ conds)) h
changed-few n (Delete name portion conds) t few h =
    used-few n (changed (Delete name portion conds) t).used (flat_map (pair_tests t.schema) conds) h

sound_changed : (n : ℕ) (c : Change) (t : StoredTable) → first_of (tests_of n c (table_at n t)) ≡ None → IsSound t
    → IsSound (kept_table_after n c t)
sound_changed n c t h s =
    let ds = drafts_of c t.schema (shown n t.versions) in
    record {
      few = let used = changed-few n c (table_at n t) s.few h in omega (arith, length-kept_table_after n c t, used);
      fit = append-all (λ (v : Version). fits t.schema v.row.values ≡ true)
          (map (closed (n + 1) (removes c t.schema)) t.versions) (made (n + 1) (numbered (length t.versions) ds))
          (closed-fits (n + 1) (removes c t.schema) t.schema t.versions s.fit)
          (made-fits (n + 1) (length t.versions) t.schema ds
          (drafts-fit n c t h (shown-fits n t.schema t.versions s.fit)));
    }

sound_at_kept : (n : ℕ) (c : Change) (name : List ℕ) (ts : List StoredTable)
    → with_table (table_of (map (table_at n) ts) name) (λ t. first_of (tests_of n c t)) ≡ None
    → AllByRecursion IsSound ts → AllByRecursion IsSound (at_kept name (kept_table_after n c) ts)
sound_at_kept n c name [] h s = tt
sound_at_kept n c name (t ∷ ts) h s = by_test (λ k. sound_at_kept n c name ts k s.1) (bytes_eq t.name name) h where
  by_test :
      (with_table (table_of (map (table_at n) ts) name) (λ t. first_of (tests_of n c t)) ≡ None
      → AllByRecursion IsSound (at_kept name (kept_table_after n c) ts)) → (b : Bool)
      → with_table (cond b (Some (table_at n t)) (table_of (map (table_at n) ts) name))
      (λ t. first_of (tests_of n c t)) ≡ None
      → AllByRecursion IsSound (cond b (kept_table_after n c t ∷ ts) (t ∷ at_kept name (kept_table_after n c) ts))
  by_test rest true k = (sound_changed n c t k s.0, s.1)
  by_test rest false k = (s.0, rest k)

sound_after : (n : ℕ) (c : Change) (ts : List StoredTable) → first_refusal n (map (table_at n) ts) c ≡ None
    → AllByRecursion IsSound ts → AllByRecursion IsSound (kept_tables_after n ts c)
sound_after n (Make name schema) ts h s = append-all IsSound ts _ s (record { few = omega arith; fit = tt }, tt)
sound_after n (Load name rows) ts h s = sound_at_kept n (Load name rows) name ts h s
sound_after n (Update name portion sets conds) ts h s = sound_at_kept n (Update name portion sets conds) name ts h s
sound_after n (Delete name portion conds) ts h s = sound_at_kept n (Delete name portion conds) name ts h s

-- whole histories

-- each later change is accepted
unfoldable pub LegalFrom : ℕ → State → History → Type 0
LegalFrom n s [] = Unit {0}
LegalFrom n s (c ∷ cs) = (refusal_of n s c.change ≡ None) × LegalFrom (n + 1) (applied s c.change) cs

pub legal_from : (n : ℕ) (s : State) (cs : History)
    → ((k : ℕ) (c : Commit) → slice_get cs k ≡ Some c
    → refusal_of (n + k) (fold (λ s c. applied s c.change) s (take k cs)) c.change ≡ None) → LegalFrom n s cs
unfolding LegalFrom
legal_from n s [] h = tt
legal_from n s (c ∷ cs) h = (
  (let e : n ≡ n + 0 = omega arith in ap (λ m. refusal_of m s c.change) e ∙ h 0 c refl),
  legal_from (n + 1) (applied s c.change) cs
      (λ k d e. let m : n + 1 + k ≡ n + suc k = omega arith in ap
      (λ m. refusal_of m (fold (λ s c. applied s c.change) (applied s c.change) (take k cs)) d.change) m ∙ h (suc k)
      d e),
)

sound_from : (n : ℕ) (s : State) (ts : List StoredTable) (cs : History) → Ties n s ts → LegalFrom n s cs
    → AllByRecursion IsSound ts → AllByRecursion IsSound (kept_tables_from n ts cs)
unfolding LegalFrom
sound_from n s ts [] t l h = h
sound_from n s ts (c ∷ cs) t l h =
    sound_from (n + 1) (applied s c.change) (kept_tables_after n ts c.change) cs (Ties-after n s ts c.change t) l.1
    (sound_after n c.change ts (ap (λ x. first_refusal n x c.change) t.newest ∙ first-none n s c.change l.0) h)

-- the tables of a legal history
pub all_sound : (h : History) → IsLegal h → AllByRecursion IsSound (kept_tables_from 0 [] h)
all_sound h legal =
    sound_from 0 [] [] h Ties-none
    (legal_from 0 [] h
    (λ k c e. let m : 0 + k ≡ k = omega arith in ap (λ m. refusal_of m (state_after (take k h)) c.change) m
    ∙ legal k c e)) tt

-- a legal history has at most a million commits
pub few_commits : (h : History) → IsLegal h → length h ≤ commit_limit
few_commits [] legal = omega arith
few_commits (c ∷ cs) legal =
    let last = get_or (c ∷ cs) (length cs) c in
    let accepted = legal (length cs) last (slice_get-get_or (c ∷ cs) (length cs) c (omega arith)) in
    omega (
      arith,
      few (length cs) (state_after (take (length cs) (c ∷ cs))) last.change
          (first-none (length cs) (state_after (take (length cs) (c ∷ cs))) last.change accepted),
    )

-- the rows of a sound table

pub found_sound : (name : List ℕ) (ts : List StoredTable) → AllByRecursion IsSound ts
    → IfSome (kept_table name ts) IsSound
found_sound name [] h = tt
found_sound name (t ∷ ts) h =
    elim (bytes_eq t.name name) as
    (λ b. IfSome (cond b (Some t) (kept_table name ts)) IsSound) [ true ↦ h.0 | false ↦ found_sound name ts h.1 ]

few_shown : (n : ℕ) (vs : List Version) → length (shown n vs) ≤ length vs
few_shown n [] = omega arith
few_shown n (v ∷ vs) =
    elim (shows n v) as
    (λ b. length (cons_option (cond b (Some v.row) None) (shown n vs)) ≤ suc (length vs)) [
      | true ↦
          omega (arith, few_shown n vs)
      | false ↦ omega (arith, few_shown n vs)
    ]

pub rising-rows : (lo hi : ℕ) (rows : List Row) → RiseIn lo hi rows → RowsRise rows
rising-rows lo hi [] h k d lt = absurd (omega arith)
rising-rows lo hi (r ∷ []) h k d lt = absurd (omega arith)
rising-rows lo hi (r ∷ s ∷ rows) h zero d lt = h.2.0
rising-rows lo hi (r ∷ s ∷ rows) h (suc k) d lt =
    let e : suc k + 1 ≡ suc (k + 1) = omega arith in rw e (rising-rows r.id hi (s ∷ rows) h.2 k d (omega arith))

-- the rows as of a commit: at most a million, by rising id, and they fit the columns
pub rows-few : (h : History) (name : List ℕ) (t : StoredTable) (n : ℕ) (rows : List Row) → IsTableOf h name t
    → rows ≡ shown n t.versions → length rows ≤ version_limit
rows-few h name t n rows table e = omega (arith, ap length e, few_shown n t.versions, table.sound.few)

pub rows-rise : (h : History) (name : List ℕ) (t : StoredTable) (n : ℕ) (rows : List Row) → IsTableOf h name t
    → rows ≡ shown n t.versions → RowsRise rows
rows-rise h name t n rows table e =
    rw e (rising-rows 0 (length t.versions) (shown n t.versions) (shown_rise_all n t.versions table.well.ids))

pub rows-fit : (h : History) (name : List ℕ) (t : StoredTable) (n : ℕ) (rows : List Row) → IsTableOf h name t
    → rows ≡ shown n t.versions
    → IfSome (schema_in h name) (λ columns. All (λ row. IsTrue (fits columns row.values)) rows)
rows-fit h name t n rows table e =
    let columns : schema_in h name ≡ Some t.schema = ap (option_map (λ (u : Table). u.schema)) table.newest in
    rw (columns, e)
    (All-from_recursion (λ (row : Row). fits t.schema row.values ≡ true) (shown n t.versions)
    (shown-fits n t.schema t.versions table.sound.fit))

-- the same of the rows that also pass a test
pub held-few : (h : History) (name : List ℕ) (t : StoredTable) (n : ℕ) (test : Row → Bool) (rows : List Row)
    → IsTableOf h name t → rows ≡ filter test (shown n t.versions) → length rows ≤ version_limit
held-few h name t n test rows table e =
    omega (
      arith,
      ap length e,
      length-filter test (shown n t.versions),
      count_by-le-length test (shown n t.versions),
      few_shown n t.versions,
      table.sound.few,
    )

pub held-rise : (h : History) (name : List ℕ) (t : StoredTable) (n : ℕ) (test : Row → Bool) (rows : List Row)
    → IsTableOf h name t → rows ≡ filter test (shown n t.versions) → RowsRise rows
held-rise h name t n test rows table e =
    rw e
    (rising-rows 0 (length t.versions) (filter test (shown n t.versions))
    (RiseIn-filter test 0 (length t.versions) (shown n t.versions) (shown_rise_all n t.versions table.well.ids)))

pub held-fit : (h : History) (name : List ℕ) (t : StoredTable) (n : ℕ) (test : Row → Bool) (rows : List Row)
    → IsTableOf h name t → rows ≡ filter test (shown n t.versions)
    → IfSome (schema_in h name) (λ columns. All (λ row. IsTrue (fits columns row.values)) rows)
held-fit h name t n test rows table e =
    let columns : schema_in h name ≡ Some t.schema = ap (option_map (λ (u : Table). u.schema)) table.newest in
    rw (columns, e)
    (All-filter test (λ (row : Row). fits t.schema row.values ≡ true) (shown n t.versions)
    (All-from_recursion (λ (row : Row). fits t.schema row.values ≡ true) (shown n t.versions)
    (shown-fits n t.schema t.versions table.sound.fit)))
