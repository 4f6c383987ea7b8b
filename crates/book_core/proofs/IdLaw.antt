-- An id belongs to one row for ever, and a row that is no longer visible doesn't return, whatever the changes were.
use Rattle.std.proofs.Common.{◌≡◌, ℕ, ◌≤◌, List, [], length, min, true, cond, Option, Some, None}
use Rattle.std.proofs.Common.{refl, ap, sym, ◌∙◌, arith, subst}
use Rattle.std.specs.Prelude.{Contains, IfSome, option_map, unwrap_or}
use Rattle.std.proofs.lemmas.List.{take_min}
use Rattle.row_core.specs.declared.row.Row.{Row}
use Rattle.version_core.specs.Shown.{row_shown, shown, shows}
use Rattle.version_core.specs.declared.version.Version.{Version}
use Rattle.book_core.specs.History.{History, rows_at, state_after}
use Rattle.book_core.specs.State.{Table, rows_of}
use Rattle.book_core.specs.StoredTables.{IsNumbered, IsWellKept, StoredTable, kept_table, kept_tables_from, table_at}
use Rattle.book_core.specs.Versions.{IsAfter}
use Rattle.book_core.proofs.Ids.{all_well_kept, found_well}
use Rattle.book_core.proofs.Past.{In, contains_from, from_filtered, in_filtered, in_from}
use Rattle.book_core.proofs.Past.{row_when, shown_when, unique, when_shown}
use Rattle.book_core.proofs.Reading.{rows_at-found, table_of-map}
use Rattle.book_core.proofs.Shown.{rows_at-kept}

-- facts about numbered versions

-- the version whose row is visible as of commit n
record IsShownOf (n : ℕ) (vs : List Version) (r : Row) (v : Version) : Type 0 where
  listed : In v vs
  shows_it : shows n v ≡ true
  has_row : v.row ≡ r

shown_version : (n : ℕ) (vs : List Version) (r : Row) → Contains (shown n vs) r → (v : Version) × IsShownOf n vs r v
shown_version n vs r c =
    let (v, listed, some) = from_filtered (row_shown n) vs r (in_from (shown n vs) r c) in
    let (shows_it, has_row) = row_when n v r some in
    (v, record { listed = listed; shows_it = shows_it; has_row = has_row })

-- two versions are equal if their rows have the same id
one_version : (n m : ℕ) (vs : List Version) (r s : Row) (v w : Version)
    → IsNumbered 0 vs → IsShownOf n vs r v → IsShownOf m vs s w → r.id ≡ s.id → v ≡ w
one_version n m vs r s v w numbered first second same =
    unique 0 vs v w numbered first.listed second.listed
    (ap (λ (row : Row). row.id) first.has_row ∙ same ∙ sym (ap (λ (row : Row). row.id) second.has_row))

one_shown : (n m : ℕ) (vs : List Version) (r s : Row)
    → IsNumbered 0 vs → Contains (shown n vs) r → Contains (shown m vs) s → r.id ≡ s.id → r ≡ s
one_shown n m vs r s numbered c d same =
    let (v, first) = shown_version n vs r c in
    let (w, second) = shown_version m vs s d in
    let one = one_version n m vs r s v w numbered first second same in
    sym first.has_row ∙ ap (λ (v : Version). v.row) one ∙ second.has_row

after_earlier : (systo : Option ℕ) (m k : ℕ) → m ≤ k → IsAfter systo k → IsAfter systo m
after_earlier None m k le after = tt
after_earlier (Some to) m k le after = omega (arith, le, after)

lasts_shown : (n m k : ℕ) (vs : List Version) (r : Row)
    → IsNumbered 0 vs → n ≤ m → m ≤ k → Contains (shown n vs) r → Contains (shown k vs) r → Contains (shown m vs) r
lasts_shown n m k vs r numbered low high c d =
    let (v, first) = shown_version n vs r c in
    let (w, last) = shown_version k vs r d in
    let one = one_version n k vs r r v w numbered first last refl in
    let begins = (shown_when n v first.shows_it).0 in
    let ends = (shown_when k v (ap (shows k) one ∙ last.shows_it)).1 in
    let now : shows m v ≡ true = when_shown m v (omega (arith, begins, low)) (after_earlier v.systo m k high ends) in
    let here : In v.row (shown m vs) =
    in_filtered (row_shown m) vs v v.row first.listed (ap (λ b. cond b (Some v.row) None) now) in
    contains_from (shown m vs) r (subst (λ (row : Row). In row (shown m vs)) first.has_row here)

-- facts about histories

-- the versions of a table's rows: the table's rows as of a commit are read from them
record AreAllVersions (h : History) (name : List ℕ) (vs : List Version) : Type 0 where
  numbered : IsNumbered 0 vs
  rows : (n : ℕ) → rows_at h n name ≡ shown (min n (length h)) vs

-- a commit after the newest reads the same as the newest
rows-min : (h : History) (n : ℕ) (name : List ℕ) → rows_at h n name ≡ rows_at h (min n (length h)) name
rows-min h n name = ap (λ h. rows_of (state_after h) name) (sym (take_min n h))

all_versions : (h : History) (name : List ℕ) → (vs : List Version) × AreAllVersions h name vs
all_versions h name = by_kept (kept_table name tables) refl where
  tables : List StoredTable
  tables = kept_tables_from 0 [] h

  by_kept : (o : Option StoredTable) → o ≡ kept_table name tables → (vs : List Version) × AreAllVersions h name vs
  by_kept None e = (
    [],
    record {
      numbered = tt;
      rows = λ n.
          let k = min n (length h) in
          rows-min h n name
          ∙ sym (rows_at-kept h k name (omega arith))
          ∙ ap (λ o. unwrap_or (option_map (λ (u : Table). u.rows) o) [])
          (table_of-map k tables name ∙ ap (option_map (table_at k)) (sym e));
    },
  )
  by_kept (Some t) e =
      let found = found_well (length h) name tables (all_well_kept h) in
      let well = subst (λ o. IfSome o (IsWellKept (length h))) (sym e) found in (
        t.versions,
        record {
          numbered = well.ids;
          rows = λ n. rows-min h n name ∙ sym (rows_at-found h tables name (min n (length h)) t refl (omega arith) e);
        },
      )

pub one_row : (h : History) (n m : ℕ) (name : List ℕ) (r s : Row)
    → Contains (rows_at h n name) r → Contains (rows_at h m name) s → r.id ≡ s.id → r ≡ s
one_row h n m name r s c d same =
    let (vs, are) = all_versions h name in
    one_shown (min n (length h)) (min m (length h)) vs r s are.numbered
    (subst (λ rows. Contains rows r) (are.rows n) c) (subst (λ rows. Contains rows s) (are.rows m) d) same

pub row_lasts : (h : History) (n m k : ℕ) (name : List ℕ) (r : Row)
    → n ≤ m → m ≤ k → Contains (rows_at h n name) r → Contains (rows_at h k name) r → Contains (rows_at h m name) r
row_lasts h n m k name r low high c d =
    let (vs, are) = all_versions h name in
    let top = length h in
    subst (λ rows. Contains rows r) (sym (are.rows m))
    (lasts_shown (min n top) (min m top) (min k top) vs r are.numbered (omega (arith, low)) (omega (arith, high))
    (subst (λ rows. Contains rows r) (are.rows n) c) (subst (λ rows. Contains rows r) (are.rows k) d))
