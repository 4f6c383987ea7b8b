-- A change that is made in the tables.
use Rattle.std.proofs.Common.{◌≡◌, ℕ, ◌+◌, ◌≤◌, List, [], ◌∷◌, ◌++◌, Bool, true, false, ◌&&◌, not, cond, map, Option, Some, None, length, get_or, set, refl, ap, sym, subst, ◌∙◌}
use Rattle.std.specs.Prelude.{◌≢◌, filter, is_none, Result, Ok, IfErr, IfOk, IfSome, MatchOption, OnErr, OnOk, option_map, position, count_by, bytes_eq}
use Rattle.std.proofs.lemmas.List.{append-nil, set-get_or}
use Rattle.std.proofs.lemmas.Result.{IfErr-weaker, IfOk-weaker, on_err_weaker, on_ok_weaker}
use Rattle.row_core.specs.Schema.{key_of}
use Rattle.row_core.specs.declared.failure.Failure.{Failure}
use Rattle.row_core.specs.declared.failure.Failure.TheVariants.{NoMemory}
use Rattle.row_core.specs.declared.row.Row.{Row}
use Rattle.row_core.specs.declared.schema.Column.{Column}
use Rattle.table_core.specs.Numbered.{unnumbered}
use Rattle.version_core.specs.Keys.{break_key, overlap_after}
use Rattle.version_core.specs.Limits.{version_limit}
use Rattle.version_core.specs.OpenVersions.{closed, current, versions_after}
use Rattle.version_core.specs.Rows as by_place
use Rattle.version_core.specs.declared.change.RowsChange.{RowsChange}
use Rattle.version_core.specs.declared.change.RowsChange.TheVariants as rows
use Rattle.version_core.specs.declared.keys.KeyOverlap.{KeyOverlap}
use Rattle.version_core.specs.declared.version.Version.{Version}
use Rattle.version_core.specs.declared.versions.VersionCounts.{VersionCounts}
use Rattle.book_core.specs.Bound.{DoesTheSame, IsBound, IsMade, IsOfRows}
use Rattle.version_core.specs.declared.portion_change.PortionChange.{PortionChange}
use Rattle.book_core.specs.History.{History, state_after}
use Rattle.book_core.specs.State.{Table, changed, table_named, table_of}
use Rattle.book_core.specs.StoredTables.{AreKept, HasRoom, HasRoomIn, IsUnbroken, IsWellKept, StoredTable, added_in, at_kept, closed_in, kept_table, kept_table_after, overlap_in, table_at}
use Rattle.book_core.specs.declared.change.Change.{Change}
use Rattle.book_core.specs.declared.change.Change.TheVariants.{Make, Load, Update, Delete}
use Rattle.book_core.proofs.Applying.{found_in, newest_of}
use Rattle.book_core.proofs.BoundLemmas.{changes-rows}
use Rattle.book_core.proofs.ChangedTables.{added-current, at_kept-place, closed_in-make, find-absent, find-place, none_counted, room-current, versions_after-kept, taken-current}
use Rattle.book_core.proofs.KeyFound.{overlap-in}

-- the table with other versions
abbrev pub with_versions : StoredTable → List Version → StoredTable
with_versions t versions = record t { versions = versions }

-- ---- a change that affects no rows

none-closed : (n : ℕ) (vs : List Version) → map (closed n (by_place.removes (rows.Load []))) vs ≡ vs
none-closed n [] = refl
none-closed n (v ∷ vs) =
    ap (λ left. left ∷ map (closed n (by_place.removes (rows.Load []))) vs) (left (is_none v.systo))
    ∙ ap (λ l. v ∷ l) (none-closed n vs)
  where
    left : (b : Bool) → cond (b && false) (record v { systo = Some n }) v ≡ v
    left true = refl
    left false = refl

all-left : (now : List Row) → filter (λ row. not (by_place.removes (rows.Load []) row)) now ≡ now
all-left [] = refl
all-left (row ∷ now) = ap (λ l. row ∷ l) (all-left now)

-- it leaves the table, if there is one, unchanged
record IsUntouched (n : ℕ) (c : Change) (o : Option StoredTable) : Type 0 where
  after : IfSome o (λ t. kept_table_after n c t ≡ t)
  added : 0 ≡ added_in n c o
  closed : 0 ≡ closed_in n c o
  apart : overlap_in n c o ≡ false

untouched : (n : ℕ) (c : Change) (o : Option StoredTable) → IsOfRows c
    → IfSome o (λ t. DoesTheSame c t.schema (rows.Load [])) → IfSome o (IsWellKept n) → IfSome o IsUnbroken
    → IsUntouched n c o
untouched n c None of same well unbroken = record { after = tt; added = refl; closed = refl; apart = refl }
untouched n c (Some t) of same well unbroken = record {
  after = sym (versions_after-kept n c (rows.Load []) t same well)
      ∙ ap (with_versions t)
      (append-nil (map (closed (n + 1) (by_place.removes (rows.Load []))) t.versions) ∙ none-closed (n + 1) t.versions);
  added = added-current n c (rows.Load []) t (Some t) same well refl;
  closed = sym (none_counted (current t.versions)) ∙ taken-current n c (rows.Load []) t (Some t) same well refl;
  apart = sym (overlap-in n c (rows.Load []) t (Some t) of same well unbroken refl)
      ∙ ap (break_key (key_of t.schema))
      (append-nil (map unnumbered (filter (λ row. not (by_place.removes (rows.Load []) row)) (current t.versions)))
      ∙ ap (map unnumbered) (all-left (current t.versions)))
      ∙ unbroken;
}

-- the tables are unchanged if the table is
kept-same : (name : List ℕ) (f : StoredTable → StoredTable) (ts : List StoredTable)
    → IfSome (kept_table name ts) (λ t. f t ≡ t) → at_kept name f ts ≡ ts
kept-same name f [] = λ h. refl
kept-same name f (t ∷ ts) =
    elim (bytes_eq t.name name) as
    (λ b. IfSome (cond b (Some t) (kept_table name ts)) (λ t. f t ≡ t)
    → cond b (f t ∷ ts) (t ∷ at_kept name f ts) ≡ t ∷ ts) [
      | true ↦ λ h. ap (λ t. t ∷ ts) h
      | false ↦ λ h. ap (λ l. t ∷ l) (kept-same name f ts h)
    ]

pub made-nothing : (n : ℕ) (c : Change) (ts : List StoredTable) (counts : VersionCounts) → IsOfRows c
    → IfSome (kept_table (table_named c) ts) (λ t. DoesTheSame c t.schema (rows.Load []))
    → IfSome (kept_table (table_named c) ts) (IsWellKept n) → IfSome (kept_table (table_named c) ts) IsUnbroken
    → counts.added ≡ 0 → counts.closed ≡ 0 → IsMade n c ts ts (Ok counts)
made-nothing n c ts counts of same well unbroken none_added none_closed =
    let left = untouched n c (kept_table (table_named c) ts) of same well unbroken in
    record {
      ok = sym (kept-same (table_named c) (kept_table_after n c) ts left.after) ∙ changes-rows n ts c of;
      added = none_added ∙ left.added;
      closed = none_closed ∙ left.closed;
      apart = left.apart;
      overlap = tt;
      kept = tt;
    }

-- without its table nothing changes
pub made-absent : (n : ℕ) (c : Change) (ts : List StoredTable) (counts : VersionCounts) → IsOfRows c
    → position (λ t. bytes_eq t.name (table_named c)) ts ≡ None → counts.added ≡ 0 → counts.closed ≡ 0
    → IsMade n c ts ts (Ok counts)
made-absent n c ts counts of none none_added none_closed =
    let absent = find-absent (table_named c) ts none in
    made-nothing n c ts counts of (rw absent tt) (rw absent tt) (rw absent tt) none_added none_closed

-- ---- a change of a table's rows

-- the table's versions after a change by column indexes with the same effect
pub made-place : (n : ℕ) (c : Change) (r : RowsChange) (ts : List StoredTable) (at : ℕ) (t : StoredTable)
    (versions : List Version) (result : Result VersionCounts (Failure KeyOverlap)) → IsOfRows c
    → position (λ t. bytes_eq t.name (table_named c)) ts ≡ Some at → t ≡ get_or ts at t → IsWellKept n t → IsUnbroken t
    → DoesTheSame c t.schema r
    → OnOk result (versions ≡ versions_after (n + 1) r t.versions)
    → IfOk result (λ counts. (counts.added ≡ length (by_place.drafts_of r (current t.versions)))
    × (counts.closed ≡ count_by (by_place.removes r) (current t.versions)))
    → OnOk result (overlap_after r (key_of t.schema) t.versions ≡ false)
    → IfErr result (λ why. why ≢ NoMemory → overlap_after r (key_of t.schema) t.versions ≡ true)
    → OnErr result (versions ≡ t.versions)
    → IsMade n c ts (set ts at (with_versions t versions)) result
made-place n c r ts at t versions result of place is well unbroken same ok counts apart overlap kept =
    let found = find-place (table_named c) ts at t place is in
    let meets = overlap-in n c r t (kept_table (table_named c) ts) of same well unbroken found in
    record {
      ok = on_ok_weaker result
          (λ e. at_kept-place (table_named c) (kept_table_after n c) ts at t (with_versions t versions) place is
          (ap (with_versions t) e ∙ versions_after-kept n c r t same well) ∙ changes-rows n ts c of) ok;
      added = IfOk-weaker result _ _
          (λ counts e. e.0 ∙ added-current n c r t (kept_table (table_named c) ts) same well found) counts;
      closed = IfOk-weaker result _ _
          (λ counts e. e.1 ∙ taken-current n c r t (kept_table (table_named c) ts) same well found) counts;
      apart = on_ok_weaker result (λ none. sym meets ∙ none) apart;
      overlap = IfErr-weaker result _ _ (λ why some other. sym meets ∙ some other) overlap;
      kept = on_err_weaker result
          (λ e. ap (λ vs. set ts at (with_versions t vs)) e ∙ ap (set ts at) is ∙ set-get_or ts at t) kept;
    }

-- a new table
pub made-new : (n : ℕ) (name : List ℕ) (schema : List Column) (ts now : List StoredTable) (counts : VersionCounts)
    → now ≡ ts ++ record { name = name; schema = schema; versions = [] } ∷ [] → counts.added ≡ 0 → counts.closed ≡ 0
    → IsMade n (Make name schema) ts now (Ok counts)
made-new n name schema ts now counts e none_added none_closed = record {
  ok = e;
  added = none_added ∙ sym (nothing-added (kept_table name ts));
  closed = none_closed ∙ sym (closed_in-make n name schema (kept_table name ts));
  apart = nothing-overlaps (kept_table name ts);
  overlap = tt;
  kept = tt;
}
  where
    nothing-added : (o : Option StoredTable) → added_in n (Make name schema) o ≡ 0
    nothing-added None = refl
    nothing-added (Some t) = refl

    nothing-overlaps : (o : Option StoredTable) → overlap_in n (Make name schema) o ≡ false
    nothing-overlaps None = refl
    nothing-overlaps (Some t) = refl

-- a fact about a table, if there is one
pub of-some : (P Q : StoredTable → Type 0) (o : Option StoredTable) → ((t : StoredTable) → P t → Q t) → IfSome o P
    → IfSome o Q
of-some P Q None f h = tt
of-some P Q (Some t) f h = f t h

-- a change of rows doesn't exceed the limit
pub room-rows : (n : ℕ) (c : Change) → IsOfRows c → (t : StoredTable) → HasRoomIn n c t
    → (changed c (table_at n t)).used ≤ version_limit
room-rows n (Make table made) of t room = absurd of
room-rows n (Load table drafts) of t room = room
room-rows n (Update table portion sets conds) of t room = room
room-rows n (Delete table portion conds) of t room = room

-- ---- what a change is bound to in a book

-- for the stored table
pub kept-bound : (h now : History) (ts : List StoredTable) (c : Change) (bound : Option PortionChange) → AreKept h ts
    → h ≡ now
    → MatchOption (table_of (state_after now) (table_named c)) (bound ≡ None) (λ t. IsBound c t.schema bound)
    → MatchOption (kept_table (table_named c) ts) (bound ≡ None) (λ t. IsBound c t.schema bound)
kept-bound h now ts c bound k v m =
    by_table (kept_table (table_named c) ts)
    (subst (λ (o : Option Table). MatchOption o (bound ≡ None) (λ t. IsBound c t.schema bound))
    (sym (found_in (length now) (state_after now) ts (table_named c) (newest_of h now ts k v))) m)
  where
    by_table : (o : Option StoredTable)
        → MatchOption (option_map (table_at (length now)) o) (bound ≡ None) (λ (t : Table). IsBound c t.schema bound)
        → MatchOption o (bound ≡ None) (λ t. IsBound c t.schema bound)
    by_table None m = m
    by_table (Some t) m = m

-- a change that is bound to one of a portion
pub record IsOfPortion (c : Change) (o : Option StoredTable) (portion : PortionChange) : Type 0 where
  pub of : IsOfRows c
  pub same : IfSome o (λ t. DoesTheSame c t.schema (rows.Portion portion))

pub portion-of : (c : Change) (o : Option StoredTable) (portion : PortionChange)
    → MatchOption o (Some portion ≡ None) (λ t. IsBound c t.schema (Some portion)) → IsOfPortion c o portion
portion-of (Make table made) None portion m = absurd (cc)
portion-of (Make table made) (Some t) portion m = absurd (cc)
portion-of (Load table drafts) None portion m = absurd (cc)
portion-of (Load table drafts) (Some t) portion m = absurd (cc)
portion-of (Update table p sets conds) None portion m = record { of = tt; same = tt }
portion-of (Update table p sets conds) (Some t) portion m = record { of = tt; same = m }
portion-of (Delete table p conds) None portion m = record { of = tt; same = tt }
portion-of (Delete table p conds) (Some t) portion m = record { of = tt; same = m }

-- a change that isn't
pub bound-none : (c : Change) (o : Option StoredTable) (bound : Option PortionChange) → bound ≡ None
    → MatchOption o (bound ≡ None) (λ t. IsBound c t.schema bound) → IfSome o (λ t. IsBound c t.schema None)
bound-none c None bound e m = tt
bound-none c (Some t) bound e m = subst (λ b. IsBound c t.schema b) e m

-- its new rows don't exceed the limit
pub room-portion : (n : ℕ) (c : Change) (ts : List StoredTable) (portion : PortionChange)
    → IsOfPortion c (kept_table (table_named c) ts) portion → IfSome (kept_table (table_named c) ts) (IsWellKept n)
    → HasRoom n c ts
    → IfSome (kept_table (table_named c) ts)
    (λ t. length t.versions + length (by_place.drafts_of (rows.Portion portion) (current t.versions)) ≤ version_limit)
room-portion n c ts portion of well room =
    room-current n c (rows.Portion portion) (kept_table (table_named c) ts) of.same well
    (of-some (HasRoomIn n c) (λ t. (changed c (table_at n t)).used ≤ version_limit) (kept_table (table_named c) ts)
    (room-rows n c of.of) room)
