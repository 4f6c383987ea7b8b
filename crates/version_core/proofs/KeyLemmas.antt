-- The rows whose keys are tested are the rows of the state after the change.
use Rattle.std.proofs.Common.{◌≡◌, ℕ, ◌+◌, ◌<◌, List, [], ◌∷◌, ◌++◌, length, map, take, get_or, Bool, true, false, ◌&&◌, ◌||◌, not, cond, Some, refl, sym, ap, ◌∙◌, append-nil}
use Rattle.std.specs.Prelude.{◌≢◌, filter, is_none, slice_get}
use Rattle.std.specs.List.{cons_option, list_any}
use Rattle.std.proofs.lemmas.List.{map-append}
use Rattle.std.proofs.lemmas.List.Elements.{filter_map-append}
use Rattle.std.proofs.lemmas.Option.{slice_get-get_or}
use Rattle.std.proofs.Math.Bool.{and-true}
use Rattle.draft_core.specs.Lent.{lent_draft}
use Rattle.row_core.specs.declared.draft.Draft.{Draft}
use Rattle.draft_core.specs.declared.draft_ref.DraftRef.{DraftRef}
use Rattle.row_core.specs.declared.row.Row.{Row}
use Rattle.version_core.specs.Collisions.{collide, have_collision}
use Rattle.version_core.proofs.AddedRows.{pairs-filtered}
use Rattle.version_core.proofs.PairLemmas.{have_pair-map}
use Rattle.version_core.specs.Keys.{collides_left, is_left, rows_left, break_key}
use Rattle.version_core.specs.Finding.{ListsOpen, any_row, passes}
use Rattle.version_core.specs.Made.{draft_of}
use Rattle.version_core.specs.OpenVersions.{current, is_open}
use Rattle.table_core.specs.Numbered.{unnumbered}
use Rattle.version_core.specs.Rows.{removes}
use Rattle.version_core.specs.declared.change.RowsChange.{RowsChange}
use Rattle.version_core.specs.declared.version.Version.{Version}
use Rattle.version_core.proofs.FindingLemmas.{filter-listed, places_from-agree}
use Rattle.version_core.specs.Plans.{picked}
use Rattle.version_core.proofs.OpenLemmas.{filter-more, picked-places_from}

-- the kept rows, found among the versions
left-current : (c : RowsChange) (vs : List Version)
    → map draft_of (filter (is_left c) vs) ≡ rows_left c (current vs)
left-current c [] = refl
left-current c (v ∷ vs) = by_open (left-current c vs) (is_none v.systo) where
  by_test : (map draft_of (filter (is_left c) vs) ≡ rows_left c (current vs)) → (b : Bool)
      → map draft_of (cond b (v ∷ filter (is_left c) vs) (filter (is_left c) vs)) ≡ map unnumbered
      (cond b (v.row ∷ filter (λ row. not (removes c row)) (current vs))
      (filter (λ row. not (removes c row)) (current vs)))
  by_test rest true = ap (λ l. draft_of v ∷ l) rest
  by_test rest false = rest

  by_open : (map draft_of (filter (is_left c) vs) ≡ rows_left c (current vs)) → (b : Bool)
      → map draft_of
      (cond (b && not (removes c v.row)) (v ∷ filter (is_left c) vs) (filter (is_left c) vs))
      ≡ map unnumbered
      (filter (λ row. not (removes c row))
      (map (λ (v : Version). v.row) (cond b (v ∷ filter is_open vs) (filter is_open vs))))
  by_open rest false = rest
  by_open rest true = by_test rest (not (removes c v.row))

-- one of them collides with another row if and only if a version says so
pub any-left : (c : RowsChange) (key : List ℕ) (other : Draft) (vs : List Version)
    → list_any (collides_left c key other) vs ≡ list_any (λ left. collide key left other)
    (rows_left c (current vs))
any-left c key other [] = refl
any-left c key other (v ∷ vs) = by_open (any-left c key other vs) (is_none v.systo) where
  by_test :
      (list_any (collides_left c key other) vs ≡ list_any (λ left. collide key left other)
      (rows_left c (current vs))) → (b : Bool)
      → ((b && collide key (draft_of v) other) || list_any (collides_left c key other) vs)
      ≡ list_any (λ left. collide key left other)
      (map unnumbered
      (cond b (v.row ∷ filter (λ row. not (removes c row)) (current vs))
      (filter (λ row. not (removes c row)) (current vs))))
  by_test rest true = ap (λ t. collide key (draft_of v) other || t) rest
  by_test rest false = rest

  by_open :
      (list_any (collides_left c key other) vs ≡ list_any (λ left. collide key left other)
      (rows_left c (current vs))) → (b : Bool)
      → (((b && not (removes c v.row)) && collide key (draft_of v) other) || list_any
      (collides_left c key other) vs)
      ≡ list_any (λ left. collide key left other)
      (map unnumbered
      (filter (λ row. not (removes c row))
      (map (λ (v : Version). v.row) (cond b (v ∷ filter is_open vs) (filter is_open vs)))))
  by_open rest false = rest
  by_open rest true = by_test rest (not (removes c v.row))

-- they don't collide with each other if no rows did before
pub left-apart : (c : RowsChange) (key : List ℕ) (rows : List Row)
    → have_collision key (map unnumbered rows) ≡ false → have_collision key (rows_left c rows) ≡ false
left-apart c key rows none =
    have_pair-map (collide key) unnumbered (filter (λ row. not (removes c row)) rows)
    ∙ pairs-filtered (λ a b. collide key (unnumbered a) (unnumbered b)) (λ row. not (removes c row)) rows
    (sym (have_pair-map (collide key) unnumbered rows) ∙ none)

-- the rows of the versions at some positions
abbrev pub drafts_at : List Version → List ℕ → List Draft
drafts_at vs places = map draft_of (picked vs places)

-- the rows at the positions of all open versions
pub left-listed : (c : RowsChange) (vs : List Version) (places : List ℕ)
    → ListsOpen vs any_row places
    → drafts_at vs (filter (passes vs (is_left c)) places) ≡ rows_left c (current vs)
left-listed c vs places h =
    ap (drafts_at vs) (filter-listed vs any_row (λ v. not (removes c v.row)) places h
    ∙ places_from-agree (λ v. (is_open v && true) && not (removes c v.row)) (is_left c)
    (λ v. ap (λ b. b && not (removes c v.row)) (and-true (is_open v))) 0 vs)
    ∙ ap (map draft_of) (picked-places_from (is_left c) vs)
    ∙ left-current c vs

-- one position more, kept or removed

left-more : (vs : List Version) (p : Version → Bool) (places : List ℕ) (i : ℕ) (v : Version) → i < length places
    → get_or places i 0 < length vs → v ≡ get_or vs (get_or places i 0) v
    → drafts_at vs (filter (passes vs p) (take (i + 1) places)) ≡ drafts_at vs
    (filter (passes vs p) (take i places)) ++ cond (p v) (draft_of v ∷ []) []
left-more vs p places i v h inside e =
    let before = filter (passes vs p) (take i places) in
    ap (drafts_at vs) (filter-more vs p places i v h inside e)
    ∙ (elim (p v) as
    (λ b. drafts_at vs (before ++ cond b (get_or places i 0 ∷ []) []) ≡ drafts_at vs before ++ cond b
    (draft_of v ∷ []) []) [
      | true ↦
          ap (map draft_of)
          (filter_map-append (slice_get vs) before (get_or places i 0 ∷ [])
          ∙ ap (λ o. picked vs before ++ cons_option o [])
          (slice_get-get_or vs (get_or places i 0) v inside ∙ ap Some (sym e)))
          ∙ map-append draft_of (picked vs before) (v ∷ [])
      | false ↦ ap (drafts_at vs) (append-nil before) ∙ sym (append-nil (drafts_at vs before))
    ])

pub left-yes : (vs : List Version) (p : Version → Bool) (places : List ℕ) (i : ℕ) (v : Version) (rows : List DraftRef)
    (row : DraftRef) → i < length places → get_or places i 0 < length vs → v ≡ get_or vs (get_or places i 0) v
    → p v ≡ true → lent_draft row ≡ draft_of v
    → map lent_draft rows ≡ drafts_at vs (filter (passes vs p) (take i places))
    → map lent_draft (rows ++ row ∷ []) ≡ drafts_at vs (filter (passes vs p) (take (i + 1) places))
left-yes vs p places i v rows row h inside e test k was =
    map-append lent_draft rows (row ∷ []) ∙ ap (λ l. l ++ lent_draft row ∷ []) was
    ∙ ap (λ d. drafts_at vs (filter (passes vs p) (take i places)) ++ d ∷ []) k
    ∙ sym (left-more vs p places i v h inside e
    ∙ ap (λ b. drafts_at vs (filter (passes vs p) (take i places)) ++ cond b (draft_of v ∷ []) []) test)

pub left-no : (vs : List Version) (p : Version → Bool) (places : List ℕ) (i : ℕ) (v : Version) (rows : List DraftRef)
    → i < length places → get_or places i 0 < length vs → v ≡ get_or vs (get_or places i 0) v → p v ≡ false
    → map lent_draft rows ≡ drafts_at vs (filter (passes vs p) (take i places))
    → map lent_draft rows ≡ drafts_at vs (filter (passes vs p) (take (i + 1) places))
left-no vs p places i v rows h inside e test was =
    was ∙ sym
    (left-more vs p places i v h inside e
    ∙ ap (λ b. drafts_at vs (filter (passes vs p) (take i places)) ++ cond b (draft_of v ∷ []) []) test
    ∙ append-nil (drafts_at vs (filter (passes vs p) (take i places))))

-- one version more

-- a table with a key breaks it if and only if its rows collide
pub keyed-breaks : (key : List ℕ) (rows : List Draft) → key ≢ [] → break_key key rows ≡ have_collision key rows
keyed-breaks [] rows keyed = absurd (keyed refl)
keyed-breaks (column ∷ columns) rows keyed = refl
