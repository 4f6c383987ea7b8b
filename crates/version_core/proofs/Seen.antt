-- The versions visible as of the first commits, and the rows visible as of one.
use Rattle.std.proofs.Common.{◌≡◌, ℕ, ◌+◌, ◌<◌, List, [], ◌∷◌, ◌++◌, length, map, zero, suc, Bool, true, false, cond, Some, None, refl, ap, subst, sym, ◌∙◌, take, get_or, ◌&&◌, leb, arith}
use Rattle.std.specs.List.{cons_option, filter, slice_get}
use Rattle.std.specs.Prelude.{All}
use Rattle.std.proofs.lemmas.List.{append-nil, length-map, take_more}
use Rattle.std.proofs.lemmas.List.Elements.{filter-append, filter_map-append}
use Rattle.row_core.specs.declared.row.Row.{Row}
use Rattle.table_core.specs.Places.{at_places}
use Rattle.table_core.proofs.PlaceLemmas.{at_places-more, length-at_places}
use Rattle.version_core.specs.Shown.{holds_where, shows, row_shown, shown, is_behind, end_at, version_as_of, versions_as_of}
use Rattle.version_core.specs.Stored.{SystemPeriod, version_of, versions_of}
use Rattle.version_core.specs.declared.version.Version.{Version}
use Rattle.version_core.proofs.StoredLemmas.{versions_of-append}

versions_as_of-take_more : (at m last i : ℕ) (vs : List Version) (v : Version) → i < length vs → v ≡ get_or vs i v
    → versions_as_of at m last (take (i + 1) vs)
    ≡ versions_as_of at m last (take i vs) ++ cons_option (version_as_of at m last v) []
versions_as_of-take_more at m last i vs v h e =
    ap (versions_as_of at m last) (take_more vs i v h)
    ∙ filter_map-append (version_as_of at m last) (take i vs) (get_or vs i v ∷ [])
    ∙ ap (λ u. versions_as_of at m last (take i vs) ++ cons_option (version_as_of at m last u) []) (sym e)

pub versions_as_of-more : (at m last i : ℕ) (vs : List Version) (v : Version) (us : List Version) → i < length vs
    → v ≡ get_or vs i v → (leb v.sysfrom at && (leb v.sysfrom last && is_behind (end_at at v.systo) m)) ≡ true
    → us ≡ versions_as_of at m last (take i vs)
    → us ++ record { row = v.row; sysfrom = v.sysfrom; systo = end_at at v.systo } ∷ [] ≡ versions_as_of at m last
    (take (i + 1) vs)
versions_as_of-more at m last i vs v us h e t k =
    ap (λ l. l ++ record { row = v.row; sysfrom = v.sysfrom; systo = end_at at v.systo } ∷ []) k
    ∙ sym (versions_as_of-take_more at m last i vs v h e
    ∙ ap (λ b. versions_as_of at m last (take i vs) ++ cons_option
    (cond b (Some (record { row = v.row; sysfrom = v.sysfrom; systo = end_at at v.systo })) None) []) t)

pub versions_as_of-same : (at m last i : ℕ) (vs : List Version) (v : Version) (us : List Version) → i < length vs
    → v ≡ get_or vs i v → (leb v.sysfrom at && (leb v.sysfrom last && is_behind (end_at at v.systo) m)) ≡ false
    → us ≡ versions_as_of at m last (take i vs) → us ≡ versions_as_of at m last (take (i + 1) vs)
versions_as_of-same at m last i vs v us h e t k =
    k ∙ sym (versions_as_of-take_more at m last i vs v h e
    ∙ ap (λ b. versions_as_of at m last (take i vs) ++ cons_option
    (cond b (Some (record { row = v.row; sysfrom = v.sysfrom; systo = end_at at v.systo })) None) []) t ∙ append-nil _)

shown-take_more : (n i : ℕ) (vs : List Version) (v : Version) → i < length vs → v ≡ get_or vs i v
    → shown n (take (i + 1) vs) ≡ shown n (take i vs) ++ cons_option (row_shown n v) []
shown-take_more n i vs v h e =
    ap (shown n) (take_more vs i v h) ∙ filter_map-append (row_shown n) (take i vs) (get_or vs i v ∷ [])
    ∙ ap (λ u. shown n (take i vs) ++ cons_option (row_shown n u) []) (sym e)

-- the row of one version, if it is visible and passes
held-one : (test : Row → Bool) (row : Row) (is_shown : Bool)
    → filter test (cons_option (cond is_shown (Some row) None) []) ≡ cond (is_shown && test row) (row ∷ []) []
held-one test row true = refl
held-one test row false = refl

held-take_more : (n i : ℕ) (test : Row → Bool) (vs : List Version) (v : Version) → i < length vs → v ≡ get_or vs i v
    → filter test (shown n (take (i + 1) vs))
    ≡ filter test (shown n (take i vs)) ++ cond (shows n v && test v.row) (v.row ∷ []) []
held-take_more n i test vs v h e =
    ap (filter test) (shown-take_more n i vs v h e)
    ∙ filter-append test (shown n (take i vs)) (cons_option (row_shown n v) [])
    ∙ ap (λ rows. filter test (shown n (take i vs)) ++ rows) (held-one test v.row (shows n v))

-- a visible version whose row passes the test adds that row
pub held-more : (n i : ℕ) (test : Row → Bool) (vs : List Version) (v : Version) (rows : List Row) → i < length vs
    → v ≡ get_or vs i v → (shows n v && test v.row) ≡ true → rows ≡ filter test (shown n (take i vs))
    → rows ++ v.row ∷ [] ≡ filter test (shown n (take (i + 1) vs))
held-more n i test vs v rows h e t k =
    ap (λ l. l ++ v.row ∷ []) k
    ∙ sym (held-take_more n i test vs v h e
    ∙ ap (λ b. filter test (shown n (take i vs)) ++ cond b (v.row ∷ []) []) t)

-- another version adds none
pub held-same : (n i : ℕ) (test : Row → Bool) (vs : List Version) (v : Version) (rows : List Row) → i < length vs
    → v ≡ get_or vs i v → (shows n v && test v.row) ≡ false → rows ≡ filter test (shown n (take i vs))
    → rows ≡ filter test (shown n (take (i + 1) vs))
held-same n i test vs v rows h e t k =
    k ∙ sym (held-take_more n i test vs v h e
    ∙ ap (λ b. filter test (shown n (take i vs)) ++ cond b (v.row ∷ []) []) t ∙ append-nil _)

-- the row of the version at a position
pub row-at : (vs : List Version) (i : ℕ) (v : Version) → i < length vs → v ≡ get_or vs i v
    → slice_get (map (λ (w : Version). w.row) vs) i ≡ Some v.row
row-at [] i v inside e = absurd (omega (arith, inside))
row-at (w ∷ ws) zero v inside e = ap (λ (u : Version). Some u.row) (sym e)
row-at (w ∷ ws) (suc i) v inside e = row-at ws i v (omega (arith, inside)) e

-- all rows hold if no point is given
pub all-held : (rows : List Row) → filter (holds_where None) rows ≡ rows
all-held [] = refl
all-held (row ∷ rows) = ap (λ l. row ∷ l) (all-held rows)

-- the versions of the rows at some positions, and one more
pub versions_of-at_places : (places : List ℕ) (system_periods : List SystemPeriod) (vs : List Version) (place : ℕ)
    (row : Row) (system_period : SystemPeriod) → All (λ p. p < length vs) places → length places ≡ length system_periods
    → slice_get (map (λ (v : Version). v.row) vs) place ≡ Some row
    → versions_of (at_places (places ++ place ∷ []) (map (λ (v : Version). v.row) vs)) (system_periods
    ++ system_period ∷ [])
    ≡ versions_of (at_places places (map (λ (v : Version). v.row) vs)) system_periods
    ++ version_of row system_period ∷ []
versions_of-at_places places system_periods vs place row system_period within beside there =
    let rows = map (λ (v : Version). v.row) vs in
    let inside = subst (λ n. All (λ p. p < n) places) (sym (length-map vs (λ (v : Version). v.row))) within in
    let same = length-at_places places rows inside ∙ beside in
    ap (λ l. versions_of l (system_periods ++ system_period ∷ [])) (at_places-more places rows place row there)
    ∙ versions_of-append (at_places places rows) (row ∷ []) system_periods (system_period ∷ []) same
