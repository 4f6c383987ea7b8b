-- The positions of open versions, and what a change does at them.
use Rattle.std.proofs.Common.{◌≡◌, ℕ, ◌+◌, ◌*◌, ◌<◌, ◌≤◌, List, [], ◌∷◌, ◌++◌, Bool, true, false, ◌&&◌, cond, Some, length, map, take, get_or, suc, refl, ap, sym, ◌∙◌, arith, append_assoc, length-append}
use Rattle.std.specs.Prelude.{slice_get, slice_set, filter, fold, count_by, unwrap_or, option_map, flat_map, All}
use Rattle.std.specs.List.{cons_option, AllByRecursion}
use Rattle.std.proofs.lemmas.List.{append-nil, length-map, take_more, length_push}
use Rattle.std.proofs.lemmas.List.Elements.{filter_map-append, filter-append, All-from_recursion}
use Rattle.std.proofs.lemmas.Grind.{flat_map-append}
use Rattle.std.proofs.lemmas.List.Concat.{flat_map-cons}
use Rattle.std.proofs.lemmas.List.Sums.{fold-append}
use Rattle.std.proofs.lemmas.Option.{slice_get-get_or}
use Rattle.std.proofs.Math.Seq.{set-append_seam}
use Rattle.list_core.proofs.PlaceLemmas.{slice_get-seam}
use Rattle.list_core.proofs.MadeLemmas.{count-cons}
use Rattle.row_core.specs.declared.row.Row.{Row}
use Rattle.row_core.specs.declared.draft.Draft.{Draft}
use Rattle.table_core.specs.Numbered.{numbered}
use Rattle.version_core.proofs.PartLemmas.{parts_of-few}
use Rattle.version_core.specs.Rows.{drafts_of, parts_of_all, parts_of, removes, with_parts}
use Rattle.version_core.specs.Finding.{passes}
use Rattle.version_core.specs.OpenVersions.{closed, closed_at, current, is_open, is_taken, places_from, versions_after}
use Rattle.version_core.specs.Plans.{parts_at, picked}
use Rattle.version_core.specs.Made.{made}
use Rattle.version_core.specs.declared.change.RowsChange.{RowsChange}
use Rattle.version_core.specs.declared.change.RowsChange.TheVariants.{Load, Portion}
use Rattle.version_core.specs.declared.version.Version.{Version}
use Rattle.table_core.proofs.NumberedLemmas.{length-numbered}

-- the positions are within the list

pub bounded : (test : Version → Bool) (at top : ℕ) (vs : List Version) → at + length vs ≤ top
    → AllByRecursion (λ place. place < top) (places_from test at vs)
bounded test at top [] h = tt
bounded test at top (v ∷ vs) h =
    elim (test v) as
    (λ b. AllByRecursion (λ place. place < top)
    (cond b (at ∷ places_from test (at + 1) vs) (places_from test (at + 1) vs))) [
      | true ↦ (omega arith, bounded test (at + 1) top vs (omega arith))
      | false ↦ bounded test (at + 1) top vs (omega arith)
    ]

pub places_from-bounded : (test : Version → Bool) (vs : List Version)
    → All (λ place. place < length vs) (places_from test 0 vs)
places_from-bounded test vs =
    All-from_recursion (λ place. place < length vs) (places_from test 0 vs)
    (bounded test 0 (length vs) vs (omega arith))

-- a step from `done` to `done` with one version more
module _ (X : Type 0) (of : List Version → List ℕ → X) where
  moved : (test : Version → Bool) (done : List Version) (v : Version) (vs rest : List Version) (x : X)
      → of ((done ++ v ∷ []) ++ rest) (places_from test (length (done ++ v ∷ [])) vs) ≡ x
      → of (done ++ v ∷ rest) (places_from test (length done + 1) vs) ≡ x
  moved test done v vs rest x h =
      ap (λ l. of l (places_from test (length done + 1) vs)) (sym (append_assoc done (v ∷ []) rest))
      ∙ ap (λ n. of ((done ++ v ∷ []) ++ rest) (places_from test n vs)) (sym (length_push done v)) ∙ h

picked-behind : (test : Version → Bool) (done vs : List Version)
    → picked (done ++ vs) (places_from test (length done) vs) ≡ filter test vs
picked-behind test done [] = refl
picked-behind test done (v ∷ vs) =
    let rest = moved (List Version) picked test done v vs vs (filter test vs)
    (picked-behind test (done ++ v ∷ []) vs) in
    elim (test v) as
    (λ b. picked (done ++ v ∷ vs)
    (cond b (length done ∷ places_from test (length done + 1) vs) (places_from test (length done + 1) vs)) ≡ cond b
    (v ∷ filter test vs) (filter test vs)) [
      | true ↦ ap (λ o. cons_option o (picked (done ++ v ∷ vs) (places_from test (length done + 1) vs)))
          (slice_get-seam done v vs) ∙ ap (λ l. v ∷ l) rest
      | false ↦ rest
    ]

-- the versions at the positions of those that pass
pub picked-places_from : (test : Version → Bool) (vs : List Version)
    → picked vs (places_from test 0 vs) ≡ filter test vs
picked-places_from test vs = picked-behind test [] vs

pub filter-behind : (test p : Version → Bool) (done vs : List Version)
    → filter (passes (done ++ vs) p) (places_from test (length done) vs) ≡ places_from (λ v. test v && p v)
    (length done) vs
filter-behind test p done [] = refl
filter-behind test p done (v ∷ vs) =
    let later = places_from (λ v. test v && p v) (length done + 1) vs in
    let rest = moved (List ℕ) (λ l places. filter (passes l p) places) test done v vs vs later
    (filter-behind test p (done ++ v ∷ []) vs
    ∙ ap (λ n. places_from (λ v. test v && p v) n vs) (length_push done v)) in
    elim (test v) as
    (λ b. filter (passes (done ++ v ∷ vs) p)
    (cond b (length done ∷ places_from test (length done + 1) vs) (places_from test (length done + 1) vs)) ≡ cond
    (b && p v) (length done ∷ later) later) [
      | true ↦
          ap (λ o. cond (unwrap_or (option_map p o) false)
          (length done ∷ filter (passes (done ++ v ∷ vs) p) (places_from test (length done + 1) vs))
          (filter (passes (done ++ v ∷ vs) p) (places_from test (length done + 1) vs))) (slice_get-seam done v vs)
          ∙ ap (λ l. cond (p v) (length done ∷ l) l) rest
      | false ↦ rest
    ]

-- the positions of the versions that pass both tests
pub filter-places_from : (test p : Version → Bool) (vs : List Version)
    → filter (passes vs p) (places_from test 0 vs) ≡ places_from (λ v. test v && p v) 0 vs
filter-places_from test p vs = filter-behind test p [] vs

-- one position more

pub filter-more : (vs : List Version) (p : Version → Bool) (places : List ℕ) (i : ℕ) (v : Version) → i < length places
    → get_or places i 0 < length vs → v ≡ get_or vs (get_or places i 0) v
    → filter (passes vs p) (take (i + 1) places) ≡ filter (passes vs p) (take i places) ++ cond (p v)
    (get_or places i 0 ∷ []) []
filter-more vs p places i v h inside e =
    ap (filter (passes vs p)) (take_more places i 0 h)
    ∙ filter-append (passes vs p) (take i places) (get_or places i 0 ∷ [])
    ∙ ap (λ o. filter (passes vs p) (take i places) ++ cond (unwrap_or (option_map p o) false)
    (get_or places i 0 ∷ []) []) (slice_get-get_or vs (get_or places i 0) v inside)
    ∙ ap (λ u. filter (passes vs p) (take i places) ++ cond (p u) (get_or places i 0 ∷ []) []) (sym e)

-- closing at positions

closed-behind : (n : ℕ) (test : Version → Bool) (done vs us : List Version)
    → fold (closed_at n) (done ++ (vs ++ us)) (places_from test (length done) vs) ≡ done ++
    (map (λ v. cond (test v) (record v { systo = Some n }) v) vs ++ us)
closed-behind n test done [] us = refl
closed-behind n test done (v ∷ vs) us =
    let later = map (λ v. cond (test v) (record v { systo = Some n }) v) vs ++ us in
    let next = λ (u : Version). moved (List Version) (fold (closed_at n)) test done u vs (vs ++ us) (done ++ u ∷ later)
    (closed-behind n test (done ++ u ∷ []) vs us ∙ append_assoc done (u ∷ []) later) in
    elim (test v) as
    (λ b. fold (closed_at n) (done ++ v ∷ (vs ++ us))
    (cond b (length done ∷ places_from test (length done + 1) vs)
    (places_from test (length done + 1) vs)) ≡ done ++ cond b (record v { systo = Some n }) v ∷ later) [
      | true ↦
          ap (λ l. fold (closed_at n) l (places_from test (length done + 1) vs))
          (ap (λ o. unwrap_or
          (option_map (λ u. slice_set (done ++ v ∷ (vs ++ us)) (length done) (record u { systo = Some n })) o)
          (done ++ v ∷ (vs ++ us))) (slice_get-seam done v (vs ++ us))
          ∙ set-append_seam done v (vs ++ us) (record v { systo = Some n }))
          ∙ next (record v { systo = Some n })
      | false ↦ next v
    ]

-- closing the removed versions, followed by others
closed-taken : (n : ℕ) (c : RowsChange) (vs us : List Version)
    → fold (closed_at n) (vs ++ us) (places_from (is_taken c) 0 vs) ≡ map (closed n (removes c)) vs ++ us
closed-taken n c vs us = closed-behind n (is_taken c) [] vs us

-- one position more
pub closed-more : (n : ℕ) (vs ws new : List Version) (places : List ℕ) (i : ℕ) → i < length places
    → ws ≡ fold (closed_at n) vs (take i places) → new ≡ closed_at n ws (get_or places i 0)
    → new ≡ fold (closed_at n) vs (take (i + 1) places)
closed-more n vs ws new places i h e written =
    written
    ∙ ap (λ l. closed_at n l (get_or places i 0)) e
    ∙ sym (fold-append (closed_at n) vs (take i places) (get_or places i 0 ∷ []))
    ∙ ap (fold (closed_at n) vs) (sym (take_more places i 0 h))

-- the positions after a change

pub places_from-append : (test : Version → Bool) (at : ℕ) (vs us : List Version)
    → places_from test at (vs ++ us) ≡ places_from test at vs ++ places_from test (at + length vs) us
places_from-append test at [] us = ap (λ n. places_from test n us) (omega arith)
places_from-append test at (v ∷ vs) us =
    let rest = places_from-append test (at + 1) vs us
    ∙ ap (λ n. places_from test (at + 1) vs ++ places_from test n us) (omega arith) in
    elim (test v) as
    (λ b. cond b (at ∷ places_from test (at + 1) (vs ++ us)) (places_from test (at + 1) (vs ++ us)) ≡ cond b
    (at ∷ places_from test (at + 1) vs) (places_from test (at + 1) vs) ++ places_from test
    (at + suc (length vs)) us) [
      | true ↦ ap (λ l. at ∷ l) rest
      | false ↦ rest
    ]

-- how many versions are closed

count_taken : (c : RowsChange) (at : ℕ) (vs : List Version)
    → length (places_from (is_taken c) at vs) ≡ count_by (removes c) (current vs)
count_taken c at [] = refl
count_taken c at (v ∷ vs) =
    let rest = count_taken c (at + 1) vs in
    elim (is_open v) as
    (λ b. length
    (cond (b && removes c v.row) (at ∷ places_from (is_taken c) (at + 1) vs)
    (places_from (is_taken c) (at + 1) vs)) ≡ count_by (removes c)
    (map (λ (v : Version). v.row) (cond b (v ∷ filter is_open vs) (filter is_open vs)))) [
      | true ↦ elim (removes c v.row) as
          (λ t. length
          (cond t (at ∷ places_from (is_taken c) (at + 1) vs)
          (places_from (is_taken c) (at + 1) vs)) ≡ cond t 1 0 + count_by (removes c) (current vs)) [
            | true ↦ omega (arith, rest)
            | false ↦ omega (arith, rest)
          ] ∙ sym (count-cons (removes c) v.row (current vs))
      | false ↦ rest
    ]

-- a change that removes no row closes none
pub none-taken : (at : ℕ) (vs : List Version) → places_from (λ v. is_open v && false) at vs ≡ []
none-taken at [] = refl
none-taken at (v ∷ vs) =
    elim (is_open v) as
    (λ b. cond (b && false) (at ∷ places_from (λ v. is_open v && false) (at + 1) vs)
    (places_from (λ v. is_open v && false) (at + 1) vs) ≡ []) [
      | true ↦ none-taken (at + 1) vs
      | false ↦ none-taken (at + 1) vs
    ]

-- a load replaces no rows
pub no-parts : (drafts : List Draft) (rows : List Row) → parts_of_all (Load drafts) rows ≡ []
no-parts drafts [] = refl
no-parts drafts (row ∷ rows) = no-parts drafts rows

pub length-taken : (c : RowsChange) (vs : List Version)
    → length (places_from (is_taken c) 0 vs) ≡ count_by (removes c) (current vs)
length-taken c vs = count_taken c 0 vs

-- a change makes at most three parts of a row

few-parts : (c : RowsChange) (row : Row) → length (parts_of c row) ≤ 3
few-parts (Load drafts) row = omega arith
few-parts (Portion change) row = parts_of-few change row

pub parts-few : (c : RowsChange) (rows : List Row)
    → length (parts_of_all c rows) ≤ 3 * length rows
parts-few c [] = omega arith
parts-few c (row ∷ rows) =
    let rest = parts-few c rows in
    elim (removes c row) as
    (λ b. length
    (flat_map (parts_of c)
    (cond b (row ∷ filter (removes c) rows) (filter (removes c) rows))) ≤ 3 * length (row ∷ rows)) [
      | true ↦ rw (flat_map-cons (parts_of c) row (filter (removes c) rows))
          (omega (
            arith,
            rest,
            length-append (parts_of c row)
                (parts_of_all c rows),
            few-parts c row,
          ))
      | false ↦ omega (arith, rest)
    ]

pub length-open : (at : ℕ) (vs : List Version) → length (places_from is_open at vs) ≡ length (current vs)
length-open at [] = refl
length-open at (v ∷ vs) =
    let rest = length-open (at + 1) vs in
    elim (is_open v) as
    (λ b. length (cond b (at ∷ places_from is_open (at + 1) vs) (places_from is_open (at + 1) vs)) ≡ length
    (map (λ (v : Version). v.row) (cond b (v ∷ filter is_open vs) (filter is_open vs)))) [
      | true ↦ omega (arith, rest)
      | false ↦ rest
    ]

-- one position more
pub parts_at-push : (c : RowsChange) (vs : List Version) (places : List ℕ) (place : ℕ) (v : Version)
    → place < length vs → v ≡ get_or vs place v
    → parts_at c vs (places ++ place ∷ []) ≡ parts_at c vs places ++ parts_of c v.row
parts_at-push c vs places place v inside e =
    ap (flat_map (λ (v : Version). parts_of c v.row))
    (filter_map-append (slice_get vs) places (place ∷ [])
    ∙ ap (λ o. picked vs places ++ cons_option o []) (slice_get-get_or vs place v inside ∙ ap Some (sym e)))
    ∙ flat_map-append (λ (v : Version). parts_of c v.row) (picked vs places) (v ∷ [])
    ∙ ap (λ l. parts_at c vs places ++ l) (append-nil (parts_of c v.row))

parts-taken : (c : RowsChange) (vs : List Version)
    → flat_map (λ (v : Version). parts_of c v.row) (filter (is_taken c) vs) ≡ parts_of_all c
    (current vs)
parts-taken c [] = refl
parts-taken c (v ∷ vs) =
    let rest = parts-taken c vs in
    elim (is_open v) as
    (λ b. flat_map (λ (v : Version). parts_of c v.row)
    (cond (b && removes c v.row) (v ∷ filter (is_taken c) vs)
    (filter (is_taken c) vs)) ≡ parts_of_all c
    (map (λ (v : Version). v.row) (cond b (v ∷ filter is_open vs) (filter is_open vs)))) [
      | true ↦ elim (removes c v.row) as
          (λ t. flat_map (λ (v : Version). parts_of c v.row)
          (cond t (v ∷ filter (is_taken c) vs) (filter (is_taken c) vs)) ≡ flat_map (parts_of c)
          (cond t (v.row ∷ filter (removes c) (current vs)) (filter (removes c) (current vs)))) [
            | true ↦ ap (λ l. parts_of c v.row ++ l) rest
            | false ↦ rest
          ]
      | false ↦ rest
    ]

-- what replaces all rows that a change removes
pub parts_at-taken : (c : RowsChange) (vs : List Version) (taken : List ℕ)
    → taken ≡ places_from (is_taken c) 0 vs → parts_at c vs taken ≡ parts_of_all c (current vs)
parts_at-taken c vs taken e =
    ap (parts_at c vs) e
    ∙ ap (flat_map (λ (v : Version). parts_of c v.row)) (picked-places_from (is_taken c) vs)
    ∙ parts-taken c vs

-- one position more, removed or kept

pub place-yes : (vs : List Version) (p : Version → Bool) (places : List ℕ) (i : ℕ) (v : Version) (old new : List ℕ)
    → i < length places → get_or places i 0 < length vs → v ≡ get_or vs (get_or places i 0) v → p v ≡ true
    → old ≡ filter (passes vs p) (take i places) → new ≡ old ++ get_or places i 0 ∷ []
    → new ≡ filter (passes vs p) (take (i + 1) places)
place-yes vs p places i v old new h inside e test was now =
    now ∙ ap (λ l. l ++ get_or places i 0 ∷ []) was
    ∙ sym (filter-more vs p places i v h inside e
    ∙ ap (λ b. filter (passes vs p) (take i places) ++ cond b (get_or places i 0 ∷ []) []) test)

pub place-no : (vs : List Version) (p : Version → Bool) (places : List ℕ) (i : ℕ) (v : Version) (old new : List ℕ)
    → i < length places → get_or places i 0 < length vs → v ≡ get_or vs (get_or places i 0) v → p v ≡ false
    → old ≡ filter (passes vs p) (take i places) → new ≡ old → new ≡ filter (passes vs p) (take (i + 1) places)
place-no vs p places i v old new h inside e test was now =
    now ∙ was
    ∙ sym (filter-more vs p places i v h inside e
    ∙ ap (λ b. filter (passes vs p) (take i places) ++ cond b (get_or places i 0 ∷ []) []) test
    ∙ append-nil (filter (passes vs p) (take i places)))

-- what replaces the rows at the removed positions
pub made-push : (c : RowsChange) (vs : List Version) (taken more : List ℕ) (place : ℕ)
    (v : Version) (old new : List Draft) → place < length vs → v ≡ get_or vs place v
    → old ≡ parts_at c vs taken → new ≡ old ++ parts_of c v.row
    → more ≡ taken ++ place ∷ [] → new ≡ parts_at c vs more
made-push c vs taken more place v old new inside e was now grown =
    now ∙ ap (λ ds. ds ++ parts_of c v.row) was
    ∙ sym (ap (parts_at c vs) grown ∙ parts_at-push c vs taken place v inside e)

-- all new rows of a change are its parts of rows, or a load's rows
pub with_parts-all : (c : RowsChange) (rows : List Row) → with_parts c (parts_of_all c rows) ≡ drafts_of c rows
with_parts-all (Load drafts) rows = refl
with_parts-all (Portion change) rows = refl

pub newly : (c : RowsChange) (vs : List Version) (parts new : List Draft)
    → new ≡ with_parts c parts → parts ≡ parts_of_all c (current vs) → new ≡ drafts_of c (current vs)
newly c vs parts new made e = made ∙ ap (with_parts c) e ∙ with_parts-all c (current vs)

-- the versions that a change keeps

pub versions_after-by : (n : ℕ) (c : RowsChange) (vs fresh grown new : List Version)
    (taken : List ℕ) → taken ≡ places_from (is_taken c) 0 vs
    → fresh ≡ made n (numbered (length vs) (drafts_of c (current vs)))
    → grown ≡ vs ++ fresh → new ≡ fold (closed_at n) grown taken → new ≡ versions_after n c vs
versions_after-by n c vs fresh grown new taken t f g e =
    e ∙ ap (λ l. fold (closed_at n) l taken) g ∙ ap (fold (closed_at n) (vs ++ fresh)) t
    ∙ closed-taken n c vs fresh
    ∙ ap (λ l. map (closed n (removes c)) vs ++ l) f

pub length-fresh : (n before : ℕ) (ds : List Draft) → length (made n (numbered before ds)) ≡ length ds
length-fresh n before ds = length-map (numbered before ds) _ ∙ length-numbered before ds
