-- Lists of positions stay correct as versions are closed and added.
use Rattle.std.proofs.Common.{◌≡◌, ℕ, ◌+◌, ◌<◌, ◌≤◌, List, [], ◌∷◌, ◌++◌, Bool, true, false, ◌&&◌, not, cond, Option, Some, None, length, map, take, ◌*◌, zero, suc, refl, ap, sym, subst, ◌∙◌, arith, append_assoc, length-append}
use Rattle.std.specs.Prelude.{slice_get, filter, unwrap_or, option_map, is_none, is_some, All}
use Rattle.std.specs.List.{AllByRecursion, list_any, range_with_len}
use Rattle.std.proofs.lemmas.List.{append-nil, length-map, take_at}
use Rattle.std.proofs.lemmas.List.Elements.{filter-append, filter_agree, All-append, All-filter, All-from_recursion, All-weaker, recursion_from_All}
use Rattle.std.proofs.lemmas.List.Sums.{count_by-le-length, length-filter}
use Rattle.std.proofs.lemmas.Option.{slice_get-map}
use Rattle.std.proofs.Math.Bool.{and-true, and_self}
use Rattle.std.proofs.lemmas.Bool.{and_parts, or_parts}
use Rattle.list_core.proofs.PlaceLemmas.{slice_get-before, slice_get-seam}
use Rattle.version_core.proofs.ReplacedRows.{append-parts}
use Rattle.row_core.specs.declared.row.Row.{Row}
use Rattle.draft_core.specs.Reached.{is_reached}
use Rattle.version_core.specs.Finding.{AreCandidates, ListsOpen, any_row, passes}
use Rattle.version_core.specs.OpenVersions.{closed, current, is_open, is_taken, places_from, versions_after}
use Rattle.version_core.specs.Made.{made}
use Rattle.table_core.specs.Numbered.{numbered, row_of}
use Rattle.version_core.specs.Wanted.{are_wanted}
use Rattle.version_core.specs.declared.portion_change.PortionChange.{PortionChange}
use Rattle.version_core.specs.Rows.{drafts_of, parts_of_all, removes}
use Rattle.version_core.specs.Stored.{SystemPeriod, version_of, versions_of}
use Rattle.version_core.specs.declared.change.RowsChange.TheVariants.{Portion}
use Rattle.period_core.specs.Period.{meet}
use Rattle.row_core.specs.declared.draft.Draft.{Draft}
use Rattle.version_core.specs.Limits.{version_limit}
use Rattle.version_core.specs.declared.change.RowsChange.{RowsChange}
use Rattle.version_core.specs.declared.version.Version.{Version}
use Rattle.version_core.proofs.OpenLemmas.{bounded, filter-behind, filter-places_from, length-fresh, length-open, parts-few, places_from-append}

-- filters of filters

filter_filter : (p q : ℕ → Bool) (xs : List ℕ) → filter p (filter q xs) ≡ filter (λ x. q x && p x) xs
filter_filter p q [] = refl
filter_filter p q (x ∷ xs) =
    let rest = filter_filter p q xs in
    elim (q x) as
    (λ b. filter p (cond b (x ∷ filter q xs) (filter q xs)) ≡ cond (b && p x) (x ∷ filter (λ x. q x && p x) xs)
    (filter (λ x. q x && p x) xs)) [
      | true ↦ ap (λ l. cond (p x) (x ∷ l) l) rest
      | false ↦ rest
    ]

-- two tests that agree on all elements
filter_agree-within : (p q : ℕ → Bool) (xs : List ℕ) → AllByRecursion (λ x. p x ≡ q x) xs → filter p xs ≡ filter q xs
filter_agree-within p q [] h = refl
filter_agree-within p q (x ∷ xs) h =
    ap (λ b. cond b (x ∷ filter p xs) (filter p xs)) h.0
    ∙ ap (λ l. cond (q x) (x ∷ l) l) (filter_agree-within p q xs h.1)

filter_again : (p : ℕ → Bool) (xs : List ℕ) → filter p (filter p xs) ≡ filter p xs
filter_again p xs = filter_filter p p xs ∙ filter_agree (λ x. p x && p x) p (λ x. and_self (p x)) xs

length-filter-le : (p : ℕ → Bool) (xs : List ℕ) → length (filter p xs) ≤ length xs
length-filter-le p xs = omega (arith, length-filter p xs, count_by-le-length p xs)

-- tests of versions at positions

passes-and : (vs : List Version) (p q : Version → Bool) (place : ℕ)
    → passes vs (λ v. p v && q v) place ≡ (passes vs p place && passes vs q place)
passes-and vs p q place =
    elim (slice_get vs place) as
    (λ o. unwrap_or (option_map (λ v. p v && q v) o) false ≡
    (unwrap_or (option_map p o) false && unwrap_or (option_map q o) false)) [
      | Some v ↦ refl
      | None ↦ refl
    ]

passes-mapped : (f : Version → Version) (vs : List Version) (p q : Version → Bool) → ((v : Version) → p (f v) ≡ q v)
    → (place : ℕ) → passes (map f vs) p place ≡ passes vs q place
passes-mapped f vs p q same place =
    ap (λ o. unwrap_or (option_map p o) false) (slice_get-map f vs place)
    ∙ (elim (slice_get vs place) as
    (λ o. unwrap_or (option_map p (option_map f o)) false ≡ unwrap_or (option_map q o) false) [
      | Some v ↦ same v
      | None ↦ refl
    ])

passes-before : (vs us : List Version) (p : Version → Bool) (places : List ℕ) → All (λ place. place < length vs) places
    → filter (passes (vs ++ us) p) places ≡ filter (passes vs p) places
passes-before vs us p places h =
    filter_agree-within (passes (vs ++ us) p) (passes vs p) places
    (recursion_from_All (λ place. passes (vs ++ us) p place ≡ passes vs p place) places
    (All-weaker (λ place. place < length vs) (λ place. passes (vs ++ us) p place ≡ passes vs p place)
    (λ place below. ap (λ o. unwrap_or (option_map p o) false) (slice_get-before vs us place below)) places h))

pub places_from-agree : (p q : Version → Bool) → ((v : Version) → p v ≡ q v) → (at : ℕ) (vs : List Version)
    → places_from p at vs ≡ places_from q at vs
places_from-agree p q same at [] = refl
places_from-agree p q same at (v ∷ vs) =
    ap (λ b. cond b (at ∷ places_from p (at + 1) vs) (places_from p (at + 1) vs)) (same v)
    ∙ ap (λ l. cond (q v) (at ∷ l) l) (places_from-agree p q same (at + 1) vs)

places_from-mapped : (f : Version → Version) (p q : Version → Bool) → ((v : Version) → p (f v) ≡ q v)
    → (at : ℕ) (vs : List Version) → places_from p at (map f vs) ≡ places_from q at vs
places_from-mapped f p q same at [] = refl
places_from-mapped f p q same at (v ∷ vs) =
    ap (λ b. cond b (at ∷ places_from p (at + 1) (map f vs)) (places_from p (at + 1) (map f vs))) (same v)
    ∙ ap (λ l. cond (q v) (at ∷ l) l) (places_from-mapped f p q same (at + 1) vs)

-- the open versions at the positions that pass a second test
pub filter-listed : (vs : List Version) (test : Row → Bool) (p : Version → Bool) (places : List ℕ)
    → ListsOpen vs test places
    → filter (passes vs (λ v. is_open v && p v)) places ≡ places_from (λ v. (is_open v && test v.row) && p v) 0 vs
filter-listed vs test p places h =
    filter_agree (passes vs (λ v. is_open v && p v)) (λ x. passes vs is_open x && passes vs p x)
    (passes-and vs is_open p) places
    ∙ sym (filter_filter (passes vs p) (passes vs is_open) places)
    ∙ ap (filter (passes vs p)) h.exact
    ∙ filter-places_from (λ v. is_open v && test v.row) p vs

-- what a change removes

narrowed : (o t r : Bool) → (r ≡ true → t ≡ true) → ((o && t) && r) ≡ (o && r)
narrowed o true r h = ap (λ b. b && r) (and-true o)
narrowed o false true h = absurd (let e = h refl in cc)
narrowed true false false h = refl
narrowed false false false h = refl

pub candidates-listed : (c : RowsChange) (vs : List Version) (test : Row → Bool) (places : List ℕ)
    → ListsOpen vs test places → ((row : Row) → removes c row ≡ true → test row ≡ true)
    → AreCandidates c vs places
candidates-listed c vs test places h covers = record {
  inside = h.inside;
  few = h.few;
  taken = filter-listed vs test (λ v. removes c v.row) places h
      ∙ places_from-agree (λ v. (is_open v && test v.row) && removes c v.row) (is_taken c)
      (λ v. narrowed (is_open v) (test v.row) (removes c v.row) (covers v.row)) 0 vs;
}

-- versions are closed

pub open_closed : (n : ℕ) (goes : Row → Bool) (v : Version) → is_open (closed n goes v) ≡ (is_open v && not (goes v.row))
open_closed n goes v = after v.systo (goes v.row)
  where
    after : (to : Option ℕ) (b : Bool)
        → is_none
        (cond {A = Version} (is_none to && b) (record { row = v.row; sysfrom = v.sysfrom; systo = Some n })
        (record { row = v.row; sysfrom = v.sysfrom; systo = to })).systo ≡ (is_none to && not b)
    after None true = refl
    after None false = refl
    after (Some t) b = refl

-- a version that is closed keeps its row
pub row_closed : (n : ℕ) (goes : Row → Bool) (v : Version) → (closed n goes v).row ≡ v.row
row_closed n goes v =
    elim (is_open v && goes v.row) as
    (λ b. (cond {A = Version} b (record { row = v.row; sysfrom = v.sysfrom; systo = Some n })
    (record { row = v.row; sysfrom = v.sysfrom; systo = v.systo })).row ≡ v.row) [ true ↦ refl | false ↦ refl ]

and_swap : (a b c : Bool) → ((a && b) && c) ≡ ((a && c) && b)
and_swap true true true = refl
and_swap true true false = refl
and_swap true false true = refl
and_swap true false false = refl
and_swap false b c = refl

pub ListsOpen-closed : (n : ℕ) (goes : Row → Bool) (vs : List Version) (test : Row → Bool) (places : List ℕ)
    → ListsOpen vs test places → ListsOpen (map (closed n goes) vs) test places
ListsOpen-closed n goes vs test places h =
    let counted = length-map vs (closed n goes) in
    record {
      inside = All-weaker (λ place. place < length vs) (λ place. place < length (map (closed n goes) vs))
          (λ place below. omega (arith, below, counted)) places h.inside;
      few = omega (arith, h.few, counted);
      exact = filter_agree (passes (map (closed n goes) vs) is_open) (passes vs (λ v. is_open v && not (goes v.row)))
          (passes-mapped (closed n goes) vs is_open (λ v. is_open v && not (goes v.row)) (open_closed n goes)) places
          ∙ filter-listed vs test (λ v. not (goes v.row)) places h
          ∙ sym (places_from-mapped (closed n goes) (λ v. is_open v && test v.row)
          (λ v. (is_open v && test v.row) && not (goes v.row))
          (λ v. ap (λ b. b && test (closed n goes v).row) (open_closed n goes v)
          ∙ ap (λ row. (is_open v && not (goes v.row)) && test row) (row_closed n goes v)
          ∙ and_swap (is_open v) (not (goes v.row)) (test v.row)) 0 vs);
    }

-- versions are added

grown-inside : (vs us : List Version) (places : List ℕ) → All (λ place. place < length vs) places
    → All (λ place. place < length (vs ++ us)) places
grown-inside vs us places h =
    All-weaker (λ place. place < length vs) (λ place. place < length (vs ++ us))
    (λ place below. omega (arith, below, length-append vs us)) places h

listed-append : (vs us : List Version) (test : Row → Bool) (places more : List ℕ) → ListsOpen vs test places
    → filter (passes (vs ++ us) is_open) more ≡ places_from (λ v. is_open v && test v.row) (0 + length vs) us
    → filter (passes (vs ++ us) is_open) (places ++ more) ≡ places_from (λ v. is_open v && test v.row) 0 (vs ++ us)
listed-append vs us test places more h e =
    filter-append (passes (vs ++ us) is_open) places more
    ∙ ap (λ l. l ++ filter (passes (vs ++ us) is_open) more) (passes-before vs us is_open places h.inside ∙ h.exact)
    ∙ ap (λ l. places_from (λ v. is_open v && test v.row) 0 vs ++ l) e
    ∙ sym (places_from-append (λ v. is_open v && test v.row) 0 vs us)

-- a version that isn't listed
pub ListsOpen-skipped : (vs : List Version) (v : Version) (test : Row → Bool) (places : List ℕ)
    → (is_open v && test v.row) ≡ false → ListsOpen vs test places → ListsOpen (vs ++ v ∷ []) test places
ListsOpen-skipped vs v test places e h = record {
  inside = grown-inside vs (v ∷ []) places h.inside;
  few = omega (arith, h.few, length-append vs (v ∷ []));
  exact = ap (filter (passes (vs ++ v ∷ []) is_open)) (sym (append-nil places))
      ∙ listed-append vs (v ∷ []) test places [] h (sym (ap (λ b. cond b ((0 + length vs) ∷ []) []) e));
}

-- a version that is
pub ListsOpen-pushed : (vs : List Version) (v : Version) (test : Row → Bool) (places : List ℕ) (place : ℕ)
    → place ≡ length vs → is_open v ≡ true → test v.row ≡ true → ListsOpen vs test places
    → ListsOpen (vs ++ v ∷ []) test (places ++ place ∷ [])
ListsOpen-pushed vs v test places place at opened tested h =
    let grown = length-append vs (v ∷ []) in
    record {
      inside = All-append (λ p. p < length (vs ++ v ∷ [])) places (place ∷ [])
          (grown-inside vs (v ∷ []) places h.inside)
          (All-from_recursion (λ p. p < length (vs ++ v ∷ [])) (place ∷ []) (omega (arith, grown, at), tt));
      few = omega (arith, h.few, grown, length-append places (place ∷ []));
      exact = listed-append vs (v ∷ []) test places (place ∷ []) h
          (ap (λ p. filter (passes (vs ++ v ∷ []) is_open) (p ∷ [])) at
          ∙ ap (λ o. cond (unwrap_or (option_map is_open o) false) (length vs ∷ []) []) (slice_get-seam vs v [])
          ∙ ap (λ b. cond b (length vs ∷ []) []) (opened ∙ sym (ap (λ b. b && test v.row) opened ∙ tested))
          ∙ ap (λ p. cond (is_open v && test v.row) (p ∷ []) []) (omega arith));
    }

-- all versions, if any row is listed

range-places : (at : ℕ) (us : List Version) → range_with_len at (length us) ≡ places_from (λ v. true) at us
range-places at [] = refl
range-places at (u ∷ us) = ap (λ l. at ∷ l) (range-places (at + 1) us)

true_and : (b : Bool) → (true && b) ≡ (b && true)
true_and true = refl
true_and false = refl

ListsOpen-grown : (vs us : List Version) (places : List ℕ) (before count : ℕ) → before ≡ length vs
    → count ≡ length us → ListsOpen vs any_row places
    → ListsOpen (vs ++ us) any_row (places ++ range_with_len before count)
ListsOpen-grown vs us places before count at many h =
    let range : range_with_len before count ≡ places_from (λ v. true) (length vs) us =
    ap (λ n. range_with_len n count) at ∙ ap (range_with_len (length vs)) many ∙ range-places (length vs) us in
    let grown = length-append vs us in
    record {
      inside = All-append (λ p. p < length (vs ++ us)) places (range_with_len before count)
          (grown-inside vs us places h.inside)
          (rw range
          (All-from_recursion (λ p. p < length (vs ++ us)) (places_from (λ v. true) (length vs) us)
          (bounded (λ v. true) (length vs) (length (vs ++ us)) us (omega (arith, grown)))));
      few = omega
          (arith, h.few, grown, many, length-append places (range_with_len before count), length-range before count);
      exact = listed-append vs us any_row places (range_with_len before count) h
          (ap (filter (passes (vs ++ us) is_open)) range
          ∙ filter-behind (λ v. true) is_open vs us
          ∙ places_from-agree (λ v. true && is_open v) (λ v. is_open v && true) (λ v. true_and (is_open v))
          (length vs) us
          ∙ ap (λ n. places_from (λ v. is_open v && true) n us) (omega arith));
    }
  where
    length-range : (at n : ℕ) → length (range_with_len at n) ≡ n
    length-range at zero = refl
    length-range at (suc n) = ap suc (length-range (at + 1) n)

-- positions of closed versions are removed
pub ListsOpen-swept : (vs : List Version) (test : Row → Bool) (places : List ℕ) → ListsOpen vs test places
    → ListsOpen vs test (filter (passes vs is_open) places)
ListsOpen-swept vs test places h = record {
  inside = All-filter (passes vs is_open) (λ place. place < length vs) places h.inside;
  few = omega (arith, h.few, length-filter-le (passes vs is_open) places);
  exact = filter_again (passes vs is_open) places ∙ h.exact;
}

-- no versions
pub ListsOpen-none : (test : Row → Bool) → ListsOpen [] test []
ListsOpen-none test = record { inside = All-from_recursion (λ place. place < 0) [] tt; few = omega arith; exact = refl }

-- the versions after a change

-- at most three parts for each position
pub parts-listed : (c : RowsChange) (vs : List Version) (places : List ℕ)
    → ListsOpen vs any_row places → length (parts_of_all c (current vs)) ≤ 3 * length places
parts-listed c vs places h =
    let same = ap length
    (h.exact ∙ places_from-agree (λ v. is_open v && true) is_open (λ v. and-true (is_open v)) 0 vs) in
    omega (arith, same, length-open 0 vs, parts-few c (current vs), length-filter-le (passes vs is_open) places)

-- they don't exceed the limit
pub versions_after-few : (n : ℕ) (c : RowsChange) (vs now : List Version)
    → now ≡ versions_after n c vs
    → length vs + length (drafts_of c (current vs)) ≤ version_limit → length now ≤ version_limit
versions_after-few n c vs now e room =
    let fresh = made n (numbered (length vs) (drafts_of c (current vs))) in
    let closing = map (closed n (removes c)) vs in
    omega (
      arith,
      ap length e,
      length-append closing fresh,
      length-map vs
          (closed n (removes c)),
      length-fresh n (length vs) (drafts_of c (current vs)),
      room,
    )

-- they are found at the positions of the old versions and the new ones
pub all-versions_after : (n before count : ℕ) (c : RowsChange) (vs fresh now : List Version)
    (places grown : List ℕ) → now ≡ versions_after n c vs
    → fresh ≡ made n (numbered (length vs) (drafts_of c (current vs))) → before ≡ length vs
    → count ≡ length fresh
    → grown ≡ places ++ range_with_len before count → ListsOpen vs any_row places → ListsOpen now any_row grown
all-versions_after n before count c vs fresh now places grown e f b k g h =
    rw (e, ← f, g)
    (ListsOpen-grown (map (closed n (removes c)) vs) fresh places before count
    (b ∙ sym (length-map vs (closed n (removes c)))) k
    (ListsOpen-closed n (removes c) vs any_row places h))

-- without the new versions
pub versions_after-front : (n before : ℕ) (c : RowsChange) (vs now : List Version)
    → now ≡ versions_after n c vs → before ≡ length vs → take before now ≡ map (closed n (removes c)) vs
versions_after-front n before c vs now e b =
    ap (take before) e
    ∙ take_at (map (closed n (removes c)) vs)
    (made n (numbered (length vs) (drafts_of c (current vs)))) before
    (length-map vs (closed n (removes c)) ∙ sym b)

-- ---- positions where the portion reaches a row

-- the portion reaches each row that the change removes
taken-reached : (change : PortionChange) (v : Version) → is_taken (Portion change) v ≡ true
    → is_some (meet v.row.period change.portion) ≡ true
taken-reached change v taken =
    let touched = (and_parts (is_open v) (removes (Portion change) v.row) taken).1 in
    (and_parts (are_wanted change.conds v.row.values) (is_some (meet v.row.period change.portion)) touched).1

reached-at : (change : PortionChange) (used : ℕ) (rows : List Draft) (system_periods : List SystemPeriod)
    (place : ℕ) → passes (versions_of (numbered used rows) system_periods) (is_taken (Portion change)) place ≡ true
    → is_reached change.portion rows place ≡ true
reached-at change used [] system_periods place taken = absurd (cc)
reached-at change used (d ∷ ds) [] place taken = absurd (cc)
reached-at change used (d ∷ ds) (s ∷ ss) zero taken =
    taken-reached change (version_of (row_of (used + 1) d) s) taken
reached-at change used (d ∷ ds) (s ∷ ss) (suc place) taken = reached-at change (used + 1) ds ss place taken

-- so if the portion reaches none of some rows, the change removes none of them
pub none-reached : (change : PortionChange) (rows : List Draft) (system_periods : List SystemPeriod)
    (vs : List Version) (places : List ℕ) → versions_of (numbered 0 rows) system_periods ≡ vs
    → list_any (is_reached change.portion rows) places ≡ false
    → filter (passes vs (is_taken (Portion change))) places ≡ []
none-reached change rows system_periods vs [] is none = refl
none-reached change rows system_periods vs (place ∷ places) is none =
    let taken = passes vs (is_taken (Portion change)) in
    let both = or_parts (is_reached change.portion rows place) (list_any (is_reached change.portion rows) places)
    none in
    ap (λ b. cond b (place ∷ filter taken places) (filter taken places)) (by_test (taken place) refl both.0)
    ∙ none-reached change rows system_periods vs places is both.1
  where
    by_test : (b : Bool) → passes vs (is_taken (Portion change)) place ≡ b
        → is_reached change.portion rows place ≡ false → passes vs (is_taken (Portion change)) place ≡ false
    by_test false e out = e
    by_test true e out =
        let there = reached-at change 0 rows system_periods place
        (ap (λ l. passes l (is_taken (Portion change)) place) is ∙ e) in
        absurd (cc)

-- ---- block by block

pub block-inside : (vs : List Version) (all block rest : List ℕ) → all ≡ block ++ rest
    → All (λ place. place < length vs) all
    → All (λ place. place < length vs) block × All (λ place. place < length vs) rest
block-inside vs all block rest e inside =
    let inner = λ (place : ℕ). place < length vs in
    let both = append-parts inner block rest
    (recursion_from_All inner (block ++ rest) (subst (All inner) e inside)) in
    (All-from_recursion inner block both.0, All-from_recursion inner rest both.1)

-- the positions removed in one block follow those of the blocks before it
pub block-taken : (test : ℕ → Bool) (places all block rest old new : List ℕ) → all ≡ block ++ rest
    → new ≡ old ++ filter test block → old ++ filter test all ≡ filter test places
    → new ++ filter test rest ≡ filter test places
block-taken test places all block rest old new e grown so_far =
    ap (λ l. l ++ filter test rest) grown ∙ append_assoc old (filter test block) (filter test rest)
    ∙ ap (λ l. old ++ l) (sym (filter-append test block rest)) ∙ ap (λ l. old ++ filter test l) (sym e) ∙ so_far
