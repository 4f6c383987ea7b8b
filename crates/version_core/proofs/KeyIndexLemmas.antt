-- The index of open versions by key and start.
use Rattle.std.proofs.Common.{◌≡◌, ℕ, ℤ, ◌+◌, ◌<◌, ◌≤◌, ◌≤ℤ◌, ◌<ℤ◌, List, [], ◌∷◌, ◌++◌, Bool, true, false, ◌&&◌, ◌||◌, not, cond, Option, Some, None, Result, Ok, Err, ◌⊎◌, zero, suc, length, map, take, get_or, refl, ap, subst, sym, ◌∙◌, arith, inl, inr, append-nil, append_assoc}
use Rattle.std.specs.Prelude.{Contains, IfOk, IfSome, OnOk, is_ok, slice_get, filter, fold, nat_lt, is_some, unwrap_or, option_map}
use Rattle.std.specs.Int.{cast_unsigned, w64}
use Rattle.std.specs.List.{list_any}
use Rattle.std.specs.Result.{result_ok}
use Rattle.std.specs.List.Sorted.{IsStrictlySortedBy}
use Rattle.std.specs.declared.ops.Bound.TheVariants.{Excluded, Unbounded}
use Rattle.std.specs.Ordering.{is_eq, is_le}
use Rattle.std.specs.declared.cmp.Ordering.TheVariants.{Less, Equal, Greater}
use Rattle.std.specs.BTreeMap.{is_at}
use Rattle.std.specs.BTreeMap.Range.{range_contains}
use Rattle.std.specs.BTreeSet.{contains, Updates}
use Rattle.std.proofs.lemmas.Bool.{and_parts, cases_Bool, cases_eq, ltb-true, or_from, or_parts}
use Rattle.std.proofs.Math.Bool.{or-true}
use Rattle.std.proofs.lemmas.Int.{ints}
use Rattle.std.proofs.lemmas.List.{length-take-le, take_more}
use Rattle.std.proofs.lemmas.List.Sums.{fold-append}
use Rattle.std.proofs.lemmas.Option.{slice_get-map}
use Rattle.std.proofs.lemmas.List.Folds.{list_any-append}
use Rattle.list_core.proofs.RisingLemmas.{Contains-none}
use Rattle.period_core.specs.Period.{meet}
use Rattle.period_core.specs.declared.period.Period.{Period}
use Rattle.row_core.specs.declared.draft.Draft.{Draft}
use Rattle.row_core.specs.declared.row.Row.{Row}
use Rattle.row_core.specs.declared.value.Value.{Value}
use Rattle.row_core.specs.declared.value.Value.TheVariants.{Int, Text}
use Rattle.row_core.proofs.ValueLemmas.{maybe_decides}
use Rattle.version_core.specs.Collisions.{collide, have_collision, have_pair, same_key}
use Rattle.version_core.proofs.ReplacedRows.{append-parts}
use Rattle.version_core.proofs.CollisionLemmas.{collide-flips, meet-between, shared}
use Rattle.version_core.specs.Finding.{passes}
use Rattle.version_core.specs.KeyIndex.{HasOnlyOpen, IsEntryOf, IsKeyIndex, IsLastNear, entry_cmp, entry_of, key_number, mixed, number_in, number_of, number_of_bytes}
use Rattle.version_core.specs.Keys.{collides_left, is_left}
use Rattle.version_core.specs.Made.{draft_of}
use Rattle.version_core.specs.OpenVersions.{closed, current, is_open, is_taken, places_from}
use Rattle.version_core.specs.Rows.{removes}
use Rattle.table_core.specs.Numbered.{unnumbered}
use Rattle.version_core.specs.declared.change.RowsChange.{RowsChange}
use Rattle.version_core.specs.declared.key_index.Entry.{Entry}
use Rattle.version_core.specs.declared.key_index.KeyIndex.{KeyIndex}
use Rattle.version_core.specs.declared.version.Version.{Version}
use Rattle.version_core.proofs.ListLemmas.{any-true}
use Rattle.version_core.proofs.FindingLemmas.{open_closed, row_closed}

-- hashes of keys

-- one step more of a fold
fold-more : {X : Type 0} (step : ℕ → X → ℕ) (xs : List X) (i : ℕ) (x : X) (number : ℕ) → i < length xs
    → number ≡ fold step 0 (take i xs) → step number (get_or xs i x) ≡ fold step 0 (take (i + 1) xs)
fold-more step xs i x number inside e =
    ap (λ n. step n (get_or xs i x)) e
    ∙ sym (fold-append step 0 (take i xs) (get_or xs i x ∷ []))
    ∙ ap (fold step 0) (sym (take_more xs i x inside))

pub bytes-none : 0 ≡ number_of_bytes []
unfolding number_of_bytes
bytes-none = refl

pub bytes-more : (bytes : List ℕ) (i number : ℕ) → i < length bytes → number ≡ number_of_bytes (take i bytes)
    → mixed number (get_or bytes i 0) ≡ number_of_bytes (take (i + 1) bytes)
unfolding number_of_bytes
bytes-more bytes i number inside e = fold-more mixed bytes i 0 number inside e

pub key-none : (values : List Value) → 0 ≡ key_number [] values
unfolding key_number
key-none values = refl

pub key-more : (key : List ℕ) (values : List Value) (i number : ℕ) → i < length key
    → number ≡ key_number (take i key) values
    → mixed number (number_in values (get_or key i 0)) ≡ key_number (take (i + 1) key) values
unfolding key_number
key-more key values i number inside e =
    fold-more (λ number column. mixed number (number_in values column)) key i 0 number inside e

pub number-int : (value : Value) (n : ℤ) (k : ℕ) → value ≡ Int n → k ≡ cast_unsigned w64 n → k ≡ number_of value
unfolding number_of
number-int value n k e h = h ∙ ap number_of (sym e)

pub number-text : (value : Value) (text bytes : List ℕ) (k : ℕ) → value ≡ Text text → bytes ≡ text
    → k ≡ number_of_bytes bytes → k ≡ number_of value
unfolding number_of
number-text value text bytes k e b h = h ∙ ap number_of_bytes b ∙ ap number_of (sym e)

-- equal keys have the same hash
key-agrees : (key : List ℕ) (a b : List Value) → same_key key a b ≡ true → key_number key a ≡ key_number key b
unfolding key_number
key-agrees key a b same = from 0 key same
  where
    from : (n : ℕ) (key : List ℕ) → same_key key a b ≡ true
        → fold (λ number column. mixed number (number_in a column)) n key
        ≡ fold (λ number column. mixed number (number_in b column)) n key
    from n [] same = refl
    from n (column ∷ columns) same =
        let both = and_parts _ (same_key columns a b) same in
        let equal : slice_get a column ≡ slice_get b column =
        (maybe_decides (slice_get a column) (slice_get b column)).0 both.0 in
        ap (λ o. fold (λ number column. mixed number (number_in a column))
        (mixed n (unwrap_or (option_map number_of o) 0)) columns) equal ∙ from (mixed n (number_in b column)) columns both.1

-- two keys that equal a third are equal
key-joins : (key : List ℕ) (a b c : List Value) → same_key key a c ≡ true → same_key key b c ≡ true
    → same_key key a b ≡ true
key-joins [] a b c one other = refl
key-joins (column ∷ columns) a b c one other =
    let first = and_parts _ (same_key columns a c) one in
    let next = and_parts _ (same_key columns b c) other in
    let equal : slice_get a column ≡ slice_get b column =
    (maybe_decides (slice_get a column) (slice_get c column)).0 first.0
    ∙ sym ((maybe_decides (slice_get b column) (slice_get c column)).0 next.0) in
    ap (λ t. t && same_key columns a b) ((maybe_decides (slice_get a column) (slice_get b column)).1 equal)
    ∙ key-joins columns a b c first.1 next.1

-- the order of entries

entry_equal : (a : Entry) → entry_cmp a a ≡ Equal
entry_equal a = grind (arith, ints)

entry-same : (a b : Entry) → a.number ≡ b.number → a.from ≡ b.from → a.place ≡ b.place → a ≡ b
entry-same a b number from place =
    ap (λ n. made n a.from a.place) number ∙ ap (λ t. made b.number t a.place) from ∙ ap (made b.number b.from) place
  where
    made : ℕ → ℤ → ℕ → Entry
    made n t place = record { number = n; from = t; place = place }

entry_exact : (a b : Entry) → is_eq (entry_cmp a b) ≡ true → a ≡ b
entry_exact a b e = grind (arith, ints)

less-number : (a b : Entry) → entry_cmp a b ≡ Less → a.number ≤ b.number
less-number a b e = grind (arith, ints)

less-from : (a b : Entry) → entry_cmp a b ≡ Less → a.number ≡ b.number → a.from ≤ℤ b.from
less-from a b e same = grind (arith, ints)

-- an entry with the same hash that starts before the other
less-end : (a b : Entry) → a.number ≡ b.number → a.from <ℤ b.from → entry_cmp b a ≡ Greater
less-end a b same before = grind (arith, ints)

-- rows with equal keys don't overlap

-- each of two overlapping periods starts before the other's end
meet-ends : (x y : Period) → is_some (meet x y) ≡ true → x.from <ℤ y.to
meet-ends x y e =
    let at = shared x y e in
    let t = at.0 in
    let in_x : x.from ≤ℤ t = at.1.0 in
    let in_y : t <ℤ y.to = at.2.1 in
    omega (arith, ints)

-- a test that fails for all rows of open versions fails for each
current-none : (test : Draft → Bool) (vs : List Version) (q : ℕ) (v : Version)
    → list_any test (map unnumbered (current vs)) ≡ false → slice_get vs q ≡ Some v → is_open v ≡ true
    → test (draft_of v) ≡ false
current-none test [] q v none at opened = absurd (cc)
current-none test (u ∷ us) zero v none at opened =
    let same : u ≡ v = cc in
    let here : list_any test (map unnumbered (v.row ∷ current us)) ≡ false =
    ap (λ b. list_any test (map unnumbered (map (λ (w : Version). w.row) (cond b (v ∷ filter is_open us) (filter is_open us)))))
    (sym opened) ∙ ap (λ w. list_any test (map unnumbered (current (w ∷ us)))) (sym same) ∙ none in
    (or_parts (test (draft_of v)) (list_any test (map unnumbered (current us))) here).0
current-none test (u ∷ us) (suc q) v none at opened = current-none test us q v (behind (is_open u) none) at opened
  where
    behind : (b : Bool)
        → list_any test (map unnumbered (map (λ (w : Version). w.row) (cond b (u ∷ filter is_open us) (filter is_open us))))
        ≡ false → list_any test (map unnumbered (current us)) ≡ false
    behind true h = (or_parts (test (draft_of u)) (list_any test (map unnumbered (current us))) h).1
    behind false h = h

-- the first open version collides with none after it
first-none : (key : List ℕ) (u : Version) (us : List Version) (v : Version) → u ≡ v → is_open v ≡ true
    → have_collision key (map unnumbered (current (u ∷ us))) ≡ false
    → list_any (collide key (draft_of v)) (map unnumbered (current us)) ≡ false
first-none key u us v same opened none =
    let rows = map unnumbered (current us) in
    let here : have_pair (collide key) (draft_of v ∷ rows) ≡ false =
    ap (λ b. have_collision key
    (map unnumbered (map (λ (w : Version). w.row) (cond b (v ∷ filter is_open us) (filter is_open us))))) (sym opened)
    ∙ ap (λ w. have_collision key (map unnumbered (current (w ∷ us)))) (sym same) ∙ none in
    (or_parts (list_any (collide key (draft_of v)) rows) (have_pair (collide key) rows) here).0

rest-none : (key : List ℕ) (u : Version) (us : List Version) (b : Bool)
    → have_collision key
    (map unnumbered (map (λ (w : Version). w.row) (cond b (u ∷ filter is_open us) (filter is_open us)))) ≡ false
    → have_collision key (map unnumbered (current us)) ≡ false
rest-none key u us true h =
    let rows = map unnumbered (current us) in
    (or_parts (list_any (collide key (draft_of u)) rows) (have_pair (collide key) rows) h).1
rest-none key u us false h = h

-- open versions at different positions don't collide if no rows of open versions do
current-apart : (key : List ℕ) (vs : List Version) (p q : ℕ) (v w : Version)
    → have_collision key (map unnumbered (current vs)) ≡ false → slice_get vs p ≡ Some v → slice_get vs q ≡ Some w
    → is_open v ≡ true → is_open w ≡ true → (p ≡ q → ⊥) → collide key (draft_of v) (draft_of w) ≡ false
current-apart key [] p q v w none at there opened also ne = absurd (cc)
current-apart key (u ∷ us) zero zero v w none at there opened also ne = absurd (ne refl)
current-apart key (u ∷ us) zero (suc q) v w none at there opened also ne =
    current-none (collide key (draft_of v)) us q w (first-none key u us v (cc) opened none) there also
current-apart key (u ∷ us) (suc p) zero v w none at there opened also ne =
    collide-flips key (draft_of v) (draft_of w)
    ∙ current-none (collide key (draft_of w)) us p v (first-none key u us w (cc) also none) at opened
current-apart key (u ∷ us) (suc p) (suc q) v w none at there opened also ne =
    current-apart key us p q v w (rest-none key u us (is_open u) none) at there opened also (λ e. ne (ap suc e))

-- where the backwards search may end

-- all versions before the entry have other keys
pub last-of_others : (key : List ℕ) (other : Draft) (vs : List Version) (entry : Entry)
    → entry.number < key_number key other.values → IsLastNear key other vs entry
last-of_others key other vs entry below place v at opened meets less =
    let both = and_parts (same_key key v.row.values other.values) (is_some (meet v.row.period other.period)) meets in
    let same = key-agrees key v.row.values other.values both.0 in
    let upto = less-number (entry_of key place v) entry less in
    omega (arith, same, upto, below)

same_some : {X : Type 0} (o : Option X) (x y : X) → o ≡ Some x → o ≡ Some y → x ≡ y
same_some None x y e f = absurd (cc)
same_some (Some z) x y e f = cc

-- the entry's version has the row's key and starts no later
pub last-of_key : (key : List ℕ) (other : Draft) (vs : List Version) (entry : Entry) (w : Version)
    → have_collision key (map unnumbered (current vs)) ≡ false → entry.number ≡ key_number key other.values
    → slice_get vs entry.place ≡ Some w → is_open w ≡ true → w.row.period.from ≡ entry.from
    → entry.from ≤ℤ other.period.from → same_key key w.row.values other.values ≡ true → IsLastNear key other vs entry
last-of_key key other vs entry w none number there opened begins before of_key place v at also meets less =
    let both = and_parts (same_key key v.row.values other.values) (is_some (meet v.row.period other.period)) meets in
    let mine = entry_of key place v in
    let same : mine.number ≡ entry.number = key-agrees key v.row.values other.values both.0 ∙ sym number in
    let early : v.row.period.from ≤ℤ w.row.period.from = rw begins (less-from mine entry less same) in
    let late : w.row.period.from ≤ℤ other.period.from = rw begins before in
    let hit : collide key (draft_of v) (draft_of w) ≡ true =
    ap (λ t. t && is_some (meet v.row.period w.row.period))
    (key-joins key v.row.values w.row.values other.values both.0 of_key)
    ∙ meet-between v.row.period w.row.period other.period early late both.1 in
    elim (cases_eq place entry.place) [
      | inl here ↦
          let own : v ≡ w = same_some (slice_get vs place) v w at (ap (slice_get vs) here ∙ there) in
          let from : mine.from ≡ entry.from = ap (λ (u : Version). u.row.period.from) own ∙ begins in
          let equal : mine ≡ entry = entry-same mine entry same from here in
          let never : Equal ≡ Less = sym (entry_equal entry) ∙ ap (λ e. entry_cmp e entry) (sym equal) ∙ less in
          absurd (cc)
      | inr apart ↦
          let never : true ≡ false = sym hit ∙ current-apart key vs place entry.place v w none at there also opened apart in
          absurd (cc)
    ]

pub below-number : (a b k : ℕ) → nat_lt a b ≡ true → b ≡ k → a < k
below-number a b k less same = let below : a < b = ltb-true a b less in omega (arith, same, below)

-- the entries of the index

-- an index of a list with one element added
pushed-at : (vs : List Version) (v : Version) (q : ℕ) (u : Version) → slice_get (vs ++ v ∷ []) q ≡ Some u
    → (slice_get vs q ≡ Some u) ⊎ ((q ≡ length vs) × (u ≡ v))
pushed-at [] v zero u at = inr (refl, cc)
pushed-at [] v (suc q) u at = absurd (cc)
pushed-at (w ∷ ws) v zero u at = inl at
pushed-at (w ∷ ws) v (suc q) u at =
    elim (pushed-at ws v q u at) [ inl before ↦ inl before | inr here ↦ inr (ap suc here.0, here.1) ]

-- one version more
module _ (vs : List Version) (i : ℕ) (v : Version) (old new : KeyIndex) (inside : i < length vs)
    (is : v ≡ get_or vs i v) (columns : new.columns.items ≡ old.columns.items) where
  grown : take (i + 1) vs ≡ take i vs ++ v ∷ []
  grown = take_more vs i v inside ∙ ap (λ u. take i vs ++ u ∷ []) (sym is)

  length-front : length (take i vs) ≡ i
  length-front = length-take-le i vs (omega arith)

  -- which is open
  pub key_index-added : Updates entry_cmp old.entries new.entries (entry_of old.columns.items i v) true
      → IsKeyIndex (take i vs) old → IsKeyIndex (take (i + 1) vs) new
  key_index-added added before q u at opened =
      let entry = entry_of old.columns.items q u in
      let mine = entry_of old.columns.items i v in
      rw columns
      (elim (pushed-at (take i vs) v q u (ap (λ l. slice_get l q) (sym grown) ∙ at)) [
        | inl there ↦
            added.0 entry
            ∙ ap (cond (is_at (entry_cmp mine) entry) true) (before q u there opened)
            ∙ same-cond (is_at (entry_cmp mine) entry)
        | inr here ↦
            ap (contains entry_cmp new.entries)
            (ap (λ w. entry_of old.columns.items q w) here.1
            ∙ ap (λ k. entry_of old.columns.items k v) (here.0 ∙ length-front))
            ∙ added.1
      ])
    where
      same-cond : (b : Bool) → cond b true true ≡ true
      same-cond true = refl
      same-cond false = refl

  -- which is closed
  pub key_index-skipped : is_open v ≡ false → new.entries ≡ old.entries → IsKeyIndex (take i vs) old
      → IsKeyIndex (take (i + 1) vs) new
  key_index-skipped shut entries before q u at opened =
      elim (pushed-at (take i vs) v q u (ap (λ l. slice_get l q) (sym grown) ∙ at)) [
        | inl there ↦ rw (columns, entries) (before q u there opened)
        | inr here ↦
            let never : true ≡ false = sym opened ∙ ap is_open here.1 ∙ shut in
            absurd (cc)
      ]

-- a closed version is removed
pub key_index-dropped : (vs : List Version) (place : ℕ) (w : Version) (old new : KeyIndex)
    → slice_get vs place ≡ Some w → is_open w ≡ false → new.columns.items ≡ old.columns.items
    → Updates entry_cmp old.entries new.entries (entry_of old.columns.items place w) false
    → IsKeyIndex vs old → IsKeyIndex vs new
key_index-dropped vs place w old new at shut columns dropped before q u there opened =
    let entry = entry_of old.columns.items q u in
    let mine = entry_of old.columns.items place w in
    rw columns (dropped.2 entry (other (is_at (entry_cmp mine) entry) refl) ∙ before q u there opened)
  where
    other : (b : Bool) → is_at (entry_cmp (entry_of old.columns.items place w)) (entry_of old.columns.items q u) ≡ b
        → is_at (entry_cmp (entry_of old.columns.items place w)) (entry_of old.columns.items q u) ≡ false
    other false e = e
    other true e =
        let one = entry_exact (entry_of old.columns.items place w) (entry_of old.columns.items q u) e in
        let here : place ≡ q = ap (λ (x : Entry). x.place) one in
        let own : u ≡ w = same_some (slice_get vs q) u w there (ap (slice_get vs) (sym here) ∙ at) in
        let never : true ≡ false = sym opened ∙ ap is_open own ∙ shut in
        absurd (cc)

-- versions are closed
pub key_index-closed : (n : ℕ) (goes : Row → Bool) (vs : List Version) (index : KeyIndex) → IsKeyIndex vs index
    → IsKeyIndex (map (closed n goes) vs) index
key_index-closed n goes vs index h place v at opened =
    closed-at (slice_get vs place) refl (sym (slice_get-map (closed n goes) vs place) ∙ at)
  where
    closed-at : (o : Option Version) → slice_get vs place ≡ o → option_map (closed n goes) o ≡ Some v
        → contains entry_cmp index.entries (entry_of index.columns.items place v) ≡ true
    closed-at None there e = absurd (cc)
    closed-at (Some u) there e =
        let was : closed n goes u ≡ v = cc in
        let row : u.row ≡ v.row = sym (row_closed n goes u) ∙ ap (λ (w : Version). w.row) was in
        let before : is_open u ≡ true =
        (and_parts (is_open u) (not (goes u.row)) (sym (open_closed n goes u) ∙ ap is_open was ∙ opened)).0 in
        ap (λ (r : Row). contains entry_cmp index.entries
        (record { number = key_number index.columns.items r.values; from = r.period.from; place = place })) (sym row)
        ∙ h place u there before

-- entries of open versions only

-- a version keeps its index when another is added at the end
pushed-stays : (vs : List Version) (v : Version) (q : ℕ) (u : Version) → slice_get vs q ≡ Some u
    → slice_get (vs ++ v ∷ []) q ≡ Some u
pushed-stays [] v q u at = absurd (cc)
pushed-stays (w ∷ ws) v zero u at = at
pushed-stays (w ∷ ws) v (suc q) u at = pushed-stays ws v q u at

-- the added version is the last
pushed-last : (vs : List Version) (v : Version) → slice_get (vs ++ v ∷ []) (length vs) ≡ Some v
pushed-last [] v = refl
pushed-last (w ∷ ws) v = pushed-last ws v

-- one version more
module _ (vs : List Version) (i : ℕ) (v : Version) (old new : KeyIndex) (inside : i < length vs)
    (is : v ≡ get_or vs i v) (columns : new.columns.items ≡ old.columns.items) (gone : List ℕ)
    (before : HasOnlyOpen (take i vs) gone old) where
  longer : take (i + 1) vs ≡ take i vs ++ v ∷ []
  longer = take_more vs i v inside ∙ ap (λ u. take i vs ++ u ∷ []) (sym is)

  entry-kept : (e : Entry) → contains entry_cmp old.entries e ≡ true
      → IsEntryOf (take (i + 1) vs) gone new.columns.items e
  entry-kept e there =
      let h = before e there in
      record {
        version = h.version;
        at = ap (λ l. slice_get l e.place) longer ∙ pushed-stays (take i vs) v e.place h.version h.at;
        is = h.is ∙ ap (λ key. entry_of key e.place h.version) (sym columns);
        left = h.left;
      }

  -- that is open
  pub only-added : is_open v ≡ true
      → Updates entry_cmp old.entries new.entries (entry_of old.columns.items i v) true
      → HasOnlyOpen (take (i + 1) vs) gone new
  only-added opened added e there = by (is_at (entry_cmp mine) e) refl
    where
      mine : Entry
      mine = entry_of old.columns.items i v

      own : IsEntryOf (take (i + 1) vs) gone new.columns.items mine
      own = record {
        version = v;
        at = ap (λ l. slice_get l i) longer
            ∙ ap (slice_get (take i vs ++ v ∷ [])) (sym (length-take-le i vs (omega arith)))
            ∙ pushed-last (take i vs) v;
        is = ap (λ key. entry_of key i v) (sym columns);
        left = inl opened;
      }

      by : (b : Bool) → is_at (entry_cmp mine) e ≡ b → IsEntryOf (take (i + 1) vs) gone new.columns.items e
      by true same = subst (IsEntryOf (take (i + 1) vs) gone new.columns.items) (entry_exact mine e same) own
      by false other = entry-kept e (sym (added.2 e other) ∙ there)

  -- that is closed
  pub only-skipped : new.entries ≡ old.entries → HasOnlyOpen (take (i + 1) vs) gone new
  only-skipped entries e there = entry-kept e (ap (λ s. contains entry_cmp s e) (sym entries) ∙ there)

-- an element of a list is its first or one of the rest
first_or_later : (p : ℕ) (places : List ℕ) (x : ℕ) → Contains (p ∷ places) x → (p ≡ x) ⊎ Contains places x
first_or_later p places x (zero, within, is) = inl is
first_or_later p places x (suc k, within, is) = inr (k, omega (arith, within), is)

-- an open version need not be removed
pub only-stays : (vs : List Version) (place : ℕ) (gone : List ℕ) (index : KeyIndex)
    → ((v : Version) → slice_get vs place ≡ Some v → is_open v ≡ true) → HasOnlyOpen vs (place ∷ gone) index
    → HasOnlyOpen vs gone index
only-stays vs place gone index opened before e there =
    let h = before e there in
    record {
      version = h.version;
      at = h.at;
      is = h.is;
      left = elim h.left [
        | inl now ↦ inl now
        | inr at ↦
            elim (first_or_later place gone e.place at) [
              | inl here ↦ inl (opened h.version (ap (slice_get vs) here ∙ h.at))
              | inr later ↦ inr later
            ]
      ];
    }

-- a closed version is removed
pub only-dropped : (vs : List Version) (place : ℕ) (w : Version) (gone : List ℕ) (old new : KeyIndex)
    → slice_get vs place ≡ Some w → new.columns.items ≡ old.columns.items
    → Updates entry_cmp old.entries new.entries (entry_of old.columns.items place w) false
    → HasOnlyOpen vs (place ∷ gone) old → HasOnlyOpen vs gone new
only-dropped vs place w gone old new at columns dropped before e there = by (is_at (entry_cmp mine) e) refl
  where
    mine : Entry
    mine = entry_of old.columns.items place w

    by : (b : Bool) → is_at (entry_cmp mine) e ≡ b → IsEntryOf vs gone new.columns.items e
    by true same =
        let never : true ≡ false =
        sym there ∙ ap (contains entry_cmp new.entries) (sym (entry_exact mine e same)) ∙ dropped.1 in
        absurd (cc)
    by false other =
        let h = before e (sym (dropped.2 e other) ∙ there) in
        record {
          version = h.version;
          at = h.at;
          is = h.is ∙ ap (λ key. entry_of key e.place h.version) (sym columns);
          left = elim h.left [
            | inl now ↦ inl now
            | inr among ↦
                elim (first_or_later place gone e.place among) [
                  | inl here ↦
                      let own : w ≡ h.version =
                      same_some (slice_get vs place) w h.version at (ap (slice_get vs) here ∙ h.at) in
                      let one : mine ≡ e =
                      ap (λ p. entry_of old.columns.items p w) here
                      ∙ ap (entry_of old.columns.items e.place) own ∙ sym h.is in
                      let never : true ≡ false =
                      sym (ap is_eq (entry_equal mine)) ∙ ap (λ x. is_at (entry_cmp mine) x) one ∙ other in
                      absurd (cc)
                  | inr later ↦ inr later
                ]
          ];
        }

-- the list contains the index of each version that passes the test
places_from-holds : (test : Version → Bool) (at : ℕ) (vs : List Version) (q : ℕ) (v : Version)
    → slice_get vs q ≡ Some v → test v ≡ true → Contains (places_from test at vs) (at + q)
places_from-holds test at [] q v here passed = absurd (cc)
places_from-holds test at (u ∷ us) zero v here passed =
    let same : u ≡ v = cc in
    let first : at ≡ at + 0 = omega arith in
    subst (λ b. Contains (cond b (at ∷ places_from test (at + 1) us) (places_from test (at + 1) us)) (at + 0))
    (sym (ap test same ∙ passed)) (0, omega arith, first)
places_from-holds test at (u ∷ us) (suc q) v here passed =
    let next : (at + 1) + q ≡ at + suc q = omega arith in
    subst (Contains (places_from test at (u ∷ us))) next
    (later (test u) (places_from test (at + 1) us) ((at + 1) + q)
    (places_from-holds test (at + 1) us q v here passed))
  where
    later : (b : Bool) (places : List ℕ) (x : ℕ) → Contains places x → Contains (cond b (at ∷ places) places) x
    later true places x (k, within, is) = (suc k, omega (arith, within), is)
    later false places x there = there

-- after the versions in a list of indexes are closed
pub kept-only : (n : ℕ) (c : RowsChange) (vs front : List Version) (taken : List ℕ) (kept : Option KeyIndex)
    → front ≡ map (closed n (removes c)) vs → taken ≡ places_from (is_taken c) 0 vs
    → IfSome kept (HasOnlyOpen vs []) → IfSome kept (HasOnlyOpen front taken)
kept-only n c vs front taken None e t before = tt
kept-only n c vs front taken (Some index) e t before =
    rw (e, t) (λ entry there.
    let h = before entry there in
    let v = h.version in
    let row = row_closed n (removes c) v in record {
      version = closed n (removes c) v;
      at = slice_get-map (closed n (removes c)) vs entry.place ∙ ap (option_map (closed n (removes c))) h.at;
      is = h.is ∙ ap (λ (r : Row). record {
        number = key_number index.columns.items r.values;
        from = r.period.from;
        place = entry.place;
      }) (sym row);
      left = elim h.left [
        | inl opened ↦
            elim (cases_Bool (removes c v.row)) [
              | inl goes ↦
                  let first : 0 + entry.place ≡ entry.place = omega arith in
                  inr (subst (Contains (places_from (is_taken c) 0 vs)) first
                  (places_from-holds (is_taken c) 0 vs entry.place v h.at
                  (ap (λ b. b && removes c v.row) opened ∙ goes)))
              | inr stays ↦
                  inl (open_closed n (removes c) v ∙ ap (λ b. b && not (removes c v.row)) opened
                  ∙ ap (λ b. true && not b) stays)
            ]
        | inr none ↦ absurd (Contains-none entry.place none)
      ];
    })

-- what a result says of its value
pub ok-holds : {T E : Type 0} (P : Type 0) (r : Result T E) → is_ok r ≡ true → OnOk r P → P
ok-holds P (Ok value) e holds = holds
ok-holds P (Err error) e holds = absurd (cc)

pub ok-kept : {T E : Type 0} (P : T → Type 0) (r : Result T E) → IfOk r P → IfSome (result_ok r) P
ok-kept P (Ok value) holds = holds
ok-kept P (Err error) holds = tt

-- a walk over entries, from the last back

-- the backwards search through the entries

-- the entries still to search are the first ones, and no entry after them passes the test
pub record AreLeft (test : Entry → Bool) (all left : List Entry) : Type 0 where
  pub gone : List Entry
  pub parts : all ≡ left ++ gone
  pub none : list_any test gone ≡ false

pub left-all : (test : Entry → Bool) (all : List Entry) → AreLeft test all all
left-all test all = record { gone = []; parts = sym (append-nil all); none = refl }

pub left-fewer : (test : Entry → Bool) (all left fewer : List Entry) (entry : Entry) → left ≡ fewer ++ entry ∷ []
    → test entry ≡ false → AreLeft test all left → AreLeft test all fewer
left-fewer test all left fewer entry last miss h = record {
  gone = entry ∷ h.gone;
  parts = h.parts ∙ ap (λ l. l ++ h.gone) last ∙ append_assoc fewer (entry ∷ []) h.gone;
  none = ap (λ b. b || list_any test h.gone) miss ∙ h.none;
}

any-narrowed : (test p : Entry → Bool) (xs : List Entry) → ((x : Entry) → test x ≡ true → p x ≡ true)
    → list_any test xs ≡ true → list_any test (filter p xs) ≡ true
any-narrowed test p [] h e = absurd (cc)
any-narrowed test p (x ∷ xs) h e =
    elim (any-true (test x) (list_any test xs) e) [
      | inl here ↦
          ap (λ b. list_any test (cond b (x ∷ filter p xs) (filter p xs))) (h x here)
          ∙ ap (λ b. b || list_any test (filter p xs)) here
      | inr later ↦ kept (p x) (any-narrowed test p xs h later)
    ]
  where
    kept : (b : Bool) → list_any test (filter p xs) ≡ true → list_any test (cond b (x ∷ filter p xs) (filter p xs)) ≡ true
    kept true k = ap (λ b. test x || b) k ∙ or-true (test x)
    kept false k = k

any-weaker : (test other : Entry → Bool) (xs : List Entry) → ((x : Entry) → test x ≡ true → other x ≡ true)
    → list_any test xs ≡ true → list_any other xs ≡ true
any-weaker test other [] h e = absurd (cc)
any-weaker test other (x ∷ xs) h e =
    elim (any-true (test x) (list_any test xs) e) [
      | inl here ↦ ap (λ b. b || list_any other xs) (h x here)
      | inr later ↦ ap (λ b. other x || b) (any-weaker test other xs h later) ∙ or-true (other x)
    ]

-- an entry before another in the list is less
front-less : (xs ys : List Entry) (entry q : Entry) → IsStrictlySortedBy entry_cmp (xs ++ entry ∷ ys)
    → list_any (is_at (entry_cmp q)) xs ≡ true → entry_cmp q entry ≡ Less
unfolding IsStrictlySortedBy
front-less [] ys entry q up e = absurd (cc)
front-less (x ∷ xs) ys entry q up e =
    elim (any-true (is_at (entry_cmp q) x) (list_any (is_at (entry_cmp q)) xs) e) [
      | inl here ↦
          ap (λ a. entry_cmp a entry) (entry_exact q x here)
          ∙ (append-parts (λ y. entry_cmp x y ≡ Less) xs (entry ∷ ys) up.0).1.0
      | inr later ↦ front-less xs ys entry q up.1 later
    ]

-- no version passes a test if none at a position does
none-passes : (test : Version → Bool) (vs : List Version)
    → ((q : ℕ) (v : Version) → slice_get vs q ≡ Some v → test v ≡ true → ⊥) → list_any test vs ≡ false
none-passes test [] h = refl
none-passes test (v ∷ vs) h =
    or_from (test v) (list_any test vs) (untrue (test v) (h 0 v refl)) (none-passes test vs (λ q u at. h (suc q) u at))
  where
    untrue : (b : Bool) → (b ≡ true → ⊥) → b ≡ false
    untrue true = λ no. absurd (no refl)
    untrue false = λ no. refl

-- some version passes it if one at a position does
pub some-passes : (test : Version → Bool) (vs : List Version) (place : ℕ) → passes vs test place ≡ true
    → list_any test vs ≡ true
some-passes test [] place e = absurd (cc)
some-passes test (v ∷ vs) zero e = ap (λ b. b || list_any test vs) e
some-passes test (v ∷ vs) (suc place) e = ap (λ b. test v || b) (some-passes test vs place e) ∙ or-true (test v)

module _ (c : RowsChange) (other : Draft) (vs : List Version) (index : KeyIndex) (end : Entry)
    (near : List Entry) (is : IsKeyIndex vs index) (number : end.number ≡ key_number index.columns.items other.values)
    (ends : end.from ≡ other.period.to)
    (between : near ≡ filter (range_contains entry_cmp Unbounded (Excluded end)) index.entries.keys) where
  abbrev pub hits : Version → Bool
  hits = collides_left c index.columns.items other

  abbrev pub entry : ℕ → Version → Entry
  entry place v = entry_of index.columns.items place v

  number-of_key : (v : Version) → same_key index.columns.items v.row.values other.values ≡ true
      → key_number index.columns.items v.row.values ≡ end.number
  number-of_key v same = key-agrees index.columns.items v.row.values other.values same ∙ sym number

  -- the entry of a colliding version is within the searched range
  near-hit : (q : ℕ) (v : Version) → slice_get vs q ≡ Some v → is_open v ≡ true
      → collide index.columns.items (draft_of v) other ≡ true → list_any (is_at (entry_cmp (entry q v))) near ≡ true
  near-hit q v at opened meets =
      let mine = entry q v in
      let both = and_parts (same_key index.columns.items v.row.values other.values)
      (is_some (meet v.row.period other.period)) meets in
      let same : mine.number ≡ end.number =
      number-of_key v both.0 in
      let early : mine.from <ℤ end.from = rw ends (meet-ends v.row.period other.period both.1) in
      let here : range_contains entry_cmp Unbounded (Excluded end) mine ≡ true =
      ap (λ o. true && not (is_le o)) (less-end mine end same early) in
      rw between
      (any-narrowed (is_at (entry_cmp mine)) (range_contains entry_cmp Unbounded (Excluded end)) index.entries.keys
      (λ x e. ap (range_contains entry_cmp Unbounded (Excluded end)) (sym (entry_exact mine x e)) ∙ here)
      (is q v at opened))

  -- an entry's version collides
  abbrev pub hits_at : Entry → Bool
  hits_at e = passes vs hits e.place

  hit-at : (q : ℕ) (v : Version) → slice_get vs q ≡ Some v → hits v ≡ true → (x : Entry)
      → is_at (entry_cmp (entry q v)) x ≡ true → hits_at x ≡ true
  hit-at q v at hit x e =
      ap (λ (y : Entry). passes vs hits y.place) (sym (entry_exact (entry q v) x e))
      ∙ ap (λ o. unwrap_or (option_map hits o) false) at ∙ hit

  hit-near : (q : ℕ) (v : Version) → slice_get vs q ≡ Some v → hits v ≡ true
      → list_any (is_at (entry_cmp (entry q v))) near ≡ true
  hit-near q v at hit =
      let both = and_parts (is_left c v) (collide index.columns.items (draft_of v) other) hit in
      near-hit q v at (and_parts (is_open v) (not (removes c v.row)) both.0).0 both.1

  -- no version collides if no entry is left to search
  pub walked-out : (left : List Entry) → left ≡ [] → AreLeft (λ e. passes vs hits e.place) near left
      → list_any hits vs ≡ false
  walked-out left out h =
      none-passes hits vs (λ q v at hit.
      let there : list_any (is_at (entry_cmp (entry q v))) h.gone ≡ true =
      ap (list_any (is_at (entry_cmp (entry q v)))) (sym (h.parts ∙ ap (λ l. l ++ h.gone) out)) ∙ hit-near q v at hit in
      let never : true ≡ false =
      sym (any-weaker (is_at (entry_cmp (entry q v))) hits_at h.gone (hit-at q v at hit) there) ∙ h.none in
      absurd (cc))

  -- nor if none before an entry does
  pub walked-far : (left fewer : List Entry) (e : Entry) → left ≡ fewer ++ e ∷ []
      → passes vs hits e.place ≡ false → IsLastNear index.columns.items other vs e → IsStrictlySortedBy entry_cmp near
      → AreLeft (λ e. passes vs hits e.place) near left → list_any hits vs ≡ false
  walked-far left fewer e last miss far up h =
      let gone = e ∷ h.gone in
      let parts : near ≡ fewer ++ gone =
      h.parts ∙ ap (λ l. l ++ h.gone) last ∙ append_assoc fewer (e ∷ []) h.gone in
      let none : list_any hits_at gone ≡ false = ap (λ b. b || list_any hits_at h.gone) miss ∙ h.none in
      none-passes hits vs (λ q v at hit.
      let same = is_at (entry_cmp (entry q v)) in
      let there : (list_any same fewer || list_any same gone) ≡ true =
      sym (list_any-append same fewer gone) ∙ ap (list_any same) (sym parts) ∙ hit-near q v at hit in
      elim (any-true (list_any same fewer) (list_any same gone) there) [
        | inl front ↦
            let both = and_parts (is_left c v) (collide index.columns.items (draft_of v) other) hit in
            far q v at (and_parts (is_open v) (not (removes c v.row)) both.0).0 both.1
            (front-less fewer h.gone e (entry q v) (rw parts at up) front)
        | inr behind ↦
            let never : true ≡ false = sym (any-weaker same hits_at gone (hit-at q v at hit) behind) ∙ none in
            absurd (cc)
      ])

-- the index, if there is one, before the new versions are added
pub kept-closed : (n : ℕ) (goes : Row → Bool) (vs front : List Version) (kept : Option KeyIndex)
    → front ≡ map (closed n goes) vs → IfSome kept (IsKeyIndex vs) → IfSome kept (IsKeyIndex front)
kept-closed n goes vs front None e h = tt
kept-closed n goes vs front (Some index) e h = rw e (key_index-closed n goes vs index h)
