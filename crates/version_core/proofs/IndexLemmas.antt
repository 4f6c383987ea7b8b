-- Indexes by the values of a column.
use Rattle.std.proofs.Common.{◌≡◌, ℕ, ℤ, ◌+◌, ◌*◌, ◌%◌, ◌<◌, ◌≤◌, ◌==◌, List, [], ◌∷◌, ◌++◌, Bool, true, false, ◌&&◌, cond, Option, Some, None, ◌⊎◌, length, map, drop, take, get_or, set, refl, ap, sym, subst, ◌∙◌, arith, inl, inr}
use Rattle.std.specs.Prelude.{slice_get, filter, find, unwrap_or, option_map, fold, nat_lt, position, unsigned_abs, All, IfSome, IsSome, is_some}
use Rattle.std.specs.List.{position_or_len}
use Rattle.std.proofs.lemmas.Bool.{cases_eq, cases_lt, and_right, eq-eqb, eqb-true, ltb-false, ne_eqb}
use Rattle.std.proofs.lemmas.List.{get_or_default, get_or-set_other, get_or-set_same, length-set, length-take-le, take_more}
use Rattle.std.proofs.lemmas.List.{length-take, take-append-drop, take-append-le}
use Rattle.std.proofs.lemmas.List.Elements.{All-get_or, All-head, All-tail, All-weaker, filter_passes}
use Rattle.std.proofs.lemmas.List.Folds.{find-set, find_at}
use Rattle.std.proofs.lemmas.List.Quantifiers.{position-Some}
use Rattle.std.proofs.lemmas.Option.{slice_get_past}
use Rattle.std.proofs.lemmas.List.Sums.{fold-append}
use Rattle.row_core.specs.ValueOrder.{same_value}
use Rattle.row_core.specs.declared.row.Row.{Row}
use Rattle.row_core.specs.declared.value.Value.{Value}
use Rattle.row_core.specs.declared.value.Value.TheVariants.{Int, Text}
use Rattle.row_core.proofs.ValueLemmas.{same_value_is}
use Rattle.version_core.specs.Finding.{AreCandidates, AreFound, AreNoMore, IsIndex, IsLookupOf, ListsOpen, any_row, bucket_at, bucket_in, bucket_of, bucket_of_bytes, falls_into, led_to, lookup_at, lookup_in, passes}
use Rattle.version_core.specs.OpenVersions.{closed, is_open}
use Rattle.version_core.proofs.WantedLemmas.{each-wanted}
use Rattle.version_core.specs.Wanted.{are_wanted}
use Rattle.version_core.specs.Limits.{bucket_count}
use Rattle.version_core.specs.declared.change.RowsChange.{RowsChange}
use Rattle.version_core.specs.declared.index.Index.{Index}
use Rattle.version_core.specs.declared.index.Lookup.{Lookup}
use Rattle.version_core.specs.declared.version.Version.{Version}
use Rattle.version_core.proofs.FindingLemmas.{ListsOpen-closed, ListsOpen-none, ListsOpen-pushed, ListsOpen-skipped, ListsOpen-swept, candidates-listed}

-- the bucket of a version

-- its value, if it has one, hashes to that bucket only
record Falls (opened : Bool) (value : Option Value) (bucket : ℕ) : Type 0 where
  opened_is : opened ≡ true
  here : unwrap_or (option_map (λ (v : Value). bucket_of v == bucket) value) false ≡ true
  nowhere_else : (k : ℕ) → (k ≡ bucket → ⊥)
      → unwrap_or (option_map (λ (v : Value). bucket_of v == k) value) false ≡ false

falls : (opened : Bool) (value : Option Value) (bucket : ℕ)
    → cond opened (option_map bucket_of value) None ≡ Some bucket → Falls opened value bucket
falls false value bucket e = absurd (cc)
falls true None bucket e = absurd (cc)
falls true (Some v) bucket e =
    let same : bucket_of v ≡ bucket = cc in
    record {
      opened_is = refl;
      here = eq-eqb (bucket_of v) bucket same;
      nowhere_else = λ k ne. ne_eqb (bucket_of v) k (λ at. ne (sym at ∙ same));
    }

falls_not : (opened : Bool) (value : Option Value) (k : ℕ) → cond opened (option_map bucket_of value) None ≡ None
    → (opened && unwrap_or (option_map (λ (v : Value). bucket_of v == k) value) false) ≡ false
falls_not false value k e = refl
falls_not true None k e = refl
falls_not true (Some v) k e = absurd (cc)

-- one version more

pub index-skipped : (vs : List Version) (i : ℕ) (v : Version) (index : Index) → i < length vs → v ≡ get_or vs i v
    → bucket_in index.column v ≡ None → IsIndex (take i vs) index → IsIndex (take (i + 1) vs) index
index-skipped vs i v index inside e none before =
    let grown : take (i + 1) vs ≡ take i vs ++ v ∷ [] =
    take_more vs i v inside ∙ ap (λ u. take i vs ++ u ∷ []) (sym e) in
    rw grown (record {
      whole = before.whole;
      each = λ k few. ListsOpen-skipped (take i vs) v (falls_into index.column k) (get_or index.buckets.items k [])
          (falls_not (is_open v) (slice_get v.row.values index.column) k none) (before.each k few);
    })

pushed : (vs : List Version) (v : Version) (column bucket place : ℕ) (buckets : List (List ℕ)) → place ≡ length vs
    → bucket < length buckets → bucket_in column v ≡ Some bucket
    → (k : ℕ) → ListsOpen vs (falls_into column k) (get_or buckets k [])
    → ListsOpen (vs ++ v ∷ []) (falls_into column k)
    (get_or (set buckets bucket (get_or buckets bucket [] ++ place ∷ [])) k [])
pushed vs v column bucket place buckets at inside e k h =
    let f = falls (is_open v) (slice_get v.row.values column) bucket e in
    elim (cases_eq k bucket) [
      | inl same ↦
          let there : ListsOpen vs (falls_into column bucket) (get_or buckets bucket []) = rw same at h in
          rw same (rw (get_or-set_same buckets bucket (get_or buckets bucket [] ++ place ∷ []) [] inside)
          (ListsOpen-pushed vs v (falls_into column bucket)
          (get_or buckets bucket []) place at f.opened_is f.here there))
      | inr other ↦
          rw (get_or-set_other buckets bucket k (get_or buckets bucket [] ++ place ∷ []) [] other)
          (ListsOpen-skipped vs v (falls_into column k) (get_or buckets k [])
          (and_right (is_open v) (falls_into column k v.row) (f.nowhere_else k other)) h)
    ]

pub index-pushed : (vs : List Version) (i : ℕ) (v : Version) (old new : Index) (bucket : ℕ) → i < length vs
    → v ≡ get_or vs i v → bucket < bucket_count → bucket_in old.column v ≡ Some bucket → new.column ≡ old.column
    → new.buckets.items ≡ set old.buckets.items bucket (get_or old.buckets.items bucket [] ++ i ∷ [])
    → IsIndex (take i vs) old → IsIndex (take (i + 1) vs) new
index-pushed vs i v old new bucket inside e small at column written before =
    let grown : take (i + 1) vs ≡ take i vs ++ v ∷ [] =
    take_more vs i v inside ∙ ap (λ u. take i vs ++ u ∷ []) (sym e) in
    let here : i ≡ length (take i vs) = length-front vs i inside in
    let within : bucket < length old.buckets.items = omega (arith, before.whole, small) in
    rw grown (record {
      whole = ap length written ∙ length-set old.buckets.items bucket (get_or old.buckets.items bucket [] ++ i ∷ [])
          ∙ before.whole;
      each = λ k few. rw (column, written)
          (pushed (take i vs) v old.column bucket i old.buckets.items here within at k (before.each k few));
    })
  where
    length-front : (vs : List Version) (i : ℕ) → i < length vs → i ≡ length (take i vs)
    length-front vs i h = sym (length-take-le i vs (omega arith))

-- positions of closed versions are removed from one bucket

pub index-swept : (vs : List Version) (old new : Index) (bucket : ℕ) → bucket < bucket_count → new.column ≡ old.column
    → new.buckets.items ≡ set old.buckets.items bucket
    (filter (passes vs is_open) (get_or old.buckets.items bucket [])) → IsIndex vs old → IsIndex vs new
index-swept vs old new bucket small column written before =
    let swept = filter (passes vs is_open) (get_or old.buckets.items bucket []) in
    let within : bucket < length old.buckets.items = omega (arith, before.whole, small) in
    record {
      whole = ap length written ∙ length-set old.buckets.items bucket swept ∙ before.whole;
      each = λ k few. rw (column, written) (elim (cases_eq k bucket) [
        | inl same ↦
            let there : ListsOpen vs (falls_into old.column bucket) (get_or old.buckets.items bucket []) =
            before.each bucket small in
            rw same (rw (get_or-set_same old.buckets.items bucket swept [] within)
            (ListsOpen-swept vs (falls_into old.column bucket) (get_or old.buckets.items bucket []) there))
        | inr other ↦ rw (get_or-set_other old.buckets.items bucket k swept [] other) (before.each k few)
      ]);
    }

-- no versions

pub index-empty : (index : Index) → length index.buckets.items ≡ bucket_count
    → All (λ (places : List ℕ). places ≡ []) index.buckets.items → IsIndex [] index
index-empty index whole empty = record {
  whole = whole;
  each = λ k few.
      let none : get_or index.buckets.items k [] ≡ [] =
      All-get_or (λ (places : List ℕ). places ≡ []) index.buckets.items k [] (omega (arith, whole, few)) empty in
      rw none (ListsOpen-none (falls_into index.column k));
}

-- versions are closed

index-closed : (n : ℕ) (goes : Row → Bool) (vs : List Version) (index : Index) → IsIndex vs index
    → IsIndex (map (closed n goes) vs) index
index-closed n goes vs index h = record {
  whole = h.whole;
  each = λ k few. ListsOpen-closed n goes vs (falls_into index.column k) (get_or index.buckets.items k [])
      (h.each k few);
}

-- the positions that a change examines

falls_where_equal : (x : Value) (o : Option Value) → unwrap_or (option_map (same_value x) o) false ≡ true
    → unwrap_or (option_map (λ (v : Value). bucket_of v == bucket_of x) o) false ≡ true
falls_where_equal x None e = absurd (cc)
falls_where_equal x (Some y) e = eq-eqb (bucket_of y) (bucket_of x) (ap bucket_of (sym (same_value_is x y e)))

-- rows that have all wanted values hash to the bucket of each of them
pub lookup_at-covers : (wanted : List (Option Value)) (column : ℕ)
    → IfSome (lookup_at wanted column)
    (λ lookup. (row : Row) → are_wanted wanted row.values ≡ true
    → falls_into lookup.column lookup.bucket row ≡ true)
lookup_at-covers wanted column = at (get_or wanted column None) refl
  where
    at : (o : Option Value) → get_or wanted column None ≡ o
        → IfSome (option_map (λ value. lookup_in value column) o)
        (λ lookup. (row : Row) → are_wanted wanted row.values ≡ true
        → falls_into lookup.column lookup.bucket row ≡ true)
    at None e = tt
    at (Some one) e = λ row all.
        falls_where_equal one (slice_get row.values column) (each-wanted wanted row.values column one e all)

-- a property of both lookups holds for the better one
pub lookup-better : (P : Lookup → Type 0) (Q : Type 0) (one other best : Option Lookup)
    → (best ≡ one) ⊎ ((best ≡ other) × Q) → IfSome one P → IfSome other P → IfSome best P
lookup-better P Q one other best (inl e) h k = rw e h
lookup-better P Q one other best (inr (e, q)) h k = rw e k

-- the better lookup finds positions if the first one did, or if it was chosen instead
pub lookup-leads : (indexes : List Index) (one other best : Option Lookup)
    → (best ≡ one) ⊎ ((best ≡ other) × IsSome (led_to indexes other))
    → IfSome one (λ lookup. IsSome (bucket_at indexes lookup)) → IfSome best
    (λ lookup. IsSome (bucket_at indexes lookup))
lookup-leads indexes one other best (inl e) h = rw e h
lookup-leads indexes one None best (inr (e, q)) h = rw e tt
lookup-leads indexes one (Some other) best (inr (e, q)) h = rw e q

AreNoMore-chain : (a b c : Option (List ℕ)) → AreNoMore a b → AreNoMore b c → AreNoMore a c
AreNoMore-chain a b None h k = tt
AreNoMore-chain a None (Some c) h k = absurd k
AreNoMore-chain None (Some b) (Some c) h k = absurd h
AreNoMore-chain (Some a) (Some b) (Some c) h k = omega (arith, h, k)

pub AreNoMore-itself : (places : Option (List ℕ)) → AreNoMore places places
AreNoMore-itself None = tt
AreNoMore-itself (Some places) = omega arith

-- a missing lookup finds nothing
pub nowhere-less : (indexes : List Index) (one other : Option Lookup) → is_some other ≡ false
    → AreNoMore (led_to indexes one) (led_to indexes other)
nowhere-less indexes one None e = tt
nowhere-less indexes one (Some lookup) e = absurd (cc)

-- a lookup that finds no more than the others, with one column more
pub lookup-shortest : (indexes : List Index) (wanted : List (Option Value)) (i : ℕ) (one best : Option Lookup)
    → AreNoMore (led_to indexes best) (led_to indexes one)
    → AreNoMore (led_to indexes best) (led_to indexes (lookup_at wanted i))
    → ((k : ℕ) → k < i → AreNoMore (led_to indexes one) (led_to indexes (lookup_at wanted k)))
    → (k : ℕ) → k < i + 1 → AreNoMore (led_to indexes best) (led_to indexes (lookup_at wanted k))
lookup-shortest indexes wanted i one best no_more there before k below = elim (cases_lt k i) [
  | inl lt ↦ AreNoMore-chain (led_to indexes best) (led_to indexes one) (led_to indexes (lookup_at wanted k)) no_more
      (before k lt)
  | inr ge ↦
      let same : k ≡ i = omega arith in
      subst (λ j. AreNoMore (led_to indexes best) (led_to indexes (lookup_at wanted j))) (sym same) there
]

-- the index that is found
pub found-index : (P : Index → Type 0) (test : Index → Bool) (indexes : List Index) → All P indexes
    → IfSome (find test indexes) (λ index. P index × (test index ≡ true))
found-index P test [] all = tt
found-index P test (x ∷ xs) all = by_test (test x) refl (found-index P test xs (All-tail P x xs all))
  where
    by_test : (b : Bool) → test x ≡ b → IfSome (find test xs) (λ index. P index × (test index ≡ true))
        → IfSome (cond b (Some x) (find test xs)) (λ index. P index × (test index ≡ true))
    by_test true e rest = (All-head P x xs all, e)
    by_test false e rest = rest

-- it has all buckets if all indexes do
pub found-whole : (indexes : List Index) (column : ℕ) (index : Index)
    → All (λ (index : Index). length index.buckets.items ≡ bucket_count) indexes
    → find (λ (index : Index). index.column == column) indexes ≡ Some index
    → length index.buckets.items ≡ bucket_count
found-whole indexes column index all found =
    let Whole : Index → Type 0 = λ index. length index.buckets.items ≡ bucket_count in
    let test = λ (index : Index). index.column == column in
    (subst (λ o. IfSome o (λ index. Whole index × (test index ≡ true))) found (found-index Whole test indexes all)).0

candidates-all : (c : RowsChange) (vs : List Version) (places : List ℕ) (indexes : List Index)
    → AreFound vs places indexes → AreCandidates c vs places
candidates-all c vs places indexes h = candidates-listed c vs any_row places h.all (λ row e. refl)

-- the positions that a lookup finds are enough
pub candidates-led : (c : RowsChange) (vs : List Version) (places : List ℕ) (indexes : List Index)
    (lookup : Option Lookup) → AreFound vs places indexes → IfSome lookup (λ lookup. lookup.bucket < bucket_count)
    → IfSome lookup (IsLookupOf c) → AreCandidates c vs (unwrap_or (led_to indexes lookup) places)
candidates-led c vs places indexes None found few covers = candidates-all c vs places indexes found
candidates-led c vs places indexes (Some lookup) found few covers =
    at (find (λ (index : Index). index.column == lookup.column) indexes)
    (found-index (IsIndex vs) (λ (index : Index). index.column == lookup.column) indexes found.by_value)
  where
    at : (o : Option Index)
        → IfSome o (λ (index : Index). IsIndex vs index × ((index.column == lookup.column) ≡ true))
        → AreCandidates c vs
        (unwrap_or (option_map (λ (index : Index). get_or index.buckets.items lookup.bucket []) o) places)
    at None h = candidates-all c vs places indexes found
    at (Some index) h =
        candidates-listed c vs (falls_into index.column lookup.bucket)
        (get_or index.buckets.items lookup.bucket [])
        (h.0.each lookup.bucket few)
        (λ row goes. ap (λ column. falls_into column lookup.bucket row) (eqb-true index.column lookup.column h.1)
        ∙ covers row goes)

-- an index that is read and written

pub index-written : (buckets : List (List ℕ)) (bucket : ℕ) (read new : List ℕ) (f : List ℕ → List ℕ)
    → bucket < length buckets → read ≡ get_or buckets bucket read → new ≡ f read
    → set buckets bucket new ≡ set buckets bucket (f (get_or buckets bucket []))
index-written buckets bucket read new f inside r e =
    ap (set buckets bucket) (e ∙ ap f (r ∙ get_or_default buckets bucket read [] inside))

-- a swept bucket lists open versions only
pub swept-open : (vs : List Version) (buckets : List (List ℕ)) (bucket : ℕ) (read new : List ℕ)
    → bucket < length buckets → new ≡ filter (passes vs is_open) read
    → All (λ place. passes vs is_open place ≡ true) (get_or (set buckets bucket new) bucket [])
swept-open vs buckets bucket read new inside e =
    rw (get_or-set_same buckets bucket new [] inside, e) (filter_passes (passes vs is_open) read)

-- the index of the first element that passes a test
position-is : {X : Type 0} (test : X → Bool) (xs : List X) (i : ℕ) → position test xs ≡ Some i
    → i ≡ position_or_len test xs
position-is test xs i at = by (nat_lt (position_or_len test xs) (length xs)) at where
  by : (b : Bool) → cond b (Some (position_or_len test xs)) None ≡ Some i → i ≡ position_or_len test xs
  by true e = cc
  by false e = absurd (cc)

-- the bucket of a lookup after its index is written
pub bucket-written : (P : List ℕ → Type 0) (indexes : List Index) (lookup : Lookup) (i : ℕ) (old new : Index)
    → position (λ (index : Index). index.column == lookup.column) indexes ≡ Some i
    → new.column ≡ (get_or indexes i old).column → P (get_or new.buckets.items lookup.bucket [])
    → IfSome (bucket_at (set indexes i new) lookup) P
bucket-written P indexes lookup i old new at column holds =
    let test = λ (index : Index). index.column == lookup.column in
    let found = position-Some test indexes i old at in
    let passed : test new ≡ true =
    ap (λ k. k == lookup.column) column ∙ found.1 in
    subst (λ (o : Option Index). IfSome (option_map (λ (index : Index). get_or index.buckets.items lookup.bucket []) o) P)
    (sym (find-set test indexes i new (position-is test indexes i at) found.0 passed)) holds

-- a lookup has no bucket if no index is of its column
pub bucket-nowhere : (P : List ℕ → Type 0) (indexes : List Index) (lookup : Lookup)
    → position (λ (index : Index). index.column == lookup.column) indexes ≡ None → IfSome (bucket_at indexes lookup) P
bucket-nowhere P indexes lookup none =
    let test = λ (index : Index). index.column == lookup.column in
    let place = position_or_len test indexes in
    let nowhere = find_at test indexes ∙ slice_get_past indexes place (past place (length indexes) (nat_lt place (length indexes)) refl none) in
    subst (λ (o : Option Index). IfSome (option_map (λ (index : Index). get_or index.buckets.items lookup.bucket []) o) P)
    (sym nowhere) tt
  where
    past : (place count : ℕ) (b : Bool) → nat_lt place count ≡ b → cond b (Some place) None ≡ None → count ≤ place
    past place count true e none = absurd (cc)
    past place count false e none = ltb-false place count e

-- a prefix of a prefix is a prefix
pub first-stays : {X : Type 0} (first old new : List X) → take (length first) old ≡ first
    → take (length old) new ≡ old → take (length first) new ≡ first
first-stays first old new before after =
    let few : length first ≤ length old =
    omega (arith, ap length before, length-take (length first) old) in
    ap (take (length first)) (sym (take-append-drop (length old) new) ∙ ap (λ l. l ++ drop (length old) new) after)
    ∙ take-append-le (length first) old (drop (length old) new) few ∙ before

-- all indexes before the new versions are added
pub indexes-closed : (n : ℕ) (goes : Row → Bool) (vs front : List Version) (indexes : List Index)
    → front ≡ map (closed n goes) vs → All (IsIndex vs) indexes → All (IsIndex front) indexes
indexes-closed n goes vs front indexes e h =
    rw e (All-weaker (IsIndex vs) (IsIndex (map (closed n goes) vs))
    (λ index is. index-closed n goes vs index is) indexes h)

-- buckets of values

pub bytes-none : 0 ≡ bucket_of_bytes []
unfolding bucket_of_bytes
bytes-none = refl

pub bytes-more : (bytes : List ℕ) (i bucket : ℕ) → i < length bytes → bucket ≡ bucket_of_bytes (take i bytes)
    → (bucket * 31 + get_or bytes i 0) % bucket_count ≡ bucket_of_bytes (take (i + 1) bytes)
unfolding bucket_of_bytes
bytes-more bytes i bucket h e =
    let step = λ (b x : ℕ). (b * 31 + x) % bucket_count in
    ap (λ b. step b (get_or bytes i 0)) e
    ∙ sym (fold-append step 0 (take i bytes) (get_or bytes i 0 ∷ []))
    ∙ ap (fold step 0) (sym (take_more bytes i 0 h))

pub bucket-of_int : (value : Value) (n : ℤ) (k : ℕ) → value ≡ Int n → k ≡ unsigned_abs n
    → k % bucket_count ≡ bucket_of value
unfolding bucket_of
bucket-of_int value n k e h = ap (λ k. k % bucket_count) h ∙ ap bucket_of (sym e)

pub bucket-of_text : (value : Value) (text bytes : List ℕ) (k : ℕ) → value ≡ Text text → bytes ≡ text
    → k ≡ bucket_of_bytes bytes → k ≡ bucket_of value
unfolding bucket_of
bucket-of_text value text bytes k e b h = h ∙ ap bucket_of_bytes b ∙ ap bucket_of (sym e)
