-- Keys: one column for each name, at the index of its name.
use Rattle.std.proofs.Common.{◌≡◌, ◌≢◌, ℕ, zero, suc, ◌+◌, ◌<◌, List, [], ◌∷◌, ◌++◌, Bool, true, false, ◌||◌, not, cond, length, map, get_or, Option, Some, None, refl, sym, ap, ◌∙◌, arith, append_assoc}
use Rattle.std.specs.Prelude.{bytes_eq, All, AllPairs, IsSome, count_by, is_some, nat_eq, position, slice_get}
use Rattle.std.specs.Cmp.Lexicographic.{bytes_decides}
use Rattle.std.specs.List.{AllByRecursion, filter_map, list_any, position_from, range_with_len}
use Rattle.std.specs.Option.{option_eq}
use Rattle.std.proofs.lemmas.Bool.{eq-eqb, ne_eqb, or_parts}
use Rattle.std.proofs.lemmas.Iterator.Adapters.{position_from-zero}
use Rattle.std.proofs.lemmas.List.{append-nil}
use Rattle.std.proofs.lemmas.List.Recursion.{is_count_by, or_push}
use Rattle.std.proofs.Math.Bool.{or-false, or-true}
use Rattle.row_core.specs.Refusals.{first_of}
use Rattle.row_core.specs.Schema.{IsSchema, column_of, columns_of, in_key, is_in_key, key_of, key_place, key_tests, keyed}
use Rattle.row_core.specs.declared.schema.Column.{Column}
use Rattle.row_core.specs.declared.schema.KeyRefused.{KeyRefused}
use Rattle.row_core.specs.declared.schema.KeyRefused.TheVariants.{NoColumn, TwiceNamed}
use Rattle.row_core.specs.declared.value.Kind.{Kind}

-- ---- names

same-flips : (a b : List ℕ) → bytes_eq a b ≡ bytes_eq b a
same-flips a b = by_tests (bytes_eq a b) (bytes_eq b a) refl refl where
  by_tests : (s t : Bool) → bytes_eq a b ≡ s → bytes_eq b a ≡ t → s ≡ t
  by_tests true true e f = refl
  by_tests false false e f = refl
  by_tests true false e f = let back = (bytes_decides b a).1 (sym ((bytes_decides a b).0 e)) in absurd (cc)
  by_tests false true e f = let there = (bytes_decides a b).1 (sym ((bytes_decides b a).0 f)) in absurd (cc)

-- the name is one of the names
abbrev pub among : List (List ℕ) → List ℕ → Bool
among names name = list_any (λ other. bytes_eq other name) names

some-from : {X : Type 0} (p : X → Bool) (at : ℕ) (xs : List X) → is_some (position_from p at xs) ≡ list_any p xs
some-from p at [] = refl
some-from p at (x ∷ xs) =
    elim (p x) as (λ b. is_some (cond b (Some at) (position_from p (at + 1) xs)) ≡ (b || list_any p xs))
    [ true ↦ refl | false ↦ some-from p (at + 1) xs ]

-- `position` finds an index if some element passes the test
some-position : {X : Type 0} (p : X → Bool) (xs : List X) → is_some (position p xs) ≡ list_any p xs
some-position p xs = ap is_some (position_from-zero p xs) ∙ some-from p 0 xs

among-push : (names : List (List ℕ)) (last name : List ℕ)
    → among (names ++ last ∷ []) name ≡ (among names name || bytes_eq last name)
among-push names last name =
    or_push (list_any (λ other. bytes_eq other name)) (λ other. bytes_eq other name) refl (λ _ _. refl) names last

one_after : (n : ℕ) → 1 + n ≡ n + 1
one_after n = omega arith

one_out : (b : Bool) (n : ℕ) → cond b (1 + (n + 1)) (n + 1) ≡ cond b (1 + n) n + 1
one_out true n = omega arith
one_out false n = refl

differs : (a b : List ℕ) → a ≢ b → bytes_eq a b ≡ false
differs a b h = by_test (bytes_eq a b) refl where
  by_test : (t : Bool) → bytes_eq a b ≡ t → t ≡ false
  by_test false e = refl
  by_test true e = absurd (h ((bytes_decides a b).0 e))

-- ---- consequences of the tests of names

-- no name occurs twice
abbrev AreDistinct : List (List ℕ) → Type 0
AreDistinct [] = Unit {0}
AreDistinct (name ∷ names) = AllByRecursion (λ other. bytes_eq name other ≡ false) names × AreDistinct names

-- each name is a column's, no name occurs twice, and no name is one of the others
record AreNew (columns : List Column) (others names : List (List ℕ)) : Type 0 where
  pub found : AllByRecursion (λ name. is_some (column_of columns name) ≡ true) names
  pub fresh : AllByRecursion (λ name. among others name ≡ false) names
  pub distinct : AreDistinct names

none-twice : (a b : Bool) (rest : List (Bool × KeyRefused))
    → first_of ((not a, NoColumn) ∷ (b, TwiceNamed) ∷ rest) ≡ None → (a ≡ true) × (b ≡ false) × (first_of rest ≡ None)
none-twice true false rest h = (refl, refl, h)
none-twice true true rest h = absurd (cc)
none-twice false b rest h = absurd (cc)

before-last : (others names : List (List ℕ)) (last : List ℕ)
    → AllByRecursion (λ name. among (others ++ last ∷ []) name ≡ false) names
    → AllByRecursion (λ name. among others name ≡ false) names
    × AllByRecursion (λ name. bytes_eq last name ≡ false) names
before-last others [] last h = (tt, tt)
before-last others (name ∷ names) last h =
    let both = or_parts (among others name) (bytes_eq last name) (sym (among-push others last name) ∙ h.0) in
    let rest = before-last others names last h.1 in
    ((both.0, rest.0), (both.1, rest.1))

are-new : (columns : List Column) (others names : List (List ℕ)) → first_of (key_tests columns others names) ≡ None
    → AreNew columns others names
are-new columns others [] h = record { found = tt; fresh = tt; distinct = tt }
are-new columns others (name ∷ names) h =
    let tests =
    none-twice (is_some (column_of columns name)) (is_some (position (λ other. bytes_eq other name) others))
    (key_tests columns (others ++ name ∷ []) names) h
    in
    let rest = are-new columns (others ++ name ∷ []) names tests.2 in
    let split = before-last others names name rest.fresh in
    record {
      found = (tests.0, rest.found);
      fresh = (sym (some-position (λ other. bytes_eq other name) others) ∙ tests.1, split.0);
      distinct = (split.1, rest.distinct);
    }

-- ---- how many columns a key has

-- how many columns have one of the names
abbrev count_named : List (List ℕ) → List Column → ℕ
count_named names [] = 0
count_named names (c ∷ cs) = cond (among names c.name) (1 + count_named names cs) (count_named names cs)

abbrev count_keyed : List Column → ℕ
count_keyed [] = 0
count_keyed (c ∷ cs) = cond (is_in_key c) (1 + count_keyed cs) (count_keyed cs)

counts : (names : List (List ℕ)) (columns : List Column) → count_keyed (keyed columns names) ≡ count_named names columns
counts names [] = refl
counts names (c ∷ cs) =
    ap (λ b. cond b (1 + count_keyed (keyed cs names)) (count_keyed (keyed cs names)))
    (some-position (λ name. bytes_eq name c.name) names)
    ∙ ap (λ n. cond (among names c.name) (1 + n) n) (counts names cs)

module _ (others : List (List ℕ)) (name : List ℕ) where
  -- a new name doesn't change the count among columns with other names
  none-more : (columns : List Column) → All (λ (c : Column). name ≢ c.name) columns
      → count_named (others ++ name ∷ []) columns ≡ count_named others columns
  none-more [] h = refl
  none-more (c ∷ cs) h =
      ap (λ b. cond b (1 + count_named (others ++ name ∷ []) cs) (count_named (others ++ name ∷ []) cs))
      (among-push others name c.name
      ∙ ap (λ b. among others c.name || b) (differs name c.name (h 0 c (omega arith)))
      ∙ or-false (among others c.name))
      ∙ ap (λ n. cond (among others c.name) (1 + n) n) (none-more cs (λ k d lt. h (suc k) d (omega arith)))

  -- a column's name that is new adds one to the count
  one-more : (columns : List Column) → AllPairs (λ (one other : Column). one.name ≢ other.name) columns
      → list_any (λ c. bytes_eq c.name name) columns ≡ true → among others name ≡ false
      → count_named (others ++ name ∷ []) columns ≡ count_named others columns + 1
  one-more [] distinct found fresh = absurd (cc)
  one-more (c ∷ cs) distinct found fresh =
      by_test (bytes_eq c.name name) refl
      (λ rest. one-more cs (λ i j d below inside. distinct (suc i) (suc j) d (omega arith) (omega arith)) rest fresh)
    where
      more : ℕ
      more = count_named (others ++ name ∷ []) cs

      by_test : (t : Bool) → bytes_eq c.name name ≡ t
          → (list_any (λ d. bytes_eq d.name name) cs ≡ true → more ≡ count_named others cs + 1)
          → count_named (others ++ name ∷ []) (c ∷ cs) ≡ count_named others (c ∷ cs) + 1
      by_test true e rest =
          let same = (bytes_decides c.name name).0 e in
          ap (λ b. cond b (1 + more) more)
          (among-push others name c.name
          ∙ ap (λ b. among others c.name || b) (same-flips name c.name ∙ e)
          ∙ or-true (among others c.name))
          ∙ ap (λ n. 1 + n) (none-more cs (λ k d lt. λ f. distinct 0 (suc k) d (omega arith) (omega arith) (same ∙ f)))
          ∙ one_after (count_named others cs)
          ∙ ap (λ b. cond b (1 + count_named others cs) (count_named others cs) + 1)
          (sym (ap (among others) same ∙ fresh))
      by_test false e rest =
          ap (λ b. cond b (1 + more) more)
          (among-push others name c.name
          ∙ ap (λ b. among others c.name || b) (same-flips name c.name ∙ e)
          ∙ or-false (among others c.name))
          ∙ ap (λ n. cond (among others c.name) (1 + n) n)
          (rest (sym (ap (λ b. b || list_any (λ d. bytes_eq d.name name) cs) e) ∙ found))
          ∙ one_out (among others c.name) (count_named others cs)

-- columns without a key
count-keyless : (pairs : List (List ℕ × Kind)) → count_keyed (columns_of pairs) ≡ 0
count-keyless [] = refl
count-keyless (pair ∷ pairs) = count-keyless pairs

pub keyless : (pairs : List (List ℕ × Kind)) → count_by is_in_key (columns_of pairs) ≡ 0
keyless pairs = sym (is_count_by count_keyed is_in_key refl (λ _ _. refl) (columns_of pairs)) ∙ count-keyless pairs

count-nothing : (columns : List Column) → count_named [] columns ≡ 0
count-nothing [] = refl
count-nothing (c ∷ cs) = count-nothing cs

-- the columns with one of the names are the columns with one of the others, and one for each new name
count-new : (columns : List Column) (others names : List (List ℕ))
    → AllPairs (λ (one other : Column). one.name ≢ other.name) columns
    → first_of (key_tests columns others names) ≡ None
    → count_named (others ++ names) columns ≡ count_named others columns + length names
count-new columns others [] distinct h = ap (λ l. count_named l columns) (append-nil others) ∙ omega arith
count-new columns others (name ∷ names) distinct h =
    let new = are-new columns others (name ∷ names) h in
    let tests =
    none-twice (is_some (column_of columns name)) (is_some (position (λ other. bytes_eq other name) others))
    (key_tests columns (others ++ name ∷ []) names) h
    in
    let found = sym (some-position (λ c. bytes_eq c.name name) columns) ∙ new.found.0 in
    let one = one-more others name columns distinct found new.fresh.0 in
    let rest = count-new columns (others ++ name ∷ []) names distinct tests.2 in
    ap (λ l. count_named l columns) (sym (append_assoc others (name ∷ []) names)) ∙ (omega (arith, one, rest))

count-keyed : (columns : List Column) (names : List (List ℕ))
    → AllPairs (λ (one other : Column). one.name ≢ other.name) columns → first_of (key_tests columns [] names) ≡ None
    → count_by is_in_key (keyed columns names) ≡ length names
count-keyed columns names distinct h =
    sym (is_count_by count_keyed is_in_key refl (λ _ _. refl) (keyed columns names)) ∙ counts names columns
    ∙ count-new columns [] names distinct h ∙ ap (λ n. n + length names) (count-nothing columns) ∙ omega arith

-- ---- the indexes of a key's columns

later-place : {X : Type 0} (p : X → Bool) (xs : List X) (at j : ℕ) → j < at
    → option_eq nat_eq (position_from p at xs) (Some j) ≡ false
later-place p [] at j h = refl
later-place p (x ∷ xs) at j h =
    elim (p x) as (λ b. option_eq nat_eq (cond b (Some at) (position_from p (at + 1) xs)) (Some j) ≡ false)
    [ true ↦ ne_eqb at j (λ e. omega arith) | false ↦ later-place p xs (at + 1) j (omega arith) ]

none-same : (name : List ℕ) (names : List (List ℕ)) (j : ℕ) (d : List ℕ) → j < length names
    → AllByRecursion (λ other. bytes_eq name other ≡ false) names → bytes_eq (get_or names j d) name ≡ false
none-same name [] j d h all = absurd (omega arith)
none-same name (other ∷ names) zero d h all = same-flips other name ∙ all.0
none-same name (other ∷ names) (suc j) d h all = none-same name names j d (omega arith) all.1

-- among distinct names, a name's first index is `j` if and only if it is the name at `j`
first-place : (name : List ℕ) (names : List (List ℕ)) (at j k : ℕ) (d : List ℕ) → AreDistinct names → j < length names
    → at + j ≡ k
    → option_eq nat_eq (position_from (λ other. bytes_eq other name) at names) (Some k)
    ≡ bytes_eq (get_or names j d) name
first-place name [] at j k d distinct h e = absurd (omega arith)
first-place name (other ∷ names) at zero k d distinct h e =
    elim (bytes_eq other name)
    as (λ b. option_eq nat_eq (cond b (Some at) (position_from (λ other. bytes_eq other name) (at + 1) names)) (Some k)
    ≡ b) [
      | true ↦ eq-eqb at k (omega arith)
      | false ↦ later-place (λ other. bytes_eq other name) names (at + 1) k (omega arith)
    ]
first-place name (other ∷ names) at (suc j) k d distinct h e =
    by_test (bytes_eq other name) refl (first-place name names (at + 1) j k d distinct.1 (omega arith) (omega arith))
  where
    by_test : (t : Bool) → bytes_eq other name ≡ t
        → option_eq nat_eq (position_from (λ other. bytes_eq other name) (at + 1) names) (Some k)
        ≡ bytes_eq (get_or names j d) name
        → option_eq nat_eq (cond t (Some at) (position_from (λ other. bytes_eq other name) (at + 1) names)) (Some k)
        ≡ bytes_eq (get_or names j d) name
    by_test true same rest =
        ne_eqb at k (λ f. omega arith)
        ∙ sym (ap (bytes_eq (get_or names j d)) (sym ((bytes_decides other name).0 same))
        ∙ none-same other names j d (omega arith) distinct.0)
    by_test false same rest = rest

-- `position` in a mapped list
position-map : {X Y : Type 0} (f : X → Y) (p : Y → Bool) (q : X → Bool) (at : ℕ) (xs : List X)
    → ((x : X) → p (f x) ≡ q x) → position_from p at (map f xs) ≡ position_from q at xs
position-map f p q at [] h = refl
position-map f p q at (x ∷ xs) h =
    ap (λ b. cond b (Some at) (position_from p (at + 1) (map f xs))) (h x)
    ∙ ap (cond (q x) (Some at)) (position-map f p q (at + 1) xs h)

-- the column at index `j` of the key is the column with the name at `j`
key-place : (columns : List Column) (names : List (List ℕ)) (j : ℕ) (d : List ℕ) → AreDistinct names → j < length names
    → key_place (keyed columns names) j ≡ column_of columns (get_or names j d)
key-place columns names j d distinct h =
    position_from-zero (λ (c : Column). option_eq nat_eq c.key (Some j)) (keyed columns names)
    ∙ position-map (in_key names) (λ (c : Column). option_eq nat_eq c.key (Some j))
    (λ c. bytes_eq c.name (get_or names j d)) 0 columns
    (λ c. ap (λ o. option_eq nat_eq o (Some j)) (position_from-zero (λ name. bytes_eq name c.name) names)
    ∙ first-place c.name names 0 j j d distinct h (omega arith) ∙ same-flips (get_or names j d) c.name)
    ∙ sym (position_from-zero (λ (c : Column). bytes_eq c.name (get_or names j d)) columns)

map-range : (f : ℕ → Option ℕ) (g : List ℕ → Option ℕ) (names : List (List ℕ)) (at : ℕ)
    → ((j k : ℕ) → j < length names → at + j ≡ k → f k ≡ g (get_or names j []))
    → map f (range_with_len at (length names)) ≡ map g names
map-range f g [] at h = refl
map-range f g (name ∷ names) at h =
    ap (λ o. o ∷ map f (range_with_len (at + 1) (length names))) (h 0 at (omega arith) (omega arith))
    ∙ ap (λ l. g name ∷ l) (map-range f g names (at + 1) (λ j k lt e. h (suc j) k (omega arith) (omega arith)))

all-some : (f : ℕ → Option ℕ) (at n : ℕ) → ((j : ℕ) → at < j + 1 → j < at + n → is_some (f j) ≡ true)
    → map Some (filter_map f (range_with_len at n)) ≡ map f (range_with_len at n)
all-some f at zero h = refl
all-some f at (suc n) h =
    by_first (f at) refl (all-some f (at + 1) n (λ j low high. h j (omega arith) (omega arith))) where
      by_first : (o : Option ℕ) → f at ≡ o
          → map Some (filter_map f (range_with_len (at + 1) n)) ≡ map f (range_with_len (at + 1) n)
          → map Some (filter_map f (range_with_len at (suc n))) ≡ map f (range_with_len at (suc n))
      by_first None e rest = let some = sym (h at (omega arith) (omega arith)) ∙ ap is_some e in absurd (cc)
      by_first (Some x) e rest = rw e (ap (λ l. Some x ∷ l) rest)

found-at : (columns : List Column) (names : List (List ℕ)) (j : ℕ)
    → AllByRecursion (λ name. is_some (column_of columns name) ≡ true) names → j < length names
    → is_some (column_of columns (get_or names j [])) ≡ true
found-at columns [] j h lt = absurd (omega arith)
found-at columns (name ∷ names) zero h lt = h.0
found-at columns (name ∷ names) (suc j) h lt = found-at columns names j h.1 (omega arith)

module _
    (columns : List Column)
    (names : List (List ℕ))
    (distinct : AllPairs (λ (one other : Column). one.name ≢ other.name) columns)
    (accepted : first_of (key_tests columns [] names) ≡ None)
  where
    -- each index of the key has its column
    pub keyed-places : (i : ℕ) → i < count_by is_in_key (keyed columns names)
        → IsSome (key_place (keyed columns names) i)
    keyed-places i h =
        let new = are-new columns [] names accepted in
        let count = count-keyed columns names distinct accepted in
        ap is_some (key-place columns names i [] new.distinct (omega arith))
        ∙ found-at columns names i new.found (omega arith)

    -- the key's columns are the named ones, in order
    pub key_of-keyed : map Some (key_of (keyed columns names)) ≡ map (column_of columns) names
    key_of-keyed =
        let new = are-new columns [] names accepted in
        all-some (key_place (keyed columns names)) 0 (count_by is_in_key (keyed columns names))
        (λ j low high. keyed-places j (omega arith))
        ∙ ap (λ n. map (key_place (keyed columns names)) (range_with_len 0 n))
        (count-keyed columns names distinct accepted)
        ∙ map-range (key_place (keyed columns names)) (column_of columns) names 0
        (λ j k lt e. ap (key_place (keyed columns names)) (sym e ∙ omega arith)
        ∙ key-place columns names j [] new.distinct lt)

-- ---- the list of a key's columns

all-kept : (f : ℕ → Option ℕ) (at n : ℕ) → ((j : ℕ) → at < j + 1 → j < at + n → is_some (f j) ≡ true)
    → length (filter_map f (range_with_len at n)) ≡ n
all-kept f at zero h = refl
all-kept f at (suc n) h =
    by_first (f at) refl (all-kept f (at + 1) n (λ j low high. h j (omega arith) (omega arith))) where
      by_first : (o : Option ℕ) → f at ≡ o → length (filter_map f (range_with_len (at + 1) n)) ≡ n
          → length (filter_map f (range_with_len at (suc n))) ≡ suc n
      by_first None e rest = let some = sym (h at (omega arith) (omega arith)) ∙ ap is_some e in absurd (cc)
      by_first (Some x) e rest = rw e (omega (arith, rest))

-- its length is the number of columns in the key
pub length-key_of : (columns : List Column) → IsSchema columns → length (key_of columns) ≡ count_by is_in_key columns
length-key_of columns s =
    all-kept (key_place columns) 0 (count_by is_in_key columns) (λ j low high. s.keyed j (omega arith))

kept-at : (f : ℕ → Option ℕ) (at n j k : ℕ) → ((j : ℕ) → at < j + 1 → j < at + n → is_some (f j) ≡ true) → j < n
    → at + j ≡ k → slice_get (filter_map f (range_with_len at n)) j ≡ f k
kept-at f at zero j k h lt e = absurd (omega arith)
kept-at f at (suc n) zero k h lt e = by_first (f at) refl where
  by_first : (o : Option ℕ) → f at ≡ o → slice_get (filter_map f (range_with_len at (suc n))) zero ≡ f k
  by_first None f_at = let some = sym (h at (omega arith) (omega arith)) ∙ ap is_some f_at in absurd (cc)
  by_first (Some x) f_at = rw f_at (sym f_at ∙ ap f (omega arith))
kept-at f at (suc n) (suc j) k h lt e =
    by_first (f at) refl
    (kept-at f (at + 1) n j k (λ j low high. h j (omega arith) (omega arith)) (omega arith) (omega arith)) where
      by_first : (o : Option ℕ) → f at ≡ o → slice_get (filter_map f (range_with_len (at + 1) n)) j ≡ f k
          → slice_get (filter_map f (range_with_len at (suc n))) (suc j) ≡ f k
      by_first None f_at rest = let some = sym (h at (omega arith) (omega arith)) ∙ ap is_some f_at in absurd (cc)
      by_first (Some x) f_at rest = rw f_at rest

-- the column at an index of the key
pub slice_get-key_of : (columns : List Column) (i : ℕ) → IsSchema columns → i < length (key_of columns)
    → slice_get (key_of columns) i ≡ key_place columns i
slice_get-key_of columns i s h =
    kept-at (key_place columns) 0 (count_by is_in_key columns) i i (λ j low high. s.keyed j (omega arith))
    (omega (arith, length-key_of columns s)) (omega arith)

-- there is one
pub key_place-is : (columns : List Column) (i : ℕ) → IsSchema columns → i < length (key_of columns)
    → IsSome (key_place columns i)
key_place-is columns i s h = s.keyed i (omega (arith, length-key_of columns s))
