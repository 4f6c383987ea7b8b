-- Rows stored by column.
use Rattle.std.proofs.Common.{◌≡◌, ℕ, zero, suc, ◌+◌, ◌<◌, ◌≤◌, List, [], ◌∷◌, ◌++◌, length, length-append, length-take-le, map, set, take, take_at, get_or, refl, subst, ap, sym, ◌∙◌, arith}
use Rattle.std.specs.Prelude.{All, pos, slice_get, Some, None, OnErr, Result, Ok, Err}
use Rattle.std.proofs.lemmas.List.{get_or-map, get_or-take, length-map, take_more_set}
use Rattle.std.proofs.lemmas.List.Elements.{All-get_or, All-head, All-map, All-push, All-set, All-tail}
use Rattle.std.proofs.lemmas.Option.{get_or_from_slice_get}
use Rattle.std.proofs.Math.Seq.{map-set_same}
use Rattle.period_core.specs.declared.period.Period.{Period}
use Rattle.draft_core.specs.Columns.{AlikeRows, AreLong, Keep, kind_of_column, rows_by_column, values_at, values_of_column}
use Rattle.draft_core.specs.Lent.{no_draft}
use Rattle.draft_core.specs.declared.column_values.ColumnValues.{ColumnValues}
use Rattle.row_core.specs.declared.draft.Draft.{Draft}
use Rattle.row_core.specs.declared.value.Kind.{Kind}
use Rattle.row_core.specs.declared.value.Value.{Value}
use Rattle.row_core.specs.declared.value.Value.TheVariants.{Int}

-- the first `count` values of each column
abbrev first_values : ℕ → List ColumnValues → List (List Value)
first_values count columns = map (λ column. take count (values_of_column column)) columns

abbrev all_values : List ColumnValues → List (List Value)
all_values columns = map values_of_column columns

-- a row at an index below `count` depends only on the first `count` values of each column
values_at-first : (count place : ℕ) (columns : List ColumnValues) → place < count
    → values_at (all_values columns) place ≡ values_at (first_values count columns) place
values_at-first count place [] inside = refl
values_at-first count place (c ∷ cs) inside =
    ap (λ v. v ∷ values_at (all_values cs) place)
    (sym (get_or-take count (values_of_column c) place (Int (pos 0)) inside))
    ∙ ap (λ l. get_or (take count (values_of_column c)) place (Int (pos 0)) ∷ l) (values_at-first count place cs inside)

values_at-kept : (count place : ℕ) (old new : List ColumnValues) → first_values count new ≡ first_values count old
    → place < count → values_at (all_values new) place ≡ values_at (all_values old) place
values_at-kept count place old new same inside =
    values_at-first count place new inside ∙ ap (λ l. values_at l place) same
    ∙ sym (values_at-first count place old inside)

pub rows-kept : (count place : ℕ) (ps : List Period) (old new : List ColumnValues)
    → first_values count new ≡ first_values count old → place + length ps ≤ count
    → rows_by_column place ps (all_values new) ≡ rows_by_column place ps (all_values old)
rows-kept count place [] old new same within = refl
rows-kept count place (p ∷ ps) old new same within =
    let row : values_at (all_values new) place ≡ values_at (all_values old) place =
    values_at-kept count place old new same (omega (arith, within)) in
    ap (λ values. record { period = p; values = values } ∷ rows_by_column (suc place) ps (all_values new)) row
    ∙ ap (λ l. record { period = p; values = values_at (all_values old) place } ∷ l)
    (rows-kept count (suc place) ps old new same (omega (arith, within)))

pub length-rows : (place : ℕ) (ps : List Period) (columns : List (List Value))
    → length (rows_by_column place ps columns) ≡ length ps
length-rows place [] columns = refl
length-rows place (p ∷ ps) columns = ap suc (length-rows (suc place) ps columns)

pub get_or-rows : (place : ℕ) (ps : List Period) (columns : List (List Value)) (i : ℕ) (p : Period) (d : Draft)
    → i < length ps → get_or (rows_by_column place ps columns) i d
    ≡ record { period = get_or ps i p; values = values_at columns (place + i) }
get_or-rows place [] columns i p d inside = absurd (omega (arith, inside))
get_or-rows place (q ∷ qs) columns zero p d inside =
    let here : place ≡ place + 0 = omega arith in
    ap (λ n. record { period = q; values = values_at columns n }) here
get_or-rows place (q ∷ qs) columns (suc i) p d inside =
    let there : suc place + i ≡ place + suc i = omega arith in
    get_or-rows (suc place) qs columns i p d (omega (arith, inside))
    ∙ ap (λ n. record { period = get_or qs i p; values = values_at columns n }) there

rows-append : (place : ℕ) (ps qs : List Period) (columns : List (List Value))
    → rows_by_column place (ps ++ qs) columns
    ≡ rows_by_column place ps columns ++ rows_by_column (place + length ps) qs columns
rows-append place [] qs columns =
    let here : place ≡ place + 0 = omega arith in ap (λ n. rows_by_column n qs columns) here
rows-append place (p ∷ ps) qs columns =
    let there : suc place + length ps ≡ place + suc (length ps) = omega arith in
    ap (λ l. record { period = p; values = values_at columns place } ∷ l)
    (rows-append (suc place) ps qs columns
    ∙ ap (λ n. rows_by_column (suc place) ps columns ++ rows_by_column n qs columns) there)

-- one row more
pub rows-push : (ps : List Period) (p : Period) (old new : List ColumnValues) (values : List Value)
    → first_values (length ps) new ≡ first_values (length ps) old
    → values_at (all_values new) (length ps) ≡ values
    → rows_by_column 0 (ps ++ p ∷ []) (all_values new)
    ≡ rows_by_column 0 ps (all_values old) ++ record { period = p; values = values } ∷ []
rows-push ps p old new values same last =
    let within : 0 + length ps ≤ length ps = omega arith in
    let from : 0 + length ps ≡ length ps = omega arith in
    rows-append 0 ps (p ∷ []) (all_values new)
    ∙ ap (λ n. rows_by_column 0 ps (all_values new) ++ rows_by_column n (p ∷ []) (all_values new)) from
    ∙ ap (λ l. l ++ record { period = p; values = values_at (all_values new) (length ps) } ∷ [])
    (rows-kept (length ps) 0 ps old new same within)
    ∙ ap (λ v. rows_by_column 0 ps (all_values old) ++ record { period = p; values = v } ∷ []) last

-- rows whose values are `count` indexes later
rows-behind : (count place size : ℕ) (qs : List Period) (columns more : List (List Value))
    → ((i : ℕ) → i < size → values_at columns (count + i) ≡ values_at more i) → place + length qs ≤ size
    → rows_by_column (count + place) qs columns ≡ rows_by_column place qs more
rows-behind count place size [] columns more alike within = refl
rows-behind count place size (q ∷ qs) columns more alike within =
    let next : suc (count + place) ≡ count + suc place = omega arith in
    ap (λ v. record { period = q; values = v } ∷ rows_by_column (suc (count + place)) qs columns)
    (alike place (omega (arith, within)))
    ∙ ap (λ n. record { period = q; values = values_at more place } ∷ rows_by_column n qs columns) next
    ∙ ap (λ l. record { period = q; values = values_at more place } ∷ l)
    (rows-behind count (suc place) size qs columns more alike (omega (arith, within)))

pub rows-put_behind : (ps qs : List Period) (old new more : List ColumnValues)
    → first_values (length ps) new ≡ first_values (length ps) old
    → ((i : ℕ) → i < length qs → values_at (all_values new) (length ps + i) ≡ values_at (all_values more) i)
    → rows_by_column 0 (ps ++ qs) (all_values new)
    ≡ rows_by_column 0 ps (all_values old) ++ rows_by_column 0 qs (all_values more)
rows-put_behind ps qs old new more same behind =
    let within : 0 + length ps ≤ length ps = omega arith in
    let from : 0 + length ps ≡ length ps = omega arith in
    let here : length ps ≡ length ps + 0 = omega arith in
    rows-append 0 ps qs (all_values new)
    ∙ ap (λ n. rows_by_column 0 ps (all_values new) ++ rows_by_column n qs (all_values new)) from
    ∙ ap (λ l. l ++ rows_by_column (length ps) qs (all_values new)) (rows-kept (length ps) 0 ps old new same within)
    ∙ ap (λ n. rows_by_column 0 ps (all_values old) ++ rows_by_column n qs (all_values new)) here
    ∙ ap (λ l. rows_by_column 0 ps (all_values old) ++ l)
    (rows-behind (length ps) 0 (length qs) qs (all_values new) (all_values more) behind (omega arith))

-- columns' kinds and rows
abbrev pub alike : List Kind → List Draft → AlikeRows
alike kinds rows = record { kinds = kinds; rows = rows }

-- ---- single columns

long-at : (count : ℕ) (cs : List ColumnValues) (i : ℕ) (c : ColumnValues) → slice_get cs i ≡ Some c
    → AreLong count cs → count ≤ length (values_of_column c)
long-at count [] i c e long = absurd (cc)
long-at count (x ∷ xs) zero c e long =
    let same : x ≡ c = cc in
    subst (λ y. count ≤ length (values_of_column y)) same (All-head (λ y. count ≤ length (values_of_column y)) x xs long)
long-at count (x ∷ xs) (suc i) c e long =
    long-at count xs i c e (All-tail (λ y. count ≤ length (values_of_column y)) x xs long)

-- a row's value in a column
value-at : (place : ℕ) (cs : List ColumnValues) (i : ℕ) (c : ColumnValues) (v : Value) → slice_get cs i ≡ Some c
    → slice_get (values_of_column c) place ≡ Some v → slice_get (values_at (all_values cs) place) i ≡ Some v
value-at place [] i c v e there = absurd (cc)
value-at place (x ∷ xs) zero c v e there =
    let same : c ≡ x = cc in
    ap Some
    (get_or_from_slice_get (values_of_column x) place v (Int (pos 0))
    (ap (λ y. slice_get (values_of_column y) place) (sym same) ∙ there))
value-at place (x ∷ xs) (suc i) c v e there = value-at place xs i c v e there

no_value-at : (place : ℕ) (cs : List ColumnValues) (i : ℕ) → slice_get cs i ≡ None
    → slice_get (values_at (all_values cs) place) i ≡ None
no_value-at place [] i e = refl
no_value-at place (x ∷ xs) zero e = absurd (cc)
no_value-at place (x ∷ xs) (suc i) e = no_value-at place xs i e

-- the value in one column more
pub values_at-more : (place : ℕ) (cs : List ColumnValues) (c : ColumnValues) (v : Value)
    → slice_get (values_of_column c) place ≡ Some v
    → values_at (all_values (cs ++ c ∷ [])) place ≡ values_at (all_values cs) place ++ v ∷ []
values_at-more place [] c v there =
    ap (λ x. x ∷ []) (get_or_from_slice_get (values_of_column c) place v (Int (pos 0)) there)
values_at-more place (x ∷ xs) c v there =
    ap (λ l. get_or (values_of_column x) place (Int (pos 0)) ∷ l) (values_at-more place xs c v there)

-- a column is replaced by one with the same first values
pub kept-set : (count i : ℕ) (old cs : List ColumnValues) (c d : ColumnValues) → Keep count old cs
    → kind_of_column c ≡ kind_of_column (get_or cs i d)
    → take count (values_of_column c) ≡ take count (values_of_column (get_or cs i d)) → Keep count old (set cs i c)
kept-set count i old cs c d kept kind first = (
  map-set_same kind_of_column cs i c d kind ∙ kept.0,
  map-set_same (λ column. take count (values_of_column column)) cs i c d first ∙ kept.1,
)

pub long-set : (count i : ℕ) (cs : List ColumnValues) (c : ColumnValues) → AreLong count cs
    → count ≤ length (values_of_column c) → AreLong count (set cs i c)
long-set count i cs c long fits = All-set (λ column. count ≤ length (values_of_column column)) cs i c fits long

-- the first values of a column, followed by others
pub first-more : (count : ℕ) (old new more : List Value) → count ≤ length old → new ≡ take count old ++ more
    → (take count new ≡ take count old) × (length new ≡ count + length more)
first-more count old new more long is =
    let size = length-take-le count old long in (
      ap (take count) is ∙ take_at (take count old) more count size,
      ap length is ∙ length-append (take count old) more ∙ ap (λ n. n + length more) size,
    )

-- the values of a row, from the columns
pub values-in_row : (ps : List Period) (cs : List ColumnValues) (a : AlikeRows) (place : ℕ)
    → alike (map kind_of_column cs) (rows_by_column 0 ps (all_values cs)) ≡ a → place < length a.rows
    → (get_or a.rows place no_draft).values ≡ values_at (all_values cs) place
values-in_row ps cs a place is inside =
    let rows = rows_by_column 0 ps (all_values cs) in
    let sizes : length rows ≡ length a.rows = ap (λ (b : AlikeRows). length b.rows) is in
    let within : place < length ps = omega (arith, inside, sizes, length-rows 0 ps (all_values cs)) in
    let here : 0 + place ≡ place = omega arith in
    ap (λ (b : AlikeRows). (get_or b.rows place no_draft).values) (sym is)
    ∙ ap (λ (d : Draft). d.values) (get_or-rows 0 ps (all_values cs) place no_draft.period no_draft within)
    ∙ ap (values_at (all_values cs)) here

-- a row's value in one of its columns
pub place-in_column : (ps : List Period) (cs : List ColumnValues) (a : AlikeRows) (place i : ℕ) (c : ColumnValues)
    → alike (map kind_of_column cs) (rows_by_column 0 ps (all_values cs)) ≡ a → place < length a.rows
    → AreLong (length ps) cs → slice_get cs i ≡ Some c → place < length (values_of_column c)
place-in_column ps cs a place i c is inside long there =
    let sizes : length (rows_by_column 0 ps (all_values cs)) ≡ length a.rows =
    ap (λ (b : AlikeRows). length b.rows) is in
    omega (arith, inside, sizes, length-rows 0 ps (all_values cs), long-at (length ps) cs i c there long)

pub value-in_column : (ps : List Period) (cs : List ColumnValues) (a : AlikeRows) (place i : ℕ) (c : ColumnValues)
    (v : Value) → alike (map kind_of_column cs) (rows_by_column 0 ps (all_values cs)) ≡ a → place < length a.rows
    → slice_get cs i ≡ Some c → slice_get (values_of_column c) place ≡ Some v
    → Some v ≡ slice_get (get_or a.rows place no_draft).values i
value-in_column ps cs a place i c v is inside there at =
    sym (ap (λ l. slice_get l i) (values-in_row ps cs a place is inside) ∙ value-at place cs i c v there at)

pub no_value-in_column : (ps : List Period) (cs : List ColumnValues) (a : AlikeRows) (place i : ℕ)
    → alike (map kind_of_column cs) (rows_by_column 0 ps (all_values cs)) ≡ a → place < length a.rows
    → slice_get cs i ≡ None → None ≡ slice_get (get_or a.rows place no_draft).values i
no_value-in_column ps cs a place i is inside none =
    sym (ap (λ l. slice_get l i) (values-in_row ps cs a place is inside) ∙ no_value-at place cs i none)

-- ---- each column in turn is replaced by one with more values after the first

pub step-kept : (count i : ℕ) (old cs : List ColumnValues) (c now : ColumnValues) (more : List Value)
    → Keep count old cs → AreLong count cs → i < length cs → now ≡ get_or cs i now
    → kind_of_column c ≡ kind_of_column now → values_of_column c ≡ take count (values_of_column now) ++ more
    → Keep count old (set cs i c) × AreLong count (set cs i c)
step-kept count i old cs c now more kept long inside at kind is =
    let size : count ≤ length (values_of_column now) =
    subst (λ x. count ≤ length (values_of_column x)) (sym at)
    (All-get_or (λ x. count ≤ length (values_of_column x)) cs i now inside long) in
    let (first, all) = first-more count (values_of_column now) (values_of_column c) more size is in
    let fits : count ≤ length (values_of_column c) = omega (arith, all) in (
      kept-set count i old cs c now kept (kind ∙ ap kind_of_column at)
          (first ∙ ap (λ x. take count (values_of_column x)) at),
      long-set count i cs c long fits,
    )

pub step-longer : (count i : ℕ) (cs : List ColumnValues) (c now : ColumnValues) (more : List Value) → AreLong count cs
    → i < length cs → now ≡ get_or cs i now → values_of_column c ≡ take count (values_of_column now) ++ more
    → AreLong (count + length more) (take i cs) → AreLong (count + length more) (take (i + 1) (set cs i c))
step-longer count i cs c now more long inside at is longer =
    let size : count ≤ length (values_of_column now) =
    subst (λ x. count ≤ length (values_of_column x)) (sym at)
    (All-get_or (λ x. count ≤ length (values_of_column x)) cs i now inside long) in
    let all = (first-more count (values_of_column now) (values_of_column c) more size is).1 in
    let fits : count + length more ≤ length (values_of_column c) = omega (arith, all) in
    subst (AreLong (count + length more)) (sym (take_more_set cs i c inside))
    (All-push (λ x. count + length more ≤ length (values_of_column x)) (take i cs) c longer fits)

pub step-values : (count i j : ℕ) (cs : List ColumnValues) (c now : ColumnValues) (more : List Value) (v : Value)
    → AreLong count cs → i < length cs → now ≡ get_or cs i now
    → values_of_column c ≡ take count (values_of_column now) ++ more → slice_get more j ≡ Some v
    → values_at (all_values (take (i + 1) (set cs i c))) (count + j)
    ≡ values_at (all_values (take i cs)) (count + j) ++ v ∷ []
step-values count i j cs c now more v long inside at is there =
    let size : count ≤ length (values_of_column now) =
    subst (λ x. count ≤ length (values_of_column x)) (sym at)
    (All-get_or (λ x. count ≤ length (values_of_column x)) cs i now inside long) in
    ap (λ l. values_at (all_values l) (count + j)) (take_more_set cs i c inside)
    ∙ values_at-more (count + j) (take i cs) c v
    (ap (λ l. slice_get l (count + j)) is
    ∙ past (take count (values_of_column now)) count (length-take-le count (values_of_column now) size)) where
      past : (xs : List Value) (n : ℕ) → length xs ≡ n → slice_get (xs ++ more) (n + j) ≡ Some v
      past [] zero e = let none : 0 + j ≡ j = omega arith in ap (slice_get more) none ∙ there
      past [] (suc n) e = absurd (cc)
      past (x ∷ xs) zero e = absurd (cc)
      past (x ∷ xs) (suc n) e =
          let one : suc n + j ≡ suc (n + j) = omega arith in
          ap (slice_get (x ∷ (xs ++ more))) one ∙ past xs n (omega (arith, e))

-- ---- rows of columns that kept their first values

pub view-kept : (ps qs : List Period) (old new : List ColumnValues) (count : ℕ) → qs ≡ ps → count ≡ length ps
    → Keep count old new
    → alike (map kind_of_column new) (rows_by_column 0 qs (all_values new))
    ≡ alike (map kind_of_column old) (rows_by_column 0 ps (all_values old))
view-kept ps qs old new count same size keep =
    let kept = subst (λ n. Keep n old new) size keep in
    let within : 0 + length ps ≤ length ps = omega arith in
    ap (λ l. alike (map kind_of_column new) (rows_by_column 0 l (all_values new))) same
    ∙ ap (λ kinds. alike kinds (rows_by_column 0 ps (all_values new))) kept.0
    ∙ ap (alike (map kind_of_column old)) (rows-kept (length ps) 0 ps old new kept.1 within)

pub view-push : (ps qs : List Period) (p : Period) (old new : List ColumnValues) (values : List Value) (count : ℕ)
    → qs ≡ ps ++ p ∷ [] → count ≡ length ps → Keep count old new → values_at (all_values new) count ≡ values
    → alike (map kind_of_column new) (rows_by_column 0 qs (all_values new))
    ≡ alike (map kind_of_column old)
    (rows_by_column 0 ps (all_values old) ++ record { period = p; values = values } ∷ [])
view-push ps qs p old new values count grown size keep at =
    let kept = subst (λ n. Keep n old new) size keep in
    let last = subst (λ n. values_at (all_values new) n ≡ values) size at in
    ap (λ l. alike (map kind_of_column new) (rows_by_column 0 l (all_values new))) grown
    ∙ ap (λ kinds. alike kinds (rows_by_column 0 (ps ++ p ∷ []) (all_values new))) kept.0
    ∙ ap (alike (map kind_of_column old)) (rows-push ps p old new values kept.1 last)

pub view-append : (ps qs all : List Period) (old new more : List ColumnValues) (count more_count : ℕ)
    → all ≡ ps ++ qs → count ≡ length ps → more_count ≡ length qs → Keep count old new
    → ((i : ℕ) → i < more_count → values_at (all_values new) (count + i) ≡ values_at (all_values more) i)
    → alike (map kind_of_column new) (rows_by_column 0 all (all_values new))
    ≡ alike (map kind_of_column old)
    (rows_by_column 0 ps (all_values old) ++ rows_by_column 0 qs (all_values more))
view-append ps qs all old new more count more_count grown size more_size keep at =
    let kept = subst (λ n. Keep n old new) size keep in
    let behind : (i : ℕ) → i < length qs → values_at (all_values new) (length ps + i) ≡ values_at (all_values more) i =
    λ i before.
    ap (λ n. values_at (all_values new) (n + i)) (sym size) ∙ at i (subst (λ n. i < n) (sym more_size) before) in
    ap (λ l. alike (map kind_of_column new) (rows_by_column 0 l (all_values new))) grown
    ∙ ap (λ kinds. alike kinds (rows_by_column 0 (ps ++ qs) (all_values new))) kept.0
    ∙ ap (alike (map kind_of_column old)) (rows-put_behind ps qs old new more kept.1 behind)

-- ---- two lists with the same kinds

module _ {X Y : Type 0} (f : X → Kind) (g : Y → Kind) where
  pub inside-both : (xs : List X) (ys : List Y) (i : ℕ) → map f xs ≡ map g ys → i < length xs → i < length ys
  inside-both xs ys i same inside = omega (arith, inside, ap length same, length-map xs f, length-map ys g)

  pub same_at : (xs : List X) (ys : List Y) (i : ℕ) (x : X) (y : Y) → map f xs ≡ map g ys → i < length xs
      → x ≡ get_or xs i x → y ≡ get_or ys i y → f x ≡ g y
  same_at xs ys i x y same inside at_x at_y =
      ap f at_x ∙ sym (get_or-map f xs i x (f x) inside) ∙ ap (λ l. get_or l i (f x)) same
      ∙ get_or-map g ys i y (f x) (inside-both xs ys i same inside) ∙ ap g (sym at_y)

  pub same_at_any : (xs : List X) (ys : List Y) (i : ℕ) (d : X) (y : Y) → map f xs ≡ map g ys → i < length xs
      → y ≡ get_or ys i y → f (get_or xs i d) ≡ g y
  same_at_any xs ys i d y same inside at =
      sym (get_or-map f xs i d (f d) inside) ∙ ap (λ l. get_or l i (f d)) same
      ∙ get_or-map g ys i y (f d) (inside-both xs ys i same inside) ∙ ap g (sym at)

-- a fact holds on an error too
pub on_err : {T E P : Type 0} (r : Result T E) → P → OnErr r P
on_err (Ok value) p = tt
on_err (Err error) p = p

-- columns with the same values have the same lengths
pub long-same : (count : ℕ) (old new : List ColumnValues) → all_values new ≡ all_values old → AreLong count old
    → AreLong count new
long-same count old new same long =
    let all = subst (All (λ values. count ≤ length values)) (sym same)
    (All-map (λ values. count ≤ length values) values_of_column old long) in
    λ k d inside.
    subst (λ values. count ≤ length values) (get_or-map values_of_column new k d (values_of_column d) inside)
    (all k (values_of_column d) (omega (arith, inside, length-map new values_of_column)))

-- the next element of a list during a loop
pub next-there : {X : Type 0} (all done rest next : List X) (x : X) (place : ℕ) → all ≡ done ++ rest → rest ≡ x ∷ next
    → place ≡ length done → (x ≡ get_or all place x) × (place < length all)
next-there {X = X} all done rest next x place whole more at =
    let is : all ≡ done ++ x ∷ next = whole ∙ ap (λ l. done ++ l) more in (
      sym (ap (λ l. get_or l place x) is ∙ ap (λ n. get_or (done ++ x ∷ next) n x) at ∙ seam done),
      omega (arith, at, ap length is, length-append done (x ∷ next)),
    ) where
      seam : (xs : List X) → get_or (xs ++ x ∷ next) (length xs) x ≡ x
      seam [] = refl
      seam (y ∷ ys) = seam ys
