-- Rows that are partitioned into lots, and lists filtered by a test.
use Rattle.std.proofs.Common.{◌≡◌, ◌==◌, ◌⊎◌, ◌<◌, ℕ, Bool, true, false, cond, List, [], ◌∷◌, map, All, Option, inl, inr, refl, sym, ap, subst, ◌∙◌, arith}
use Rattle.std.specs.Prelude.{filter, Contains}
use Rattle.std.specs.List.{list_any}
use Rattle.std.proofs.lemmas.Bool.Decides.{Decides-eqb}
use Rattle.std.proofs.lemmas.List.Elements.{All-cons, All-contains, All-contains_itself, All-filter, All-head, All-nil, All-tail, filter_passes}
use Rattle.std.proofs.lemmas.List.Folds.{Any-from_list_any, list_any-from_Any}
use Rattle.std.proofs.lemmas.List.Kept.{AllPairs-filter}
use Rattle.row_core.specs.Name.{NamePair}
use Rattle.row_core.specs.Rows.{RowsRise}
use Rattle.row_core.specs.declared.row.Row.{Row}
use Rattle.row_core.specs.declared.value.Value.{Value}
use Rattle.list_core.specs.Wanted.{IsListOf}
use Rattle.list_core.proofs.RisingLemmas.{Contains-head, Contains-cons, Contains-cons_cases, Contains-none}
use Rattle.list_core.proofs.WantedLemmas.{AllPairs-cases}
use Rattle.match_core.specs.Columns.{value_under}
use Rattle.match_core.specs.Lots.{RowsMatchByValues, ValuesSendTogether, has_id, rows_sent}
use Rattle.match_core.proofs.RowItems.{ids_rise}

-- lists with equal heads and equal tails are equal
pub cons-same : {X : Type 0} (x y : X) (xs ys : List X) → x ≡ y → xs ≡ ys → x ∷ xs ≡ y ∷ ys
cons-same x y xs ys e f = λ i. e i ∷ f i

-- ---- filtered lists

-- an element that is kept was in the list
pub kept_in : {X : Type 0} (test : X → Bool) (xs : List X) (x : X) → Contains (filter test xs) x → Contains xs x
kept_in test xs x h =
    All-contains (Contains xs) (filter test xs) x (All-filter test (Contains xs) xs (All-contains_itself xs)) h

-- it passes the test
pub kept_passes : {X : Type 0} (test : X → Bool) (xs : List X) (x : X) → Contains (filter test xs) x → test x ≡ true
kept_passes test xs x h = All-contains (λ y. test y ≡ true) (filter test xs) x (filter_passes test xs) h

-- an element of the list that passes the test is kept
pub Contains-filter : {X : Type 0} (test : X → Bool) (xs : List X) (x : X) → Contains xs x → test x ≡ true
    → Contains (filter test xs) x
Contains-filter test [] x h passes = absurd (Contains-none x h)
Contains-filter test (y ∷ ys) x h passes =
    by_first (test y) refl (λ later. Contains-filter test ys x later passes) (Contains-cons_cases y ys x h)
  where
    by_first : (b : Bool) → test y ≡ b → (Contains ys x → Contains (filter test ys) x) → (y ≡ x) ⊎ Contains ys x
        → Contains (cond b (y ∷ filter test ys) (filter test ys)) x
    by_first true e rest (inl same) = subst (Contains (y ∷ filter test ys)) same (Contains-head y (filter test ys))
    by_first true e rest (inr later) = Contains-cons y (filter test ys) x (rest later)
    by_first false e rest (inl same) =
        absurd (let bad : true ≡ false = sym passes ∙ sym (ap test same) ∙ e in cc)
    by_first false e rest (inr later) = rest later

-- filtering a complete list gives the complete list of what passes the test
pub IsListOf-filter : {X : Type 0} (Before : X → X → Type 0) (Wanted Kept : X → Type 0) (test : X → Bool) (xs : List X)
    → IsListOf Before Wanted xs → ((x : X) → Kept x → Wanted x × (test x ≡ true))
    → ((x : X) → Wanted x → test x ≡ true → Kept x) → IsListOf Before Kept (filter test xs)
IsListOf-filter Before Wanted Kept test xs is from to =
    record {
      ordered = AllPairs-filter Before test xs is.ordered;
      exactly = λ x. (
        λ h. to x ((is.exactly x).0 (kept_in test xs x h)) (kept_passes test xs x h),
        λ k. let w = from x k in Contains-filter test xs x ((is.exactly x).1 w.0) w.1,
      );
    }

-- an element that passes the test is found
pub list_any-contains : {X : Type 0} (test : X → Bool) (xs : List X) (x : X) → Contains xs x → test x ≡ true
    → list_any test xs ≡ true
list_any-contains test xs x (k, inside, at) passes = list_any-from_Any test xs (k, x, inside, at, passes)

-- an element that is found is in the list and passes
pub contained-list_any : {X : Type 0} (test : X → Bool) (xs : List X) → list_any test xs ≡ true
    → (x : X) × Contains xs x × (test x ≡ true)
contained-list_any test xs known =
    let (k, x, inside, at, passes) = Any-from_list_any test xs known in (x, (k, inside, at), passes)

-- ---- the rows of a lot

-- a row that goes to a lot is one of the rows
pub sent-in : (lot_of : Row → ℕ) (lot : ℕ) (rows : List Row) (row : Row) → Contains (rows_sent lot_of lot rows) row
    → Contains rows row
sent-in lot_of lot rows row h = kept_in (λ (r : Row). lot_of r == lot) rows row h

-- its lot is that one
pub sent-to : (lot_of : Row → ℕ) (lot : ℕ) (rows : List Row) (row : Row) → Contains (rows_sent lot_of lot rows) row
    → lot_of row ≡ lot
sent-to lot_of lot rows row h =
    (Decides-eqb (lot_of row) lot).0 (kept_passes (λ (r : Row). lot_of r == lot) rows row h)

-- a row goes to its lot
pub sent-there : (lot_of : Row → ℕ) (lot : ℕ) (rows : List Row) (row : Row) → Contains rows row → lot_of row ≡ lot
    → Contains (rows_sent lot_of lot rows) row
sent-there lot_of lot rows row h e =
    Contains-filter (λ (r : Row). lot_of r == lot) rows row h ((Decides-eqb (lot_of row) lot).1 e)

-- ---- rows by id

-- the id of a row is found
pub has_id-there : (rows : List Row) (row : Row) (id : ℕ) → Contains rows row → row.id ≡ id → has_id rows id ≡ true
has_id-there rows row id h e =
    list_any-contains (λ (r : Row). r.id == id) rows row h ((Decides-eqb row.id id).1 e)

-- an id that is found belongs to a row
pub row_of_id : (rows : List Row) (id : ℕ) → has_id rows id ≡ true → (row : Row) × Contains rows row × (row.id ≡ id)
row_of_id rows id known =
    let (row, h, passes) = contained-list_any (λ (r : Row). r.id == id) rows known in
    (row, h, (Decides-eqb row.id id).0 passes)

-- in rows by ascending id, rows with the same id are the same row
pub row_once : (rows : List Row) → RowsRise rows → (x y : Row) → Contains rows x → Contains rows y → x.id ≡ y.id → x ≡ y
row_once rows rise x y h k e =
    elim (AllPairs-cases (λ (a b : Row). a.id < b.id) rows x y (ids_rise rows rise) h k) [
      | inl same ↦ same
      | inr before ↦ absurd (elim before [ inl less ↦ omega (arith, less, e) | inr less ↦ omega (arith, less, e) ])
    ]

-- ---- matching rows

-- two functions agree on each element of a list exactly if their lists of results are equal
maps_agree : {X Y : Type 0} (f g : X → Y) (xs : List X) → All (λ x. f x ≡ g x) xs → map f xs ≡ map g xs
maps_agree f g [] all = refl
maps_agree f g (x ∷ xs) all =
    let first : f x ≡ g x = All-head (λ x. f x ≡ g x) x xs all in
    let rest : map f xs ≡ map g xs = maps_agree f g xs (All-tail (λ x. f x ≡ g x) x xs all) in
    cons-same (f x) (g x) (map f xs) (map g xs) first rest

agree_by_maps : {X Y : Type 0} (f g : X → Y) (xs : List X) → map f xs ≡ map g xs → All (λ x. f x ≡ g x) xs
agree_by_maps f g [] e = All-nil (λ x. f x ≡ g x)
agree_by_maps f g (x ∷ xs) e =
    let first : f x ≡ g x = cc in
    let rest : map f xs ≡ map g xs = cc in
    All-cons (λ x. f x ≡ g x) x xs first (agree_by_maps f g xs rest)

-- rows match exactly if their compared values are equal
pub rows_match_by_values : RowsMatchByValues
rows_match_by_values left_columns right_columns on x y =
    let f : NamePair → Option Value = λ names. value_under left_columns names.0 x in
    let g : NamePair → Option Value = λ names. value_under right_columns names.1 y in
    (maps_agree f g on, agree_by_maps f g on)

-- so a function of these values sends matching rows to the same lot
pub values_send_together : ValuesSendTogether
values_send_together left_columns right_columns on hash left right x y x_in y_in matches =
    ap hash ((rows_match_by_values left_columns right_columns on x y).0 matches)
