-- Rows at some indexes of a list.
use Rattle.std.proofs.Common.{◌≡◌, ℕ, ◌+◌, ◌<◌, List, [], ◌∷◌, ◌++◌, All, Bool, true, false, cond, Some, length, take, zero, suc, refl, ap, subst, sym, ◌∙◌, arith}
use Rattle.std.specs.Prelude.{filter, slice_get}
use Rattle.std.specs.List.{cons_option}
use Rattle.std.proofs.lemmas.List.{append-nil}
use Rattle.std.proofs.lemmas.List.Elements.{All-head, All-tail, filter-append, filter_map-append}
use Rattle.row_core.specs.declared.row.Row.{Row}
use Rattle.table_core.specs.Places.{at_places}

-- an index below the length has a row
there : {X : Type 0} (xs : List X) (i : ℕ) → i < length xs → (x : X) × (slice_get xs i ≡ Some x)
there [] i inside = absurd (omega (arith, inside))
there (x ∷ xs) zero inside = (x, refl)
there (x ∷ xs) (suc i) inside = there xs i (omega (arith, inside))

-- the first index's row comes before the rows of the others
at_places-first : (place : ℕ) (places : List ℕ) (rows : List Row) (row : Row) → slice_get rows place ≡ Some row
    → at_places (place ∷ places) rows ≡ row ∷ at_places places rows
at_places-first place places rows row e = ap (λ o. cons_option o (at_places places rows)) e

-- there is a row for each index
pub length-at_places : (places : List ℕ) (rows : List Row) → All (λ place. place < length rows) places
    → length (at_places places rows) ≡ length places
length-at_places [] rows within = refl
length-at_places (p ∷ ps) rows within =
    let (row, e) = there rows p (All-head (λ place. place < length rows) p ps within) in
    ap length (at_places-first p ps rows row e)
    ∙ ap suc (length-at_places ps rows (All-tail (λ place. place < length rows) p ps within))

-- the row at one of the indexes
pub slice_get-at_places : (places : List ℕ) (rows : List Row) (i place : ℕ)
    → All (λ place. place < length rows) places → slice_get places i ≡ Some place
    → slice_get rows place ≡ slice_get (at_places places rows) i
slice_get-at_places [] rows i place within e = absurd (cc)
slice_get-at_places (p ∷ ps) rows zero place within e =
    let (row, f) = there rows p (All-head (λ place. place < length rows) p ps within) in
    let same : p ≡ place = cc in
    ap (slice_get rows) (sym same) ∙ f ∙ ap (λ l. slice_get l zero) (sym (at_places-first p ps rows row f))
slice_get-at_places (p ∷ ps) rows (suc i) place within e =
    let (row, f) = there rows p (All-head (λ place. place < length rows) p ps within) in
    slice_get-at_places ps rows i place (All-tail (λ place. place < length rows) p ps within) e
    ∙ ap (λ l. slice_get l (suc i)) (sym (at_places-first p ps rows row f))

-- one of the indexes is below the length
pub place-within : (places : List ℕ) (rows : List Row) (i place : ℕ) → All (λ place. place < length rows) places
    → slice_get places i ≡ Some place → place < length rows
place-within [] rows i place within e = absurd (cc)
place-within (p ∷ ps) rows zero place within e =
    let same : p ≡ place = cc in
    subst (λ k. k < length rows) same (All-head (λ place. place < length rows) p ps within)
place-within (p ∷ ps) rows (suc i) place within e =
    place-within ps rows i place (All-tail (λ place. place < length rows) p ps within) e

-- one index more
pub at_places-more : (places : List ℕ) (rows : List Row) (place : ℕ) (row : Row) → slice_get rows place ≡ Some row
    → at_places (places ++ place ∷ []) rows ≡ at_places places rows ++ row ∷ []
at_places-more places rows place row e =
    filter_map-append (slice_get rows) places (place ∷ []) ∙ ap (λ o. at_places places rows ++ cons_option o []) e

-- one row more of a list
pub take-one_more : {X : Type 0} (xs : List X) (i : ℕ) (x : X) → slice_get xs i ≡ Some x
    → take i xs ++ x ∷ [] ≡ take (i + 1) xs
take-one_more [] i x e = absurd (cc)
take-one_more (y ∷ ys) zero x e = let same : y ≡ x = cc in ap (λ z. z ∷ []) (sym same)
take-one_more (y ∷ ys) (suc i) x e =
    let more : suc (i + 1) ≡ suc i + 1 = omega arith in
    ap (λ l. y ∷ l) (take-one_more ys i x e) ∙ ap (λ n. take n (y ∷ ys)) more

-- the filtered list with a row that passes
pub filter-more : (test : Row → Bool) (rows : List Row) (i : ℕ) (row : Row) → slice_get rows i ≡ Some row
    → test row ≡ true → filter test (take i rows) ++ row ∷ [] ≡ filter test (take (i + 1) rows)
filter-more test rows i row e t =
    ap (λ b. filter test (take i rows) ++ cond b (row ∷ []) []) (sym t)
    ∙ sym (filter-append test (take i rows) (row ∷ []))
    ∙ ap (filter test) (take-one_more rows i row e)

-- the filtered list with a row that doesn't
pub filter-same : (test : Row → Bool) (rows : List Row) (i : ℕ) (row : Row) → slice_get rows i ≡ Some row
    → test row ≡ false → filter test (take i rows) ≡ filter test (take (i + 1) rows)
filter-same test rows i row e t =
    sym (append-nil (filter test (take i rows)))
    ∙ ap (λ b. filter test (take i rows) ++ cond b (row ∷ []) []) (sym t)
    ∙ sym (filter-append test (take i rows) (row ∷ []))
    ∙ ap (filter test) (take-one_more rows i row e)
