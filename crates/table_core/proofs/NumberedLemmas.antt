-- Rows numbered in order.
use Rattle.std.proofs.Common.{◌≡◌, ℕ, ◌+◌, ◌<◌, List, [], ◌∷◌, ◌++◌, Some, length, get_or, zero, suc, refl, ap, sym, ◌∙◌, arith}
use Rattle.std.specs.Prelude.{slice_get}
use Rattle.row_core.specs.declared.draft.Draft.{Draft}
use Rattle.table_core.specs.Numbered.{numbered, row_of, with_ids}

pub length-numbered : (used : ℕ) (ds : List Draft) → length (numbered used ds) ≡ length ds
length-numbered used [] = refl
length-numbered used (d ∷ ds) = ap suc (length-numbered (used + 1) ds)

-- the ids of more drafts follow those before
pub numbered-append : (used : ℕ) (ds es : List Draft)
    → numbered used (ds ++ es) ≡ numbered used ds ++ numbered (used + length ds) es
numbered-append used [] es = let none : used ≡ used + 0 = omega arith in ap (λ n. numbered n es) none
numbered-append used (d ∷ ds) es =
    let rest : used + 1 + length ds ≡ used + suc (length ds) = omega arith in
    ap (λ rows. row_of (used + 1) d ∷ rows)
    (numbered-append (used + 1) ds es ∙ ap (λ n. numbered (used + 1) ds ++ numbered n es) rest)

-- the row of the draft at an index
pub slice_get-numbered : (used : ℕ) (ds : List Draft) (i : ℕ) (d : Draft) → slice_get ds i ≡ Some d
    → slice_get (numbered used ds) i ≡ Some (row_of (used + i + 1) d)
slice_get-numbered used [] i d e = absurd (cc)
slice_get-numbered used (x ∷ xs) zero d e =
    let none : used + 1 ≡ used + 0 + 1 = omega arith in
    let same : x ≡ d = cc in
    ap (λ y. Some (row_of (used + 1) y)) same ∙ ap (λ n. Some (row_of n d)) none
slice_get-numbered used (x ∷ xs) (suc i) d e =
    let rest : used + 1 + i + 1 ≡ used + suc i + 1 = omega arith in
    slice_get-numbered (used + 1) xs i d e ∙ ap (λ n. Some (row_of n d)) rest

pub length-with_ids : (ids : List ℕ) (ds : List Draft) → length ids ≡ length ds → length (with_ids ids ds) ≡ length ids
length-with_ids [] ds same = refl
length-with_ids (i ∷ is) [] same = absurd (omega (arith, same))
length-with_ids (i ∷ is) (d ∷ ds) same = ap suc (length-with_ids is ds (omega (arith, same)))

-- one row more
pub with_ids-push : (ids : List ℕ) (ds : List Draft) (id : ℕ) (d : Draft) → length ids ≡ length ds
    → with_ids (ids ++ id ∷ []) (ds ++ d ∷ []) ≡ with_ids ids ds ++ row_of id d ∷ []
with_ids-push [] [] id d same = refl
with_ids-push [] (x ∷ xs) id d same = absurd (omega (arith, same))
with_ids-push (i ∷ is) [] id d same = absurd (omega (arith, same))
with_ids-push (i ∷ is) (x ∷ xs) id d same = ap (λ rows. row_of i x ∷ rows) (with_ids-push is xs id d (omega (arith, same)))

-- one of the rows
pub slice_get-with_ids : (ids : List ℕ) (ds : List Draft) (i id : ℕ) (d : Draft) → i < length ids → id ≡ get_or ids i id
    → slice_get ds i ≡ Some d → slice_get (with_ids ids ds) i ≡ Some (row_of id d)
slice_get-with_ids [] ds i id d inside e f = absurd (omega (arith, inside))
slice_get-with_ids (x ∷ xs) [] i id d inside e f = absurd (cc)
slice_get-with_ids (x ∷ xs) (y ∷ ys) zero id d inside e f =
    let same : y ≡ d = cc in
    ap (λ n. Some (row_of n y)) (sym e) ∙ ap (λ z. Some (row_of id z)) same
slice_get-with_ids (x ∷ xs) (y ∷ ys) (suc i) id d inside e f =
    slice_get-with_ids xs ys i id d (omega (arith, inside)) e f
