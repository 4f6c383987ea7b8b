-- The element at an index of a list, and facts about each element.
use Rattle.std.proofs.Common.{◌≡◌, ℕ, zero, suc, ◌+◌, ◌<◌, List, [], ◌∷◌, ◌++◌, length, take, drop, get_or, All, Some, refl, subst, ap, ◌∙◌, arith, length-append}
use Rattle.std.specs.List.{slice_get}
use Rattle.std.proofs.lemmas.List.{get_or_append_left}
use Rattle.std.proofs.lemmas.List.Elements.{All-tail}

-- ---- concatenated lists

-- an index within the first list finds its element there
pub slice_get-before : {X : Type 0} (xs ys : List X) (i : ℕ) → i < length xs → slice_get (xs ++ ys) i ≡ slice_get xs i
slice_get-before [] ys i h = absurd (omega arith)
slice_get-before (x ∷ xs) ys zero h = refl
slice_get-before (x ∷ xs) ys (suc i) h = slice_get-before xs ys i (omega arith)

-- an element keeps its index if more elements follow
pub slice_get-append_left : {X : Type 0} (xs ys : List X) (i : ℕ) (x : X) → slice_get xs i ≡ Some x
    → slice_get (xs ++ ys) i ≡ Some x
slice_get-append_left [] ys i x h = cc
slice_get-append_left (y ∷ xs) ys zero x h = h
slice_get-append_left (y ∷ xs) ys (suc i) x h = slice_get-append_left xs ys i x h

-- an index past the first list finds its element in the second
pub slice_get-append_right : {X : Type 0} (xs ys : List X) (i : ℕ)
    → slice_get (xs ++ ys) (length xs + i) ≡ slice_get ys i
slice_get-append_right [] ys i = let e : 0 + i ≡ i = omega arith in ap (slice_get ys) e
slice_get-append_right (x ∷ xs) ys i =
    let e : length (x ∷ xs) + i ≡ suc (length xs + i) = omega arith in
    ap (slice_get (x ∷ (xs ++ ys))) e ∙ slice_get-append_right xs ys i

-- the first element after the first list
pub slice_get-seam : {X : Type 0} (xs : List X) (x : X) (ys : List X) → slice_get (xs ++ x ∷ ys) (length xs) ≡ Some x
slice_get-seam [] x ys = refl
slice_get-seam (z ∷ xs) x ys = slice_get-seam xs x ys

-- ---- parts of a list

-- an index after the first `m` elements are dropped
pub slice_get-drop : {X : Type 0} (m : ℕ) (xs : List X) (i : ℕ) → slice_get (drop m xs) i ≡ slice_get xs (m + i)
slice_get-drop zero xs i = let e : 0 + i ≡ i = omega arith in rw e refl
slice_get-drop (suc m) [] i = refl
slice_get-drop (suc m) (x ∷ xs) i = let e : suc m + i ≡ suc (m + i) = omega arith in rw e (slice_get-drop m xs i)

-- an index among the first `n` elements
pub slice_get-take : {X : Type 0} (n : ℕ) (xs : List X) (i : ℕ) → i < n → slice_get (take n xs) i ≡ slice_get xs i
slice_get-take zero xs i lt = absurd (omega arith)
slice_get-take (suc n) [] i lt = refl
slice_get-take (suc n) (x ∷ xs) zero lt = refl
slice_get-take (suc n) (x ∷ xs) (suc i) lt = slice_get-take n xs i (omega arith)

-- ---- facts about each element

-- a fact about all elements holds for the first list
pub All-front : {X : Type 0} (P : X → Type 0) (xs ys : List X) → All P (xs ++ ys) → All P xs
All-front P xs ys all k d h =
    let longer : k < length (xs ++ ys) = omega (arith, length-append xs ys) in
    let e : get_or (xs ++ ys) k d ≡ get_or xs k d = get_or_append_left xs ys d k h in
    subst P e (all k d longer)

-- it holds for the second list
pub All-back : {X : Type 0} (P : X → Type 0) (xs ys : List X) → All P (xs ++ ys) → All P ys
All-back P [] ys all = all
All-back P (x ∷ xs) ys all = All-back P xs ys (All-tail P x (xs ++ ys) all)

-- it holds for the element between the two lists
pub All-seam : {X : Type 0} (P : X → Type 0) (xs : List X) (x : X) (ys : List X) → All P (xs ++ x ∷ ys) → P x
All-seam P [] x ys all = all 0 x (omega arith)
All-seam P (z ∷ xs) x ys all = All-seam P xs x ys (λ k d l. all (suc k) d (omega arith))
