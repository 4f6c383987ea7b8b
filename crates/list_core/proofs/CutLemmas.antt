-- Lists cut at indexes, and their parts.
use Rattle.std.proofs.Common.{◌≡◌, ℕ, zero, suc, ◌+◌, ◌-◌, ◌<◌, ◌≤◌, List, [], ◌∷◌, ◌++◌, length, take, drop, get_or, Some, refl, ap, ◌∙◌, arith, length-append}
use Rattle.std.specs.List.{slice_get}
use Rattle.std.proofs.lemmas.List.{take-append-le, drop-append-le, take_all, length-drop}
use Rattle.std.proofs.Math.Seq.{drop-append_seam}
use Rattle.list_core.specs.Cut.{cut, start_at, EndsAt}

pub length-cut : {X : Type 0} (from : ℕ) (ends : List ℕ) (xs : List X) → length (cut from ends xs) ≡ length ends
length-cut from [] xs = refl
length-cut from (end ∷ ends) xs = ap suc (length-cut end ends xs)

pub EndsAt-from : (from : ℕ) (ends : List ℕ) (size : ℕ) → EndsAt from ends size → from ≤ size
EndsAt-from from [] size h = omega (arith, h)
EndsAt-from from (end ∷ ends) size (h, more) = omega (arith, h, EndsAt-from end ends size more)

pub EndsAt-part : (from : ℕ) (ends : List ℕ) (size i : ℕ) → EndsAt from ends size → i < length ends
    → (start_at from ends i ≤ get_or ends i 0) × (get_or ends i 0 ≤ size)
EndsAt-part from [] size i h lt = absurd (omega arith)
EndsAt-part from (end ∷ ends) size zero (h, more) lt = (h, EndsAt-from end ends size more)
EndsAt-part from (end ∷ ends) size (suc zero) (h, more) lt = EndsAt-part end ends size zero more (omega arith)
EndsAt-part from (end ∷ ends) size (suc (suc i)) (h, more) lt = EndsAt-part end ends size (suc i) more (omega arith)

pub slice_get-cut : {X : Type 0} (from : ℕ) (ends : List ℕ) (xs : List X) (i : ℕ) → i < length ends
    → slice_get (cut from ends xs) i ≡ Some
    (take (get_or ends i 0 - start_at from ends i) (drop (start_at from ends i) xs))
slice_get-cut from [] xs i lt = absurd (omega arith)
slice_get-cut from (end ∷ ends) xs zero lt = refl
slice_get-cut from (end ∷ ends) xs (suc zero) lt = slice_get-cut end ends xs zero (omega arith)
slice_get-cut from (end ∷ ends) xs (suc (suc i)) lt = slice_get-cut end ends xs (suc i) (omega arith)

pub EndsAt-more : (from : ℕ) (ends : List ℕ) (size more : ℕ) → EndsAt from ends size
    → EndsAt from (ends ++ (size + more) ∷ []) (size + more)
EndsAt-more from [] size more h = (omega (arith, h), refl)
EndsAt-more from (end ∷ ends) size more (h, rest) = (h, EndsAt-more end ends size more rest)

-- a part that ends within the list stays the same if more elements follow
pub part-append : {X : Type 0} (from end : ℕ) (xs ys : List X) → from ≤ end → end ≤ length xs
    → take (end - from) (drop from (xs ++ ys)) ≡ take (end - from) (drop from xs)
part-append from end xs ys h within =
    let start : from ≤ length xs = omega arith in
    let room : end - from ≤ length (drop from xs) = omega (arith, length-drop from xs) in
    ap (λ l. take (end - from) l) (drop-append-le from xs ys start) ∙ take-append-le (end - from) (drop from xs) ys room

-- one part more, after parts that end where the list ends
pub cut-more : {X : Type 0} (from : ℕ) (ends : List ℕ) (xs ys : List X) → EndsAt from ends (length xs)
    → cut from (ends ++ (length xs + length ys) ∷ []) (xs ++ ys) ≡ cut from ends xs ++ ys ∷ []
cut-more from [] xs ys h =
    let size : length (drop (length xs) (xs ++ ys)) ≤ length xs + length ys - length xs =
    omega (arith, length-drop (length xs) (xs ++ ys), length-append xs ys) in
    ap (λ l. l ∷ [])
    (ap (λ n. take (length xs + length ys - n) (drop n (xs ++ ys))) h
    ∙ (take_all (length xs + length ys - length xs) (drop (length xs) (xs ++ ys)) size ∙ drop-append_seam xs ys))
cut-more from (end ∷ ends) xs ys (h, more) =
    ap (λ l. l ∷ cut end (ends ++ (length xs + length ys) ∷ []) (xs ++ ys))
    (part-append from end xs ys h (EndsAt-from end ends (length xs) more))
    ∙ ap (λ l. take (end - from) (drop from xs) ∷ l) (cut-more end ends xs ys more)

-- rising ends up to `seam`, followed by rising ends from there on
pub EndsAt-behind : (from : ℕ) (ends more : List ℕ) (seam size : ℕ) → EndsAt from ends seam → EndsAt seam more size
    → EndsAt from (ends ++ more) size
EndsAt-behind from [] more seam size h rest = rw h rest
EndsAt-behind from (end ∷ ends) more seam size (h, later) rest = (h, EndsAt-behind end ends more seam size later rest)

pub cut-behind : {X : Type 0} (from : ℕ) (ends more : List ℕ) (xs ys : List X) → EndsAt from ends (length xs)
    → cut from (ends ++ more) (xs ++ ys) ≡ cut from ends xs ++ cut (length xs) more (xs ++ ys)
cut-behind from [] more xs ys h = ap (λ n. cut n more (xs ++ ys)) h
cut-behind from (end ∷ ends) more xs ys (h, rest) =
    ap (λ l. l ∷ cut end (ends ++ more) (xs ++ ys))
    (part-append from end xs ys h (EndsAt-from end ends (length xs) rest))
    ∙ ap (λ l. take (end - from) (drop from xs) ∷ l) (cut-behind end ends more xs ys rest)
