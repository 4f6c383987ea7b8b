-- A list of two elements. The last one was taken first.
use Rattle.std.proofs.Common.{◌≡◌, ◌+◌, List, [], ◌∷◌, ◌++◌, length, ap, ◌∙◌, arith, length-append}

pub two-of : {A : Type 0} (all rest left : List A) (x y : A) → length all ≡ 2 → all ≡ rest ++ y ∷ []
    → rest ≡ left ++ x ∷ [] → all ≡ x ∷ y ∷ []
two-of all rest [] x y two last first = last ∙ ap (λ l. l ++ y ∷ []) first
two-of all rest (z ∷ zs) x y two last first =
    let whole : length all ≡ length rest + 1 = ap length last ∙ length-append rest (y ∷ []) in
    let front : length rest ≡ length (z ∷ zs) + 1 = ap length first ∙ length-append (z ∷ zs) (x ∷ []) in
    absurd (omega (arith, two, whole, front))
