-- The parts of a claim, and its ids.
use Rattle.std.proofs.Common.{◌≡◌, ◌≢◌, ℕ, zero, suc, ◌+◌, ◌<◌, ◌≤◌, List, [], ◌∷◌, ◌++◌, length, take, drop, Some, arith, refl, ap, ◌∙◌, length-append}
use Rattle.std.specs.Prelude.{All, slice_get}
use Rattle.std.proofs.lemmas.List.{take_at}
use Rattle.std.proofs.lemmas.List.Elements.{All-head, All-tail}
use Rattle.cert_core.specs.Claim.{ids_of}

-- if all earlier parts have ids, part `j` isn't empty
pub filled_before : (claim : List (List ℕ)) (n j : ℕ) → All (λ part. 0 < length part) (take n claim) → j < n
    → slice_get claim j ≢ Some []
filled_before [] n j filled less e = cc e
filled_before (part ∷ claim) zero j filled less e = absurd (omega arith)
filled_before (part ∷ claim) (suc n) zero filled less e =
    let some : 0 < length part = All-head (λ part. 0 < length part) part (take n claim) filled in
    let none : part ≡ [] = cc in
    let zero_is : length part ≡ 0 = ap length none in
    absurd (omega arith)
filled_before (part ∷ claim) (suc n) (suc j) filled less e =
    filled_before claim n j (All-tail (λ part. 0 < length part) part (take n claim) filled) (omega arith) e

-- the ids of a part among all ids
pub ids_of-part : (claim : List (List ℕ)) (k : ℕ) (part : List ℕ) → slice_get claim k ≡ Some part
    → take (length part) (drop (length (ids_of (take k claim))) (ids_of claim)) ≡ part
ids_of-part [] k part e = absurd (cc e)
ids_of-part (first ∷ claim) zero part e =
    let same : first ≡ part = cc in
    ap (λ l. take (length part) (l ++ ids_of claim)) same ∙ take_at part (ids_of claim) (length part) refl
ids_of-part (first ∷ claim) (suc k) part e =
    ap (λ l. take (length part) l) (drop_both first (ids_of (take k claim)) (ids_of claim)) ∙ ids_of-part claim k part e
  where
    drop_both : (xs ys zs : List ℕ) → drop (length (xs ++ ys)) (xs ++ zs) ≡ drop (length ys) zs
    drop_both [] ys zs = refl
    drop_both (x ∷ xs) ys zs = drop_both xs ys zs

-- the part ends within all ids
pub ids_of-part_end : (claim : List (List ℕ)) (k : ℕ) (part : List ℕ) → slice_get claim k ≡ Some part
    → length (ids_of (take k claim)) + length part ≤ length (ids_of claim)
ids_of-part_end [] k part e = absurd (cc e)
ids_of-part_end (first ∷ claim) zero part e =
    let same : first ≡ part = cc in
    let size : length first ≡ length part = ap length same in
    omega (arith, length-append first (ids_of claim))
ids_of-part_end (first ∷ claim) (suc k) part e =
    omega (
      arith,
      length-append first (ids_of claim),
      length-append first
          (ids_of (take k claim)),
      ids_of-part_end claim k part e,
    )

-- the number of ids in the first `k + 1` parts
pub ids_of-take : (claim : List (List ℕ)) (k : ℕ) (part : List ℕ) → slice_get claim k ≡ Some part
    → length (ids_of (take (k + 1) claim)) ≡ length (ids_of (take k claim)) + length part
ids_of-take [] k part e = absurd (cc e)
ids_of-take (first ∷ claim) zero part e =
    let same : first ≡ part = cc in
    let size : length first ≡ length part = ap length same in
    omega (arith, length-append {A = ℕ} first [])
ids_of-take (first ∷ claim) (suc k) part e =
    let next : suc k + 1 ≡ suc (k + 1) = omega arith in
    ap (λ n. length (ids_of (take n (first ∷ claim)))) next
    ∙ omega (
      arith,
      length-append first (ids_of (take (k + 1) claim)),
      length-append first
          (ids_of (take k claim)),
      ids_of-take claim k part e,
    )
