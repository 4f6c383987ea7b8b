-- Consecutive parts of lists.
use Rattle.std.proofs.Common.{arith, ◌≡◌, ◌∙◌, ℕ, zero, suc, ◌+◌, ◌-◌, ◌≤◌, min, ◌++◌, List, [], ◌∷◌, Option, Some, None, refl, sym, ap, take, drop, length, unwrap_or, true}
use Rattle.std.specs.Ordering.{nat_cmp}
use Rattle.std.proofs.lemmas.Bool.Decides.{nat_tests}
use Rattle.std.proofs.lemmas.List.{drop-take, drop_min, length-take, take_all, take_min}
use Rattle.work_core.proofs.NumberLemmas.{from_is}
use Rattle.work_core.specs.Pieces.{items_within, piece_before, piece_from}
use Rattle.work_core.specs.Ranges.{has_begun, range}
use Rattle.work_core.specs.declared.range.Range.{Range}

-- an index that isn't before the start is at least the start
pub begun_upto : (from at : ℕ) → has_begun nat_cmp (Some from) at ≡ true → from ≤ at
begun_upto from at begun =
    let same = from_is from at in
    grind (arith, nat_tests, same, begun)

-- the items from an index on: those before a later index, then those from it on
drop_take : {X : Type 0} (from at : ℕ) (xs : List X) → from ≤ at → drop from xs ≡ drop from (take at xs) ++ drop at xs
drop_take zero zero xs le = refl
drop_take zero (suc at) [] le = refl
drop_take zero (suc at) (x ∷ xs) le = ap (λ l. x ∷ l) (drop_take 0 at xs (omega arith))
drop_take (suc from) zero xs le = absurd (omega (arith, le))
drop_take (suc from) (suc at) [] le = refl
drop_take (suc from) (suc at) (x ∷ xs) le = drop_take from at xs (omega (arith, le))

-- the part before an index, followed by the part from it on
pub piece_cut : {X : Type 0} (from : Option ℕ) (at : ℕ) (xs : List X) → has_begun nat_cmp from at ≡ true
    → items_within (range from None) xs ≡ items_within (range from (Some at)) xs ++ items_within (range (Some at) None) xs
piece_cut None at xs begun = drop_take 0 at xs (omega arith)
piece_cut (Some from) at xs begun = drop_take from at xs (begun_upto from at begun)

-- the items before an end that may be past the last index
piece_before-min : {X : Type 0} (before : Option ℕ) (to : ℕ) (xs : List X)
    → to ≡ min (unwrap_or before (length xs)) (length xs) → piece_before before xs ≡ take to xs
piece_before-min None to xs e = sym (take_all to xs (omega (arith, e)))
piece_before-min (Some end) to xs e = sym (ap (λ n. take n xs) e ∙ take_min end xs)

-- the items from a start that may be past the last index
piece_from-min : {X : Type 0} (start : Option ℕ) (from : ℕ) (xs : List X)
    → from ≡ min (unwrap_or start 0) (length xs) → piece_from start xs ≡ drop from xs
piece_from-min None from xs e = let none : from ≡ 0 = omega (arith, e) in sym (ap (λ n. drop n xs) none)
piece_from-min (Some start) from xs e = sym (ap (λ n. drop n xs) e ∙ drop_min start xs)

-- the selected part begins at its first index and stops before its end
pub piece-between : {X : Type 0} (places : Range ℕ) (from to : ℕ) (xs : List X)
    → to ≡ min (unwrap_or places.before (length xs)) (length xs) → from ≡ min (unwrap_or places.from 0) to
    → items_within places xs ≡ drop from (take to xs)
piece-between places from to xs end start =
    let len : length (take to xs) ≡ to = omega (arith, length-take to xs, end) in
    ap (piece_from places.from) (piece_before-min places.before to xs end)
    ∙ piece_from-min places.from from (take to xs) (start ∙ ap (min (unwrap_or places.from 0)) (sym len))

-- the same as `take` after `drop`
pub piece-part : {X : Type 0} (places : Range ℕ) (from to : ℕ) (xs : List X)
    → to ≡ min (unwrap_or places.before (length xs)) (length xs) → from ≡ min (unwrap_or places.from 0) to
    → items_within places xs ≡ take (to - from) (drop from xs)
piece-part places from to xs end start =
    let whole : to ≡ from + (to - from) = omega (arith, start) in
    piece-between places from to xs end start
    ∙ ap (λ n. drop from (take n xs)) whole
    ∙ drop-take from (to - from) xs
