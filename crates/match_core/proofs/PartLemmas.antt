-- The elements of a list between two indices.
use Rattle.std.proofs.Common.{◌≡◌, ◌∙◌, ℕ, ◌+◌, ◌<◌, ◌≤◌, List, [], ◌∷◌, ◌++◌, Some, length, take, drop, ap, arith}
use Rattle.std.specs.Prelude.{slice_get}
use Rattle.std.proofs.lemmas.List.{drop-append-le, drop_all, length-take-le, take_more}
use Rattle.std.proofs.lemmas.Option.{get_or_from_slice_get, slice_get_within}

-- at first there are no elements
pub none_yet : {X : Type 0} (start : ℕ) (xs : List X) → start ≤ length xs → drop start (take start xs) ≡ []
none_yet start xs within = let count = length-take-le start xs within in
    drop_all start (take start xs) (omega (arith, count))

-- one more element
pub one_more : {X : Type 0} (start i : ℕ) (xs : List X) (x : X) → start ≤ i → slice_get xs i ≡ Some x
    → drop start (take (i + 1) xs) ≡ drop start (take i xs) ++ x ∷ []
one_more start i xs x from here =
    let inside : i < length xs = slice_get_within xs i x here in
    let count = length-take-le i xs (omega (arith, inside)) in
    ap (drop start) (take_more xs i x inside ∙ ap (λ y. take i xs ++ y ∷ []) (get_or_from_slice_get xs i x x here))
    ∙ drop-append-le start (take i xs) (x ∷ []) (omega (arith, from, count))
