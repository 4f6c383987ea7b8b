-- The elements of mapped lists, and how elements are counted.
use Rattle.std.proofs.Common.{◌≡◌, ◌+◌, ◌≤◌, List, [], ◌∷◌, ◌++◌, map, AllPairs, Bool, true, cond, subst, ap, ◌∙◌, inl, inr, arith}
use Rattle.std.specs.Prelude.{Contains, count_by}
use Rattle.std.proofs.lemmas.List.Sums.{sum_by-cons, sum_by-append}
use Rattle.list_core.proofs.RisingLemmas.{AllPairs-head, AllPairs-tail, Contains-head, Contains-cons, Contains-cons_cases, Contains-none}
use Rattle.list_core.proofs.WantedLemmas.{AllPairs-before}

-- the image of an element is in the mapped list
pub Contains-map : {X Y : Type 0} (f : X → Y) (xs : List X) (x : X) → Contains xs x → Contains (map f xs) (f x)
Contains-map f [] x h = absurd (Contains-none x h)
Contains-map f (z ∷ xs) x h = elim (Contains-cons_cases z xs x h) [
  | inl e ↦ subst (Contains (f z ∷ map f xs)) (ap f e) (Contains-head (f z) (map f xs))
  | inr k ↦ Contains-cons (f z) (map f xs) (f x) (Contains-map f xs x k)
]

-- each element of the mapped list is the image of an element
pub Contains-map_source : {X Y : Type 0} (f : X → Y) (xs : List X) (y : Y) → Contains (map f xs) y
    → (x : X) × Contains xs x × (f x ≡ y)
Contains-map_source f [] y h = absurd (Contains-none y h)
Contains-map_source f (z ∷ xs) y h = elim (Contains-cons_cases (f z) (map f xs) y h) [
  | inl e ↦ (z, Contains-head z xs, e)
  | inr k ↦ let r = Contains-map_source f xs y k in (r.0, Contains-cons z xs r.0 r.1, r.2)
]

-- a mapped list is in order if the function takes the one order to the other
pub AllPairs-map : {X Y : Type 0} (R : X → X → Type 0) (S : Y → Y → Type 0) (f : X → Y) (xs : List X)
    → ((a b : X) → Contains xs b → R a b → S (f a) (f b)) → AllPairs R xs → AllPairs S (map f xs)
AllPairs-map R S f [] gives ordered = λ i j d less h. absurd (omega arith)
AllPairs-map R S f (x ∷ xs) gives ordered =
    AllPairs-before S (f x) (map f xs)
    (λ y h.
    let (z, there, is) = Contains-map_source f xs y h in
    subst (S (f x)) is (gives x z (Contains-cons x xs z there) (AllPairs-head R x xs z ordered there)))
    (AllPairs-map R S f xs (λ a b h. gives a b (Contains-cons x xs b h)) (AllPairs-tail R x xs ordered))

-- the count with one element more
pub count-cons : {X : Type 0} (p : X → Bool) (x : X) (xs : List X)
    → count_by p (x ∷ xs) ≡ cond (p x) 1 0 + count_by p xs
count-cons p x xs = sum_by-cons (λ x. cond (p x) 1 0) x xs

-- the counts of two lists add up
pub count-append : {X : Type 0} (p : X → Bool) (xs ys : List X) → count_by p (xs ++ ys) ≡ count_by p xs + count_by p ys
count-append p xs ys = sum_by-append (λ x. cond (p x) 1 0) xs ys

-- an element that passes the test is counted
pub counted : {X : Type 0} (test : X → Bool) (xs : List X) (x : X) → Contains xs x → test x ≡ true
    → 1 ≤ count_by test xs
counted test [] x h passes = absurd (Contains-none x h)
counted test (y ∷ ys) x h passes =
    let split = count-cons test y ys in
    elim (Contains-cons_cases y ys x h) [
      | inl e ↦ let first : test y ≡ true = ap test e ∙ passes in grind arith
      | inr k ↦ let rest : 1 ≤ count_by test ys = counted test ys x k passes in grind arith
    ]
