-- Lists that rise in an order and have the same elements are equal.
use Rattle.std.proofs.Common.{◌≡◌, zero, suc, List, [], ◌∷◌, arith, refl, sym, ap, ◌∙◌, inl, inr, ◌⊎◌, subst}
use Rattle.std.specs.Prelude.{Contains, AllPairs}
use Rattle.list_core.specs.Wanted.{IsListOf}

pub Contains-head : {X : Type 0} (x : X) (xs : List X) → Contains (x ∷ xs) x
Contains-head x xs = (0, omega arith, refl)

pub Contains-cons : {X : Type 0} (x : X) (xs : List X) (z : X) → Contains xs z → Contains (x ∷ xs) z
Contains-cons x xs z (k, h, e) = (suc k, omega arith, e)

pub Contains-cons_cases : {X : Type 0} (x : X) (xs : List X) (z : X) → Contains (x ∷ xs) z → (x ≡ z) ⊎ Contains xs z
Contains-cons_cases x xs z (zero, h, e) = inl e
Contains-cons_cases x xs z (suc k, h, e) = inr (k, omega arith, e)

pub Contains-none : {X : Type 0} (z : X) → Contains [] z → ⊥
Contains-none z (k, h, e) = omega arith

pub AllPairs-head : {X : Type 0} (R : X → X → Type 0) (x : X) (xs : List X) (z : X) → AllPairs R (x ∷ xs)
    → Contains xs z → R x z
AllPairs-head R x xs z rises (k, h, e) = subst (λ w. R x w) e (rises 0 (suc k) z (omega arith) (omega arith))

pub AllPairs-tail : {X : Type 0} (R : X → X → Type 0) (x : X) (xs : List X) → AllPairs R (x ∷ xs) → AllPairs R xs
AllPairs-tail R x xs rises i j d less h = rises (suc i) (suc j) d (omega arith) (omega arith)

-- if the first elements are equal, the rest of one list is contained in the rest of the other
rest_in : {X : Type 0} (R : X → X → Type 0) (x y : X) (xs ys : List X) → ((v w : X) → R v w → R w v → ⊥)
    → AllPairs R (x ∷ xs) → x ≡ y
    → ((z : X) → Contains (x ∷ xs) z → Contains (y ∷ ys) z) → (z : X) → Contains xs z → Contains ys z
rest_in R x y xs ys asym rises same in_other z member =
    elim (Contains-cons_cases y ys z (in_other z (Contains-cons x xs z member))) [
      | inl first ↦
          let itself : R x x = subst (λ w. R x w) (sym (same ∙ first)) (AllPairs-head R x xs z rises member) in
          absurd (asym x x itself itself)
      | inr later ↦ later
    ]

-- the first elements are equal
first_is_one : {X : Type 0} (R : X → X → Type 0) (x y : X) (xs ys : List X) → ((v w : X) → R v w → R w v → ⊥)
    → AllPairs R (x ∷ xs) → AllPairs R (y ∷ ys)
    → Contains (y ∷ ys) x → Contains (x ∷ xs) y → x ≡ y
first_is_one R x y xs ys asym one other there back =
    elim (Contains-cons_cases y ys x there) [
      | inl same ↦ sym same
      | inr later ↦ elim (Contains-cons_cases x xs y back) [
        | inl same ↦ same
        | inr after ↦ absurd (asym x y (AllPairs-head R x xs y one after) (AllPairs-head R y ys x other later))
      ]
    ]

-- lists that rise and have the same elements are equal
pub rising_is_one : {X : Type 0} (R : X → X → Type 0) (xs ys : List X) → ((v w : X) → R v w → R w v → ⊥)
    → AllPairs R xs → AllPairs R ys
    → ((z : X) → Contains xs z → Contains ys z) → ((z : X) → Contains ys z → Contains xs z) → xs ≡ ys
rising_is_one R [] [] asym one other there back = refl
rising_is_one R [] (y ∷ ys) asym one other there back = absurd (Contains-none y (back y (Contains-head y ys)))
rising_is_one R (x ∷ xs) [] asym one other there back = absurd (Contains-none x (there x (Contains-head x xs)))
rising_is_one R (x ∷ xs) (y ∷ ys) asym one other there back =
    let same : x ≡ y =
    first_is_one R x y xs ys asym one other (there x (Contains-head x xs)) (back y (Contains-head y ys)) in
    let rest : xs ≡ ys =
    rising_is_one R xs ys asym (AllPairs-tail R x xs one) (AllPairs-tail R y ys other)
    (rest_in R x y xs ys asym one same there) (rest_in R y x ys xs asym other (sym same) back) in
    ap (λ l. x ∷ l) rest ∙ ap (λ w. w ∷ ys) same

-- two lists of everything wanted are equal if the order is asymmetric
pub IsListOf-unique : {X : Type 0} (Before : X → X → Type 0) (Wanted : X → Type 0) (one other : List X)
    → ((x y : X) → Before x y → Before y x → ⊥)
    → IsListOf Before Wanted one → IsListOf Before Wanted other → one ≡ other
IsListOf-unique Before Wanted one other asym is is' =
    rising_is_one Before one other asym is.ordered is'.ordered
    (λ x member. (is'.exactly x).1 ((is.exactly x).0 member))
    (λ x member. (is.exactly x).1 ((is'.exactly x).0 member))
