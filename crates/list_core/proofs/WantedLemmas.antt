-- Lists of everything wanted, built from such lists.
use Rattle.std.proofs.Common.{◌≡◌, List, [], ◌∷◌, ◌++◌, ◌⊎◌, inl, inr, All, get_or, arith, sym, subst, ◌∙◌}
use Rattle.std.specs.Prelude.{Contains, AllPairs}
use Rattle.std.proofs.lemmas.List.Elements.{Contains-get_or, Contains-append_left, Contains-append_right, Contains-append_cases}
use Rattle.std.proofs.lemmas.List.Kept.{AllPairs-cons}
use Rattle.list_core.specs.Wanted.{IsListOf}
use Rattle.list_core.proofs.RisingLemmas.{AllPairs-head, AllPairs-tail, Contains-head, Contains-cons, Contains-cons_cases, Contains-none}

-- a fact about each contained element holds for all
All-contained : {X : Type 0} (P : X → Type 0) (xs : List X) → ((x : X) → Contains xs x → P x) → All P xs
All-contained P xs each i d h = each (get_or xs i d) (Contains-get_or xs i d h)

-- a list is in order if its first element comes before each other one and the others are in order
pub AllPairs-before : {X : Type 0} (R : X → X → Type 0) (x : X) (xs : List X) → ((y : X) → Contains xs y → R x y)
    → AllPairs R xs → AllPairs R (x ∷ xs)
AllPairs-before R x xs first rest = AllPairs-cons R x xs (All-contained (R x) xs first) rest

pub AllPairs-append : {X : Type 0} (R : X → X → Type 0) (xs ys : List X) → AllPairs R xs → AllPairs R ys
    → ((x y : X) → Contains xs x → Contains ys y → R x y) → AllPairs R (xs ++ ys)
AllPairs-append R [] ys one other across = other
AllPairs-append R (z ∷ zs) ys one other across =
    AllPairs-before R z (zs ++ ys)
    (λ y h.
    elim (Contains-append_cases zs ys y h) [
      | inl k ↦ AllPairs-head R z zs y one k
      | inr k ↦ across z y (Contains-head z zs) k
    ])
    (AllPairs-append R zs ys (AllPairs-tail R z zs one) other (λ x y h k. across x y (Contains-cons z zs x h) k))

-- a list in one order is in any order that follows from it
pub AllPairs-other : {X : Type 0} (Before After : X → X → Type 0) (xs : List X) → AllPairs Before xs
    → ((x y : X) → Contains xs x → Contains xs y → Before x y → After x y) → AllPairs After xs
AllPairs-other Before After [] ordered gives = λ i j d less h. absurd (omega arith)
AllPairs-other Before After (z ∷ zs) ordered gives =
    AllPairs-before After z zs
    (λ y h. gives z y (Contains-head z zs) (Contains-cons z zs y h) (AllPairs-head Before z zs y ordered h))
    (AllPairs-other Before After zs (AllPairs-tail Before z zs ordered)
    (λ x y h k b. gives x y (Contains-cons z zs x h) (Contains-cons z zs y k) b))

-- two elements of an ordered list are equal, or one comes before the other
pub AllPairs-cases : {X : Type 0} (R : X → X → Type 0) (xs : List X) (x y : X) → AllPairs R xs → Contains xs x
    → Contains xs y → (x ≡ y) ⊎ (R x y ⊎ R y x)
AllPairs-cases R [] x y ordered h k = absurd (Contains-none x h)
AllPairs-cases R (z ∷ zs) x y ordered h k =
    elim (Contains-cons_cases z zs x h) [
      | inl e ↦ elim (Contains-cons_cases z zs y k) [
        | inl f ↦ inl (sym e ∙ f)
        | inr later ↦ inr (inl (subst (λ v. R v y) e (AllPairs-head R z zs y ordered later)))
      ]
      | inr later ↦ elim (Contains-cons_cases z zs y k) [
        | inl f ↦ inr (inr (subst (λ v. R v x) f (AllPairs-head R z zs x ordered later)))
        | inr after ↦ AllPairs-cases R zs x y (AllPairs-tail R z zs ordered) later after
      ]
    ]

-- two lists of wanted sets, concatenated, if the first set comes before the second
pub IsListOf-append : {X : Type 0} (Before : X → X → Type 0) (A B W : X → Type 0) (xs ys : List X)
    → IsListOf Before A xs → IsListOf Before B ys → ((x y : X) → A x → B y → Before x y)
    → ((x : X) → A x → W x) → ((x : X) → B x → W x) → ((x : X) → W x → A x ⊎ B x) → IsListOf Before W (xs ++ ys)
IsListOf-append Before A B W xs ys a b across from_a from_b cases =
    record {
      ordered =
          AllPairs-append Before xs ys a.ordered b.ordered
          (λ x y h k. across x y ((a.exactly x).0 h) ((b.exactly y).0 k));
      exactly = λ x. (
        λ h. elim (Contains-append_cases xs ys x h) [
          | inl k ↦ from_a x ((a.exactly x).0 k)
          | inr k ↦ from_b x ((b.exactly x).0 k)
        ],
        λ w. elim (cases x w) [
          | inl k ↦ Contains-append_left xs ys x ((a.exactly x).1 k)
          | inr k ↦ Contains-append_right xs ys x ((b.exactly x).1 k)
        ],
      );
    }

-- the list of a set described in another way
pub IsListOf-same : {X : Type 0} (Before : X → X → Type 0) (A B : X → Type 0) (xs : List X) → ((x : X) → A x → B x)
    → ((x : X) → B x → A x) → IsListOf Before A xs → IsListOf Before B xs
IsListOf-same Before A B xs to back a =
    record { ordered = a.ordered; exactly = λ x. (λ h. to x ((a.exactly x).0 h), λ w. (a.exactly x).1 (back x w)) }

-- nothing is wanted
pub IsListOf-none : {X : Type 0} (Before : X → X → Type 0) (A : X → Type 0) → ((x : X) → A x → ⊥) → IsListOf Before A []
IsListOf-none Before A none =
    record {
      ordered = λ i j d less h. absurd (omega arith);
      exactly = λ x. (λ h. absurd (Contains-none x h), λ w. absurd (none x w));
    }

-- one element is wanted
pub IsListOf-one : {X : Type 0} (Before : X → X → Type 0) (A : X → Type 0) (x : X) → A x → ((y : X) → A y → x ≡ y)
    → IsListOf Before A (x ∷ [])
IsListOf-one Before A x is only =
    record {
      ordered = λ i j d less h. absurd (omega arith);
      exactly = λ y. (
        λ h. elim (Contains-cons_cases x [] y h) [ inl e ↦ subst A e is | inr k ↦ absurd (Contains-none y k) ],
        λ w. subst (Contains (x ∷ [])) (only y w) (Contains-head x []),
      );
    }
