-- Lists of everything wanted exist: for many elements together, and from any order into a total one.
use Rattle.std.proofs.Common.{◌≡◌, List, [], ◌∷◌, ◌++◌, ◌↔◌, inl, inr, refl, sym, ap, subst, ◌∙◌, arith}
use Rattle.std.specs.Prelude.{Contains, AllPairs}
use Rattle.std.specs.Cmp.{IsTotalOrder}
use Rattle.std.specs.Ordering.{ordering_reverse}
use Rattle.std.specs.declared.cmp.Ordering.{Ordering}
use Rattle.std.specs.declared.cmp.Ordering.TheVariants.{Less, Equal, Greater}
use Rattle.std.proofs.lemmas.List.Elements.{Contains-append_left, Contains-append_right, Contains-append_cases}
use Rattle.std.proofs.lemmas.Map.Lookups.{CmpEqualImpliesEq}
use Rattle.list_core.specs.Wanted.{IsListOf}
use Rattle.list_core.proofs.RisingLemmas.{AllPairs-head, AllPairs-tail, Contains-head, Contains-cons, Contains-cons_cases, Contains-none}
use Rattle.list_core.proofs.WantedLemmas.{AllPairs-before, IsListOf-none, IsListOf-one, IsListOf-same}

-- ---- in any order

-- the list's elements are those wanted, in any order and any number of times
abbrev pub IsUnorderedListOf : {X : Type 0} → (X → Type 0) → List X → Type 0
IsUnorderedListOf {X} Wanted xs = (x : X) → Contains xs x ↔ Wanted x

-- wanted for some element of a list
abbrev pub WantedForSome : {X Y : Type 0} → (X → Y → Type 0) → List X → Y → Type 0
WantedForSome {X} Wanted xs y = (x : X) × Contains xs x × Wanted x y

-- nothing is wanted
pub IsUnorderedListOf-none : {X : Type 0} (Wanted : X → Type 0) → ((x : X) → Wanted x → ⊥) → IsUnorderedListOf Wanted []
IsUnorderedListOf-none Wanted none = (IsListOf-none (λ a b. ⊥) Wanted none).exactly

-- one element is wanted
pub IsUnorderedListOf-one : {X : Type 0} (Wanted : X → Type 0) (x : X) → Wanted x → ((y : X) → Wanted y → x ≡ y)
    → IsUnorderedListOf Wanted (x ∷ [])
IsUnorderedListOf-one Wanted x is only = (IsListOf-one (λ a b. ⊥) Wanted x is only).exactly

-- everything wanted for the first element, followed by everything wanted for the others
IsUnorderedListOf-cons : {X Y : Type 0} (Wanted : X → Y → Type 0) (x : X) (xs : List X) (ys zs : List Y)
    → IsUnorderedListOf (Wanted x) ys → IsUnorderedListOf (WantedForSome Wanted xs) zs
    → IsUnorderedListOf (WantedForSome Wanted (x ∷ xs)) (ys ++ zs)
IsUnorderedListOf-cons Wanted x xs ys zs first others y = (
  λ h. elim (Contains-append_cases ys zs y h) [
    | inl k ↦ (x, Contains-head x xs, (first y).0 k)
    | inr k ↦ let (z, member, w) = (others y).0 k in (z, Contains-cons x xs z member, w)
  ],
  λ (z, member, w). elim (Contains-cons_cases x xs z member) [
    | inl e ↦ Contains-append_left ys zs y ((first y).1 (subst (λ v. Wanted v y) (sym e) w))
    | inr later ↦ Contains-append_right ys zs y ((others y).1 (z, later, w))
  ],
)

-- if everything wanted for one element can be listed, so can everything wanted for the elements of a list
pub some_unordered : {X Y : Type 0} (Wanted : X → Y → Type 0)
    → ((x : X) → (ys : List Y) × IsUnorderedListOf (Wanted x) ys) → (xs : List X)
    → (ys : List Y) × IsUnorderedListOf (WantedForSome Wanted xs) ys
some_unordered Wanted each [] =
    ([], IsUnorderedListOf-none (WantedForSome Wanted []) (λ y (z, member, w). Contains-none z member))
some_unordered Wanted each (x ∷ xs) =
    let (ys, first) = each x in
    let (zs, others) = some_unordered Wanted each xs in
    (ys ++ zs, IsUnorderedListOf-cons Wanted x xs ys zs first others)

-- ---- in order

-- if one list contains the other's elements, it still does after the same element is put first in both
Contains-rest : {X : Type 0} (x : X) (ys xs : List X) → ((z : X) → Contains ys z → Contains xs z)
    → (z : X) → Contains (x ∷ ys) z → Contains (x ∷ xs) z
Contains-rest x ys xs rest z h =
    elim (Contains-cons_cases x ys z h) [
      | inl same ↦ subst (Contains (x ∷ xs)) same (Contains-head x xs)
      | inr later ↦ Contains-cons x xs z (rest z later)
    ]

-- swapping the first two elements doesn't change what a list contains
Contains-swap : {X : Type 0} (x y : X) (ys : List X) (z : X) → Contains (x ∷ (y ∷ ys)) z → Contains (y ∷ (x ∷ ys)) z
Contains-swap x y ys z h =
    elim (Contains-cons_cases x (y ∷ ys) z h) [
      | inl same ↦ Contains-cons y (x ∷ ys) z (subst (Contains (x ∷ ys)) same (Contains-head x ys))
      | inr later ↦ Contains-rest y ys (x ∷ ys) (λ v. Contains-cons x ys v) z later
    ]

module _ {X : Type 0} (cmp : X → X → Ordering) (total : IsTotalOrder cmp) (exact : CmpEqualImpliesEq cmp) where
  -- one element comes before another
  abbrev Before : X → X → Type 0
  Before a b = cmp a b ≡ Less

  -- an ordered list with an element inserted, unless it is there already
  abbrev PutInto : X → List X → Type 0
  PutInto x ys = (zs : List X) × IsListOf Before (Contains (x ∷ ys)) zs

  -- an element less than the first is put first
  put_before : (x y : X) (ys : List X) → AllPairs Before (y ∷ ys) → Before x y → PutInto x (y ∷ ys)
  put_before x y ys rises less = (
    x ∷ (y ∷ ys),
    record { ordered = AllPairs-before Before x (y ∷ ys) before_each rises; exactly = λ z. (λ h. h, λ h. h) },
  )
    where
      before_each : (z : X) → Contains (y ∷ ys) z → Before x z
      before_each z h =
          elim (Contains-cons_cases y ys z h) [
            | inl same ↦ subst (Before x) same less
            | inr later ↦ total.trans x y z less (AllPairs-head Before y ys z rises later)
          ]

  -- an element equal to the first is there already
  put_there : (x y : X) (ys : List X) → AllPairs Before (y ∷ ys) → x ≡ y → PutInto x (y ∷ ys)
  put_there x y ys rises same = (
    y ∷ ys,
    record {
      ordered = rises;
      exactly = λ z. (
        λ h. Contains-cons x (y ∷ ys) z h,
        λ h. elim (Contains-cons_cases x (y ∷ ys) z h) [
          | inl first ↦ subst (Contains (y ∷ ys)) (sym same ∙ first) (Contains-head y ys)
          | inr later ↦ later
        ],
      );
    },
  )

  -- an element greater than the first is inserted into the rest
  put_behind : (x y : X) (ys : List X) → AllPairs Before (y ∷ ys) → Before y x → PutInto x ys → PutInto x (y ∷ ys)
  put_behind x y ys rises less (zs, is) = (
    y ∷ zs,
    record {
      ordered = AllPairs-before Before y zs (λ z h. before_each z ((is.exactly z).0 h)) is.ordered;
      exactly = λ z. (
        λ h. Contains-swap y x ys z (Contains-rest y zs (x ∷ ys) (λ v. (is.exactly v).0) z h),
        λ h. Contains-rest y (x ∷ ys) zs (λ v. (is.exactly v).1) z (Contains-swap x y ys z h),
      );
    },
  )
    where
      before_each : (z : X) → Contains (x ∷ ys) z → Before y z
      before_each z h =
          elim (Contains-cons_cases x ys z h) [
            | inl same ↦ subst (Before y) same less
            | inr later ↦ AllPairs-head Before y ys z rises later
          ]

  -- an element is inserted by its comparison with the first
  put_by : (x y : X) (ys : List X) (o : Ordering) → cmp x y ≡ o → AllPairs Before (y ∷ ys) → PutInto x ys
      → PutInto x (y ∷ ys)
  put_by x y ys Less e rises others = put_before x y ys rises e
  put_by x y ys Equal e rises others = put_there x y ys rises (exact x y e)
  put_by x y ys Greater e rises others =
      put_behind x y ys rises (total.antisymm y x ∙ ap ordering_reverse e) others

  -- an element is inserted into a list
  put_into : (x : X) (ys : List X) → AllPairs Before ys → PutInto x ys
  put_into x [] rises =
      (x ∷ [], record { ordered = λ i j d less h. absurd (omega arith); exactly = λ z. (λ h. h, λ h. h) })
  put_into x (y ∷ ys) rises =
      put_by x y ys (cmp x y) refl rises (put_into x ys (AllPairs-tail Before y ys rises))

  -- the elements of a list, each once, in order
  pub some_ordered : (xs : List X) → (ys : List X) × IsListOf (λ a b. cmp a b ≡ Less) (Contains xs) ys
  some_ordered [] = ([], IsListOf-none Before (Contains []) (λ z h. Contains-none z h))
  some_ordered (x ∷ xs) =
      let (ys, is) = some_ordered xs in
      let (zs, put) = put_into x ys is.ordered in (
        zs,
        IsListOf-same Before (Contains (x ∷ ys)) (Contains (x ∷ xs)) zs
            (Contains-rest x ys xs (λ z. (is.exactly z).0)) (Contains-rest x xs ys (λ z. (is.exactly z).1)) put,
      )

  -- everything wanted, in order, if a list in any order has it
  pub some_wanted : (Wanted : X → Type 0) (xs : List X) → IsUnorderedListOf Wanted xs
      → (ys : List X) × IsListOf (λ a b. cmp a b ≡ Less) Wanted ys
  some_wanted Wanted xs all =
      let (ys, is) = some_ordered xs in
      (ys, IsListOf-same Before (Contains xs) Wanted ys (λ z. (all z).0) (λ z. (all z).1) is)
