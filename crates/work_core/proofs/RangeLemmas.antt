-- A range without an end, cut at a value that it contains.
use Rattle.std.proofs.Common.{◌≡◌, Bool, true, false, not, ◌&&◌, List, [], ◌∷◌, ◌++◌, Option, Some, None, refl, sym, ap, filter, cond, AllPairs, All, arith, suc, zero, ℕ, ◌≤◌, length}
use Rattle.std.specs.declared.cmp.Ordering.{Ordering}
use Rattle.std.specs.Cmp.{IsTotalOrder}
use Rattle.work_core.proofs.CutLemmas.{from_on}
use Rattle.work_core.specs.Ranges.{has, has_begun, is_from, range}
use Rattle.work_core.specs.Shares.{HaveEach, range_at}
use Rattle.work_core.specs.declared.shares.Cut.{Cut}

-- `&&` with `true` in the middle
low_test : (b t : Bool) → b && not t ≡ (b && true) && not t
low_test false t = refl
low_test true t = refl

high_test : (b t : Bool) → (t ≡ true → b ≡ true) → t && true ≡ (b && true) && t
high_test true true behind = refl
high_test true false behind = refl
high_test false true behind = absurd (let bad : false ≡ true = behind refl in cc)
high_test false false behind = refl

module _ {T : Type 0} (cmp : T → T → Ordering) (total : IsTotalOrder cmp) where
  -- if a value isn't before the start, neither is a later one
  pub begun_on : (from : Option T) (at x : T) → has_begun cmp from at ≡ true → is_from cmp at x ≡ true
      → has_begun cmp from x ≡ true
  begun_on None at x begun on = refl
  begun_on (Some first) at x begun on = from_on cmp total first at x begun on

  -- the range up to the value has what the whole range has before it
  pub low_has : (from : Option T) (at x : T)
      → has cmp (range from (Some at)) x ≡ has cmp (range from None) x && not (is_from cmp at x)
  low_has from at x = low_test (has_begun cmp from x) (is_from cmp at x)

  -- the range from the value on has the rest
  pub high_has : (from : Option T) (at x : T) → has_begun cmp from at ≡ true
      → has cmp (range (Some at) None) x ≡ has cmp (range from None) x && is_from cmp at x
  high_has from at x begun =
      high_test (has_begun cmp from x) (is_from cmp at x) (begun_on from at x begun)

-- a value that isn't before the start is in the first range or in a later one
in_first : (b t : Bool) → b ≡ true → t ≡ false → b && not t ≡ true
in_first true false begun early = refl
in_first true true begun early = cc
in_first false t begun early = cc

which : {T : Type 0} (cmp : T → T → Ordering) (from : Option T) (c : Cut T) (cs : List (Cut T)) (x : T)
    → has_begun cmp from x ≡ true → (late : Bool) → is_from cmp c.at x ≡ late
    → (is_from cmp c.at x ≡ true → (i : ℕ) × (i ≤ length cs) × (has cmp (range_at (Some c.at) cs i) x ≡ true))
    → (i : ℕ) × (i ≤ length (c ∷ cs)) × (has cmp (range_at from (c ∷ cs) i) x ≡ true)
which cmp from c cs x begun true late behind =
    let (i, within, lies) = behind late in
    (suc i, omega (arith, within), behind_first i lies)
  where
    behind_first : (i : ℕ) → has cmp (range_at (Some c.at) cs i) x ≡ true
        → has cmp (range_at from (c ∷ cs) (suc i)) x ≡ true
    behind_first zero lies = lies
    behind_first (suc i) lies = lies
which cmp from c cs x begun false early behind =
    (0, omega arith, in_first (has_begun cmp from x) (is_from cmp c.at x) begun early)

lies_from : {T : Type 0} (cmp : T → T → Ordering) (from : Option T) (cuts : List (Cut T)) (x : T)
    → has_begun cmp from x ≡ true → (i : ℕ) × (i ≤ length cuts) × (has cmp (range_at from cuts i) x ≡ true)
lies_from cmp from [] x begun = (0, omega arith, in_first (has_begun cmp from x) false begun refl)
lies_from cmp from (c ∷ cs) x begun =
    which cmp from c cs x begun (is_from cmp c.at x) refl (λ late. lies_from cmp (Some c.at) cs x late)

-- the ranges contain each value, wherever they are cut
pub have_each : {T : Type 0} (cmp : T → T → Ordering) (cuts : List (Cut T)) → HaveEach cmp cuts
have_each cmp cuts = λ x. lies_from cmp None cuts x refl

-- one item more of a list that a test splits
more_parted : {X : Type 0} (a l : Bool) (x : X) (xs early late : List X) → xs ≡ early ++ late → (l ≡ true → early ≡ [])
    → cond a (x ∷ xs) xs ≡ cond (a && not l) (x ∷ early) early ++ cond (a && l) (x ∷ late) late
more_parted true true x xs early late is none = rw (is, none refl) refl
more_parted true false x xs early late is none = ap (λ ys. x ∷ ys) is
more_parted false true x xs early late is none = is
more_parted false false x xs early late is none = is

-- an item that passes the test isn't in the first part
late_left_out : (a l : Bool) → l ≡ true → a && not l ≡ false
late_left_out true true late = refl
late_left_out false true late = refl
late_left_out true false late = sym late
late_left_out false false late = refl

-- if all items pass the test, the first part is empty
none_early : {X : Type 0} (all late : X → Bool) (xs : List X) → All (λ x. late x ≡ true) xs
    → filter (λ x. all x && not (late x)) xs ≡ []
none_early all late [] each = refl
none_early all late (x ∷ xs) each =
    rw (late_left_out (all x) (late x) (each 0 x (omega arith)))
    (none_early all late xs (λ k d within. each (suc k) d (omega (arith, within))))

-- if no item that passes the test comes before one that doesn't, filtering can be done for each kind separately
pub filter_parted : {X : Type 0} (all late : X → Bool) (xs : List X)
    → AllPairs (λ x y. late x ≡ true → late y ≡ true) xs
    → filter all xs ≡ filter (λ x. all x && not (late x)) xs ++ filter (λ x. all x && late x) xs
filter_parted all late [] rise = refl
filter_parted {X} all late (x ∷ xs) rise =
    more_parted (all x) (late x) x (filter all xs) (filter (λ (y : X). all y && not (late y)) xs)
    (filter (λ (y : X). all y && late y) xs)
    (filter_parted all late xs
    (λ i j d before within. rise (suc i) (suc j) d (omega (arith, before)) (omega (arith, within))))
    (λ first. none_early all late xs (λ k d within. rise 0 (suc k) d (omega arith) (omega (arith, within)) first))
