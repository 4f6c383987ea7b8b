-- Rows without a collision stay without one if some are replaced by parts of themselves.
use Rattle.std.proofs.Common.{◌≡◌, List, [], ◌∷◌, ◌++◌, map, Bool, true, false, not, cond, refl, sym, ◌∙◌}
use Rattle.std.proofs.lemmas.Bool.{or_from, or_parts}
use Rattle.std.specs.Prelude.{filter, flat_map}
use Rattle.std.specs.List.{list_any, AllByRecursion}
use Rattle.version_core.specs.Collisions.{have_pair}

pub append-all : {X : Type 0} (P : X → Type 0) (xs ys : List X) → AllByRecursion P xs → AllByRecursion P ys
    → AllByRecursion P (xs ++ ys)
append-all P [] ys h k = k
append-all P (x ∷ xs) ys h k = (h.0, append-all P xs ys h.1 k)

pub append-parts : {X : Type 0} (P : X → Type 0) (xs ys : List X) → AllByRecursion P (xs ++ ys) → AllByRecursion P xs
    × AllByRecursion P ys
append-parts P [] ys h = (tt, h)
append-parts P (x ∷ xs) ys h = let rest = append-parts P xs ys h.1 in ((h.0, rest.0), rest.1)

map-all : {X : Type 0} (P Q : X → Type 0) (xs : List X) → ((x : X) → P x → Q x) → AllByRecursion P xs
    → AllByRecursion Q xs
map-all P Q [] f h = tt
map-all P Q (x ∷ xs) f h = (f x h.0, map-all P Q xs f h.1)

module _ {X : Type 0} (test : X → X → Bool) where
  -- the test holds for x and none of the elements
  abbrev pub Misses : X → List X → Type 0
  Misses x ys = AllByRecursion (λ y. test x y ≡ false) ys

  -- it holds for no two of the elements
  abbrev pub AreApart : List X → Type 0
  AreApart [] = Unit {0}
  AreApart (x ∷ xs) = Misses x xs × AreApart xs

  none-any : (x : X) (xs : List X) → list_any (test x) xs ≡ false → Misses x xs
  none-any x [] h = tt
  none-any x (y ∷ ys) h = let both = or_parts (test x y) (list_any (test x) ys) h in (both.0, none-any x ys both.1)

  any-none : (x : X) (xs : List X) → Misses x xs → list_any (test x) xs ≡ false
  any-none x [] h = refl
  any-none x (y ∷ ys) h = or_from (test x y) (list_any (test x) ys) h.0 (any-none x ys h.1)

  pub apart-from_none : (xs : List X) → have_pair test xs ≡ false → AreApart xs
  apart-from_none [] h = tt
  apart-from_none (x ∷ xs) h =
      let both = or_parts (list_any (test x) xs) (have_pair test xs) h in
      (none-any x xs both.0, apart-from_none xs both.1)

  pub none-from_apart : (xs : List X) → AreApart xs → have_pair test xs ≡ false
  none-from_apart [] h = refl
  none-from_apart (x ∷ xs) h =
      or_from (list_any (test x) xs) (have_pair test xs) (any-none x xs h.0) (none-from_apart xs h.1)

  -- two lists apart, if no element of one passes with an element of the other
  apart-append : (xs ys : List X) → AreApart xs → AreApart ys → AllByRecursion (λ x. Misses x ys) xs
      → AreApart (xs ++ ys)
  apart-append [] ys a b across = b
  apart-append (x ∷ xs) ys a b across =
      (append-all (λ y. test x y ≡ false) xs ys a.0 across.0, apart-append xs ys a.1 b across.1)

  module _ (flips : (a b : X) → test a b ≡ test b a) where
    missed : (x : X) (zs : List X) → AllByRecursion (λ z. test z x ≡ false) zs → Misses x zs
    missed x zs h = map-all (λ z. test z x ≡ false) (λ z. test x z ≡ false) zs (λ z e. flips x z ∙ e) h

    -- elements inserted in the middle
    pub apart-between : (xs zs ys : List X) → AreApart (xs ++ ys) → AreApart zs
        → AllByRecursion (λ z. Misses z (xs ++ ys)) zs → AreApart (xs ++ (zs ++ ys))
    apart-between [] zs ys a b across = apart-append zs ys b a across
    apart-between (x ∷ xs) zs ys a b across =
        let parts = append-parts (λ y. test x y ≡ false) xs ys a.0 in (
          append-all (λ y. test x y ≡ false) xs (zs ++ ys) parts.0
              (append-all (λ y. test x y ≡ false) zs ys
              (missed x zs
              (map-all (λ z. Misses z (x ∷ (xs ++ ys))) (λ z. test z x ≡ false) zs (λ z h. h.0) across)) parts.1),
          apart-between xs zs ys a.1 b
              (map-all (λ z. Misses z (x ∷ (xs ++ ys))) (λ z. Misses z (xs ++ ys)) zs (λ z h. h.1) across),
        )

    -- an element that passes with the part passes with the whole
    abbrev pub IsPartOf : X → X → Type 0
    IsPartOf whole part = (e : X) → test part e ≡ true → test whole e ≡ true

    part-misses : (whole part e : X) → IsPartOf whole part → test whole e ≡ false → (b : Bool) → test part e ≡ b
        → b ≡ false
    part-misses whole part e inside none false h = refl
    part-misses whole part e inside none true h = sym (inside e h) ∙ none

    -- a list in which the elements that pass are replaced by their parts
    module _ {R : Type 0} (shape : R → X) (goes : R → Bool) (parts : R → List X)
        (inside : (r : R) → AllByRecursion (IsPartOf (shape r)) (parts r)) (apart : (r : R) → AreApart (parts r)) where
      abbrev stay : List R → List X
      stay rows = map shape (filter (λ r. not (goes r)) rows)

      abbrev come : List R → List X
      come rows = flat_map parts (filter goes rows)

      misses-parts : (e whole : X) (ps : List X) → test e whole ≡ false → AllByRecursion (IsPartOf whole) ps
          → Misses e ps
      misses-parts e whole [] none h = tt
      misses-parts e whole (p ∷ ps) none h = (
        flips e p
            ∙ part-misses whole p e h.0 (flips whole e ∙ none) (test p e) refl,
        misses-parts e whole ps none h.1,
      )

      misses-all : (e : X) (rows : List R) → Misses e (map shape rows) → Misses e (stay rows ++ come rows)
      misses-all e [] h = tt
      misses-all e (r ∷ rows) h = by_test (misses-all e rows h.1) (goes r) where
        by_test : Misses e (stay rows ++ come rows) → (b : Bool)
            → Misses e
            (map shape
            (cond (not b) (r ∷ filter (λ r. not (goes r)) rows) (filter (λ r. not (goes r)) rows)) ++ flat_map parts
            (cond b (r ∷ filter goes rows) (filter goes rows)))
        by_test rest false = (h.0, rest)
        by_test rest true =
            let both = append-parts (λ y. test e y ≡ false) (stay rows) (come rows) rest in
            append-all (λ y. test e y ≡ false) (stay rows) (parts r ++ come rows) both.0
            (append-all (λ y. test e y ≡ false) (parts r) (come rows)
            (misses-parts e (shape r) (parts r) h.0 (inside r)) both.1)

      all-miss : (whole : X) (ps : List X) (ys : List R) → AllByRecursion (IsPartOf whole) ps
          → Misses whole (map shape ys) → AllByRecursion (λ p. Misses p (stay ys ++ come ys)) ps
      all-miss whole [] ys h m = tt
      all-miss whole (p ∷ ps) ys h m = (
        misses-all p ys
            (map-all (λ y. test whole y ≡ false) (λ y. test p y ≡ false) (map shape ys)
            (λ y none. part-misses whole p y h.0 none (test p y) refl) m),
        all-miss whole ps ys h.1 m,
      )

      pub apart-replaced : (rows : List R) → AreApart (map shape rows) → AreApart (stay rows ++ come rows)
      apart-replaced [] h = tt
      apart-replaced (r ∷ rows) h = by_test (apart-replaced rows h.1) (goes r) where
        by_test : AreApart (stay rows ++ come rows) → (b : Bool)
            → AreApart
            (map shape
            (cond (not b) (r ∷ filter (λ r. not (goes r)) rows) (filter (λ r. not (goes r)) rows)) ++ flat_map parts
            (cond b (r ∷ filter goes rows) (filter goes rows)))
        by_test rest false = (misses-all (shape r) rows h.0, rest)
        by_test rest true =
            apart-between (stay rows) (parts r) (come rows) rest (apart r)
            (all-miss (shape r) (parts r) rows (inside r) h.0)
