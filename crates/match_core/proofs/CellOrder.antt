-- The order of sort keys, and their equality.
use Rattle.std.proofs.Common.{◌≡◌, Bool, true, false, refl, sym, ap, ◌∙◌}
use Rattle.std.specs.Bool.{Decides}
use Rattle.std.specs.Cmp.{IsTotalOrder}
use Rattle.std.specs.Ordering.{is_lt, is_eq, ordering_reverse}
use Rattle.std.specs.declared.cmp.Ordering.{Ordering}
use Rattle.std.specs.declared.cmp.Ordering.TheVariants.{Less, Equal, Greater}
use Rattle.std.proofs.lemmas.Cmp.{then_total, on_total, nat_cmp_total, tied_itself, tied_back}
use Rattle.match_core.specs.declared.cells.Cell.{Cell}
use Rattle.match_core.specs.Cells.{cell_cmp, is_before, same_cell}

-- the boolean tests of an order decide it
equal-decides : (o : Ordering) → Decides (is_eq o) (o ≡ Equal)
equal-decides Less = ((λ h. absurd (cc)), (λ h. absurd (cc)))
equal-decides Equal = ((λ h. refl), (λ h. refl))
equal-decides Greater = ((λ h. absurd (cc)), (λ h. absurd (cc)))

less_from : (o : Ordering) → is_lt o ≡ true → o ≡ Less
less_from Less e = refl
less_from Equal e = absurd (cc)
less_from Greater e = absurd (cc)

-- The same current class and the same value.
abbrev pub SameCell : {V : Type 0} → (V → V → Ordering) → Cell V → Cell V → Type 0
SameCell cmp a b = cell_cmp cmp a b ≡ Equal

-- the boolean test decides whether sort keys are equal
pub same_cell-decides : {V : Type 0} (cmp : V → V → Ordering) (a b : Cell V)
    → Decides (same_cell cmp a b) (SameCell cmp a b)
same_cell-decides cmp a b = equal-decides (cell_cmp cmp a b)

-- the test is false for keys that are not equal
pub known_apart : {V : Type 0} (cmp : V → V → Ordering) (a b : Cell V) → (SameCell cmp a b → ⊥)
    → same_cell cmp a b ≡ false
known_apart cmp a b other = by_test (same_cell cmp a b) refl where
  by_test : (t : Bool) → same_cell cmp a b ≡ t → same_cell cmp a b ≡ false
  by_test true e = absurd (other ((same_cell-decides cmp a b).0 e))
  by_test false e = e

-- a key that comes before another one isn't equal to it
pub before-differs : {V : Type 0} (cmp : V → V → Ordering) (a b : Cell V) → is_before cmp a b ≡ true
    → same_cell cmp a b ≡ false
before-differs cmp a b less = ap is_eq (less_from (cell_cmp cmp a b) less)

-- the order of sort keys is total
pub cell_total : {V : Type 0} (cmp : V → V → Ordering) → IsTotalOrder cmp → IsTotalOrder (cell_cmp cmp)
cell_total {V} cmp total = then_total (on_total (λ (x : Cell V). x.class) nat_cmp_total)
    (on_total (λ (x : Cell V). x.value) total)

module _ {V : Type 0} (cmp : V → V → Ordering) (total : IsTotalOrder cmp) where
  -- a key is equal to itself
  pub SameCell-itself : (a : Cell V) → SameCell cmp a a
  SameCell-itself a = tied_itself (cell_total cmp total) a

  -- equality is symmetric
  pub SameCell-sym : (a b : Cell V) → SameCell cmp a b → SameCell cmp b a
  SameCell-sym a b s = tied_back (cell_total cmp total) a b s

  -- equality is transitive
  pub SameCell-trans : (a b c : Cell V) → SameCell cmp a b → SameCell cmp b c → SameCell cmp a c
  SameCell-trans a b c s t = (cell_total cmp total).congr a b c s ∙ t

  -- the order is transitive
  pub before-trans : (a b c : Cell V) → is_before cmp a b ≡ true → is_before cmp b c ≡ true
      → is_before cmp a c ≡ true
  before-trans a b c h k =
      ap is_lt
      ((cell_total cmp total).trans a b c (less_from (cell_cmp cmp a b) h) (less_from (cell_cmp cmp b c) k))

  -- if two keys differ and the first doesn't come first, the second does
  pub after-from : (a b : Cell V) → is_before cmp a b ≡ false → same_cell cmp a b ≡ false → is_before cmp b a ≡ true
  after-from a b h k = by_cmp (cell_cmp cmp a b) refl h k where
    by_cmp : (o : Ordering) → cell_cmp cmp a b ≡ o → is_lt o ≡ false → is_eq o ≡ false → is_before cmp b a ≡ true
    by_cmp Less e t u = absurd (cc)
    by_cmp Equal e t u = absurd (cc)
    by_cmp Greater e t u = ap is_lt ((cell_total cmp total).antisymm b a ∙ ap ordering_reverse e)

  -- a key that comes after another one isn't equal to it
  pub after-differs : (a b : Cell V) → is_before cmp b a ≡ true → same_cell cmp a b ≡ false
  after-differs a b less =
      known_apart cmp a b
      (λ s. let bad : true ≡ false = sym less ∙ ap is_lt (SameCell-sym a b s) in cc)

  -- a key comes before both of two equal keys, or before neither
  pub before-same : (a x y : Cell V) → SameCell cmp x y → is_before cmp a x ≡ is_before cmp a y
  before-same a x y s =
      ap is_lt
      ((cell_total cmp total).antisymm a x ∙ ap ordering_reverse ((cell_total cmp total).congr x y a s)
      ∙ sym ((cell_total cmp total).antisymm a y))
