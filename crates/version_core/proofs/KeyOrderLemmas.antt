-- The order of rows by key and start is total, and keys that compare as `Equal` are equal.
use Rattle.std.proofs.Common.{◌≡◌, ℕ, List, [], ◌∷◌, Bool, true, false, ◌&&◌, refl, sym, ap, ◌∙◌}
use Rattle.std.proofs.lemmas.Bool.{and_parts}
use Rattle.std.specs.Prelude.{slice_get}
use Rattle.std.specs.declared.cmp.Ordering.{Ordering}
use Rattle.std.specs.declared.cmp.Ordering.TheVariants.{Less, Equal, Greater}
use Rattle.std.specs.Ordering.{is_eq, is_lt, ordering_then, ordering_reverse}
use Rattle.std.specs.Cmp.{IsTotalOrder}
use Rattle.std.proofs.lemmas.Cmp.{int_cmp_total, then_total, on_total}
use Rattle.list_core.proofs.OrderedLemmas.{both_tie}
use Rattle.row_core.specs.ValueOrder.{maybe_cmp, same_maybe}
use Rattle.row_core.specs.declared.value.Value.{Value}
use Rattle.row_core.proofs.ValueLemmas.{maybe-same, maybe-tie, maybe_total}
use Rattle.row_core.specs.declared.draft.Draft.{Draft}
use Rattle.version_core.specs.Collisions.{same_key}
use Rattle.version_core.specs.KeyOrder.{key_cmp, row_cmp}

-- the order of keys is total
pub key_total : (key : List ℕ) → IsTotalOrder (key_cmp key)
key_total [] = record { antisymm = λ x y. refl; trans = λ x y z e f. e; congr = λ x y z e. refl }
key_total (column ∷ columns) =
    then_total (on_total (λ (values : List Value). slice_get values column) maybe_total) (key_total columns)

-- so is the order of rows
pub row_total : (key : List ℕ) → IsTotalOrder (row_cmp key)
row_total key =
    then_total (on_total (λ (row : Draft). row.values) (key_total key))
    (on_total (λ (row : Draft). row.period.from) int_cmp_total)

-- ---- equal keys

-- keys that compare as `Equal` are equal
pub key-same : (key : List ℕ) (a b : List Value) → key_cmp key a b ≡ Equal → same_key key a b ≡ true
key-same [] a b e = refl
key-same (column ∷ columns) a b e =
    let both = both_tie (maybe_cmp (slice_get a column) (slice_get b column)) (key_cmp columns a b) e in
    ap (λ t. t && same_key columns a b) (maybe-same (slice_get a column) (slice_get b column) both.0)
    ∙ key-same columns a b both.1

-- and conversely
pub key-tie : (key : List ℕ) (a b : List Value) → same_key key a b ≡ true → key_cmp key a b ≡ Equal
key-tie [] a b e = refl
key-tie (column ∷ columns) a b e =
    let both = and_parts (same_maybe (slice_get a column) (slice_get b column)) (same_key columns a b) e in
    ap (λ o. ordering_then o (key_cmp columns a b)) (maybe-tie (slice_get a column) (slice_get b column) both.0)
    ∙ key-tie columns a b both.1

pub key-is_eq : (key : List ℕ) (a b : List Value) → is_eq (key_cmp key a b) ≡ same_key key a b
key-is_eq key a b = by_cmp (key_cmp key a b) refl (same_key key a b) refl where
  by_cmp : (o : Ordering) → key_cmp key a b ≡ o → (t : Bool) → same_key key a b ≡ t → is_eq o ≡ t
  by_cmp Equal e true f = refl
  by_cmp Equal e false f = sym (key-same key a b e) ∙ f
  by_cmp Less e false f = refl
  by_cmp Greater e false f = refl
  by_cmp Less e true f = let g = key-tie key a b f in let bad : Less ≡ Equal = sym e ∙ g in cc
  by_cmp Greater e true f = let g = key-tie key a b f in let bad : Greater ≡ Equal = sym e ∙ g in cc

pub same_key-flips : (key : List ℕ) (a b : List Value) → same_key key a b ≡ same_key key b a
same_key-flips key a b =
    sym (key-is_eq key a b) ∙ ap is_eq ((key_total key).antisymm a b) ∙ flipped (key_cmp key b a)
    ∙ key-is_eq key b a where
      flipped : (o : Ordering) → is_eq (ordering_reverse o) ≡ is_eq o
      flipped Less = refl
      flipped Equal = refl
      flipped Greater = refl

-- a key between two equal ones equals both
pub key-between : (key : List ℕ) (x y z : List Value) → key_cmp key x z ≡ Equal → is_lt (key_cmp key y x) ≡ false
    → is_lt (key_cmp key z y) ≡ false → key_cmp key x y ≡ Equal
key-between key x y z tie low high =
    by_cmp (key_cmp key x y) (ap is_lt ((key_total key).antisymm y x) ∙ refl)
    (ap is_lt ((key_total key).congr x z y tie) ∙ high) low
  where
    by_cmp : (o : Ordering) → is_lt (key_cmp key y x) ≡ is_lt (ordering_reverse o) → is_lt o ≡ false
        → is_lt (key_cmp key y x) ≡ false → o ≡ Equal
    by_cmp Less e f g = cc
    by_cmp Equal e f g = refl
    by_cmp Greater e f g = let bad : true ≡ false = sym e ∙ g in cc
