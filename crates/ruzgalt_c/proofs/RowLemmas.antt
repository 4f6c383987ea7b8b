-- Rows as items, and the numbers of their parts.
use Rattle.std.proofs.Common.{◌≡◌, ◌⊎◌, ℕ, zero, suc, ◌+◌, ◌<◌, ◌≤◌, List, [], ◌∷◌, ◌++◌, length, get_or, arith, inl, inr, subst, sym, length-append}
use Rattle.std.specs.Prelude.{All, Contains}
use Rattle.std.proofs.lemmas.Bool.{cases_lt}
use Rattle.std.proofs.lemmas.List.{get_or_append_left, get_or_push}
use Rattle.list_core.proofs.RisingLemmas.{Contains-none}
use Rattle.dip_core.specs.declared.item.Item.{Item}
use Rattle.dip_core.specs.Item.{HasDistinctIds}
use Rattle.dip_core.specs.Division.{all_of, part_at}
use Rattle.dip_core.proofs.IdsLemmas.{HasDistinctIds-from_rising}
use Rattle.dip_core.proofs.PartedLemmas.{distinct-later, ids-apart}
use Rattle.dip_core.proofs.StepLemmas.{contains-all_of}
use Rattle.grid_core.specs.Bundles.{ClassesRise}
use Rattle.anti_core.specs.United.{StandByClass}
use Rattle.ruzgalt_c.specs.Rows.{AreRows, Columns, IsRow}

-- The next row as one more item.
pub rows-push : (rows : Columns) (items : List Item) (x : Item) (n : ℕ) → length items ≡ n
    → ((i : ℕ) (d : Item) → i < length items → IsRow rows i (get_or items i d)) → IsRow rows n x
    → (i : ℕ) (d : Item) → i < length (items ++ x ∷ []) → IsRow rows i (get_or (items ++ x ∷ []) i d)
rows-push rows items x n len each row i d h =
    let more : length (items ++ x ∷ []) ≡ length items + 1 = length-append items (x ∷ []) in
    elim (cases_lt i (length items)) [
      | inl less ↦ subst (IsRow rows i) (sym (get_or_append_left items (x ∷ []) d i less)) (each i d less)
      | inr last ↦
          let e : n ≡ i = omega (arith, len, more, h, last) in
          let here : length items ≡ i = omega (arith, len, e) in
          subst (IsRow rows i) (sym (get_or_push items x d i here)) (subst (λ k. IsRow rows k x) e row)
    ]

-- Ids are indices, so they are distinct.
pub distinct-from_rows : (rows : Columns) (items : List Item) → AreRows rows items → HasDistinctIds items
distinct-from_rows rows items are =
    HasDistinctIds-from_rising items (λ k d h.
    let one : (get_or items k d).id ≡ k = (are.each k d (omega arith)).id in
    let other : (get_or items (k + 1) d).id ≡ k + 1 = (are.each (k + 1) d h).id in
    omega (arith, one, other))

pub ids-within : (rows : Columns) (items : List Item) → AreRows rows items
    → All (λ (x : Item). x.id < length rows.from) items
ids-within rows items are k d h =
    let one : (get_or items k d).id ≡ k = (are.each k d h).id in
    let len : length items ≡ length rows.from = are.len in
    omega (arith, one, len, h)

-- If ids are distinct, items of different parts have different ids.
pub parts-apart : (parts : List (List Item)) (j k : ℕ) (x y : Item) → HasDistinctIds (all_of parts) → j < k
    → Contains (part_at parts j) x → Contains (part_at parts k) y → x.id ≡ y.id → ⊥
parts-apart [] j k x y distinct lt h m e = absurd (Contains-none x h)
parts-apart (p ∷ ps) j zero x y distinct lt h m e = absurd (omega arith)
parts-apart (p ∷ ps) zero (suc k) x y distinct lt h m e =
    ids-apart p (all_of ps) x y distinct h (contains-all_of ps k y m) e
parts-apart (p ∷ ps) (suc j) (suc k) x y distinct lt h m e =
    parts-apart ps j k x y (distinct-later p (all_of ps) distinct) (omega arith) h m e

-- Items by class and start have ascending classes.
pub rise-stand : (items : List Item) → StandByClass items → ClassesRise items
rise-stand items stand = λ i j d upto inside.
    (elim (equal_or_less i j upto) [
      | inl e ↦ subst (λ (k : ℕ). (get_or items i d).class ≤ (get_or items k d).class) e (omega arith)
      | inr less ↦ elim (stand i j d less inside) [
        | inl lower ↦ omega (arith, lower)
        | inr (same, earlier) ↦ omega (arith, same)
      ]
    ])
  where
    equal_or_less : (m n : ℕ) → m ≤ n → (m ≡ n) ⊎ (m < n)
    equal_or_less m n h = grind arith
