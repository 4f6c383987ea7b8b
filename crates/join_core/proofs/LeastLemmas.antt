-- The least number of parts depends only on the periods of the items.
use Rattle.std.proofs.Common.{◌≡◌, ℕ, ◌+◌, ◌<◌, ◌≤◌, ℤ, pos, List, [], ◌∷◌, ◌++◌, length, map, get_or, cond, Option, Some, None, refl, sym, subst, ap, ◌∙◌, arith}
use Rattle.std.specs.Prelude.{IsPermutation}
use Rattle.std.proofs.lemmas.List.{length-map, map-append, get_or-map, nil_from_length}
use Rattle.std.proofs.lemmas.List.Elements.{All-map}
use Rattle.std.proofs.lemmas.List.Sorted.{IsPermutation-map, length_permutation}
use Rattle.std.proofs.lemmas.List.Sums.{sum_by-cons}
use Rattle.period_core.specs.Period.{holds_at}
use Rattle.dip_core.specs.declared.item.Item.{Item}
use Rattle.dip_core.specs.Item.{crowd, IsApart}
use Rattle.dip_core.specs.Division.{all_of, IsDivision, IsLeast, IsInstantOf}
use Rattle.dip_core.proofs.AddedLemmas.{length-le-all_of}
use Rattle.dip_core.proofs.CrowdLemmas.{IsLeast-from_crowd, crowd-permutation}
use Rattle.match_core.specs.Items.{unclassed}

-- all items of the parts, without their classes
all_of-map : (parts : List (List Item)) → all_of (map (map unclassed) parts) ≡ map unclassed (all_of parts)
all_of-map [] = refl
all_of-map (p ∷ parts) =
    ap (λ l. map unclassed p ++ l) (all_of-map parts) ∙ sym (map-append unclassed p (all_of parts))

-- an item without its class has the same period
period_at : (items : List Item) (i : ℕ) (d : Item) → i < length items
    → (get_or (map unclassed items) i d).period ≡ (get_or items i d).period
period_at items i d h = ap (λ (x : Item). x.period) (get_or-map unclassed items i d d h)

-- items that don't overlap don't overlap without their classes
IsApart-unclassed : (items : List Item) → IsApart items → IsApart (map unclassed items)
IsApart-unclassed items apart i j d below within o =
    let n = length-map items unclassed in
    let one = period_at items i d (omega (arith, n)) in
    let other = period_at items j d (omega (arith, n)) in
    apart i j d below (omega (arith, n)) (rw (← one, ← other) o)

-- a division of items is a division of the items without classes
pub IsDivision-unclassed : (items : List Item) (parts : List (List Item)) → IsDivision items parts
    → IsDivision (map unclassed items) (map (map unclassed) parts)
IsDivision-unclassed items parts d = record {
  together = subst (IsPermutation (map unclassed items)) (sym (all_of-map parts))
      (IsPermutation-map unclassed items (all_of parts) d.together);
  filled = All-map (λ (p : List Item). 0 < length p) (map unclassed) parts
      (λ k e h. let n = length-map (get_or parts k e) unclassed in let some = d.filled k e h in omega (arith, n, some));
  apart = All-map IsApart (map unclassed) parts (λ k e h. IsApart-unclassed (get_or parts k e) (d.apart k e h));
}

-- the overlap count is the same without classes
pub crowd-unclassed : (items : List Item) (t : ℤ) → crowd (map unclassed items) t ≡ crowd items t
crowd-unclassed [] t = refl
crowd-unclassed (x ∷ items) t =
    sum_by-cons (λ (y : Item). cond (holds_at t y.period) 1 0) (unclassed x) (map unclassed items)
    ∙ ap (λ n. cond (holds_at t x.period) 1 0 + n) (crowd-unclassed items t)
    ∙ sym (sum_by-cons (λ (y : Item). cond (holds_at t y.period) 1 0) x items)

-- the overlap count at some instant is the number of parts
pub crowded : (items : List Item) (parts : List (List Item)) (instant : Option ℤ) → IsDivision items parts
    → IsInstantOf parts instant → (t : ℤ) × (crowd items t ≡ length parts)
crowded items parts None d is =
    let e : parts ≡ [] = is.none.0 refl in
    let n : length (all_of parts) ≡ length items = length_permutation items (all_of parts) d.together in
    let m : length (all_of parts) ≡ 0 = ap (λ l. length (all_of l)) e in
    let nothing : items ≡ [] = nil_from_length items (omega (arith, n, m)) in
    (pos 0, ap (λ l. crowd l (pos 0)) nothing ∙ sym (ap length e))
crowded items parts (Some t) d is =
    (t, sym (crowd-permutation items (all_of parts) d.together t) ∙ is.crowded.crowded)

-- a division with an instant is least without the classes
pub IsLeast-unclassed : (items : List Item) (parts : List (List Item)) (instant : Option ℤ) → IsDivision items parts
    → IsInstantOf parts instant → IsLeast (map unclassed items) (length parts)
IsLeast-unclassed items parts instant d is =
    let at = crowded items parts instant d is in
    let n : length (map (map unclassed) parts) ≡ length parts = length-map parts (map unclassed) in
    subst (IsLeast (map unclassed items)) n
    (IsLeast-from_crowd (map unclassed items) (map (map unclassed) parts) at.0 (IsDivision-unclassed items parts d)
    (crowd-unclassed items at.0 ∙ at.1 ∙ sym n))

-- the least number is unique
pub least_once : (items : List Item) (k n : ℕ) → IsLeast items k → IsLeast items n → k ≡ n
least_once items k n a b =
    let u = a.least b.reached.0 b.reached.1 in
    let v = b.least a.reached.0 a.reached.1 in
    let e = a.reached.2 in
    let f = b.reached.2 in
    omega (arith, u, v, e, f)

-- and is at most the number of items
pub least-few : (items : List Item) (k : ℕ) → IsLeast (map unclassed items) k → k ≤ length items
least-few items k least =
    let parts = least.reached.0 in
    let d = least.reached.1 in
    let number : length parts ≡ k = least.reached.2 in
    let all = length-le-all_of parts d.filled in
    let same = length_permutation (map unclassed items) (all_of parts) d.together in
    let n = length-map items unclassed in
    omega (arith, number, all, same, n)
