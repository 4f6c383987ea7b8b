-- The number of advances to report.
use Rattle.std.proofs.Common.{◌≡◌, ℕ, ◌+◌, ◌*◌, ◌≤◌, List, length, map, max, ap, ◌∙◌, arith}
use Rattle.std.proofs.lemmas.List.{length-map}
use Rattle.std.proofs.lemmas.Nat.{mul-le}
use Rattle.std.proofs.Math.Nat.{mul_comm}
use Rattle.dip_core.specs.declared.item.Item.{Item}
use Rattle.dip_core.specs.Division.{IsLeast}
use Rattle.dip_core.proofs.CrowdLemmas.{crowd-le-length}
use Rattle.match_core.specs.Items.{unclassed}
use Rattle.join_core.specs.declared.advances.Advances.{Advances}
use Rattle.join_core.specs.Found.{AreMade, HasParts, HoldAtMost}
use Rattle.join_core.specs.Join.{IsWithin}
use Rattle.join_core.proofs.LeastLemmas.{IsDivision-unclassed, crowd-unclassed, least-few, least_once}

-- no more items hold at once than the least number of parts
least-hold : (items : List Item) (k : ℕ) → IsLeast (map unclassed items) k → HoldAtMost k items
least-hold items k least = λ t.
    (let bare = crowd-unclassed items t in
    let most = crowd-le-length (map unclassed items) least.reached.0 least.reached.1 t in
    let number = least.reached.2 in
    omega (arith, bare, most, number))

-- no division has fewer parts than the least number
least-parts : (items : List Item) (k n : ℕ) → IsLeast (map unclassed items) k → HasParts items n → k ≤ n
least-parts items k n least has =
    let few : k ≤ length (map (map unclassed) has.division) =
    least.least (map (map unclassed) has.division) (IsDivision-unclassed items has.division has.divides) in
    let same = length-map has.division (map unclassed) in
    let number = has.len in
    omega (arith, few, same, number)

module _ (left right : List Item) (advances : Advances) (are : AreMade left right advances) where
  -- the advances that were made are within the upper bound
  most : (k m : ℕ) → IsLeast (map unclassed left) k → IsLeast (map unclassed right) m
      → advances.made ≤ m * length left + k * length right
  most k m lk lm = are.at_most k m (least-hold left k lk) (least-hold right m lm)

  -- if they are at least the number of pairs of parts, they are within both bounds
  pub IsWithin-enough : advances.left_parts * advances.right_parts ≤ advances.made → (k m : ℕ)
      → IsLeast (map unclassed left) k → IsLeast (map unclassed right) m
      → IsWithin k m (length left) (length right) advances.made
  IsWithin-enough enough k m lk lm =
      let lefts = least-parts left k advances.left_parts lk are.lefts in
      let rights = least-parts right m advances.right_parts lm are.rights in
      let product = mul-le k m advances.left_parts advances.right_parts lefts rights in
      record { at_least = omega (arith, product, enough); at_most = most k m lk lm }

  -- otherwise the product of the least numbers is
  pub IsWithin-greater : (i j turns : ℕ) → IsLeast (map unclassed left) i → IsLeast (map unclassed right) j
      → turns ≡ max advances.made (i * j) → (k m : ℕ) → IsLeast (map unclassed left) k
      → IsLeast (map unclassed right) m → IsWithin k m (length left) (length right) turns
  IsWithin-greater i j turns li lj e k m lk lm =
      let one : i ≡ k = least_once (map unclassed left) i k li lk in
      let other : j ≡ m = least_once (map unclassed right) j m lj lm in
      let product : i * j ≡ k * m = ap (λ n. n * j) one ∙ ap (λ n. k * n) other in
      let swap : k * m ≡ m * k = mul_comm k m in
      let some = mul-le m k m (length left) (omega arith) (least-few left k lk) in
      let upto = most k m lk lm in
      record { at_least = omega (arith, e, product); at_most = omega (arith, e, product, swap, some, upto) }
