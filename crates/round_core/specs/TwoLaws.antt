-- Lists of steps in twos are numbered pairs: each name has one number, and each number one name.
use Rattle.std.proofs.Common.{◌≡◌, ℕ, ◌+◌, ◌*◌, ◌/◌, ◌<◌, ◌≤◌, Bool, true, ◌&&◌, Option, Some, None, refl, ap, ◌∙◌, arith}
use Rattle.std.specs.Prelude.{nat_lt, nat_eq, if◌then◌else◌}
use Rattle.std.proofs.Props.{props}
use Rattle.std.proofs.lemmas.Bool.{and_parts, eq-eqb, eqb-true, lt-ltb, ltb-true}
use Rattle.std.proofs.lemmas.Option.{cond_some}
use Rattle.dip_core.specs.Item.{item_limit}
use Rattle.merge_core.specs.declared.tally.Tally.{Tally}
use Rattle.merge_core.specs.Tallies.{both}
use Rattle.merge_core.specs.Steps.{StepList, IsBoth, tally_at}
use Rattle.work_core.specs.declared.name.PairName.{PairName}
use Rattle.work_core.specs.Limits.{pair_limit}
use Rattle.round_core.specs.Twos.{has_two_name, two_name, two_place}

-- the value if the test holds
tested : (a : Bool) (x : Option ℕ) → a ≡ true → (if a then x else None) ≡ x
tested a x p = rw p refl

-- there are at most as many pairs as a job may have
pub few_twos : (n : ℕ) → n ≤ item_limit → n / 2 ≤ pair_limit
few_twos n h = omega arith

-- two tests that hold
both_hold : {a b : Bool} → a ≡ true → b ≡ true → (a && b) ≡ true
both_hold p q = rw (p, q) refl

-- the numbers in a pair's name, by its number
left_of : (left half i : ℕ) → left ≡ half * 2 → half ≡ i → i * 2 ≡ left
left_of left half i a b = omega arith

right_of : (right half i : ℕ) → right ≡ half * 2 + 1 → half ≡ i → i * 2 + 1 ≡ right
right_of right half i a b = omega arith

below : (half i n : ℕ) → half < n → half ≡ i → i < n
below half i n a b = omega arith

-- a pair is found by its name
pub two_placed : (n i : ℕ) → i < n / 2 → two_place n (two_name i) ≡ Some i
two_placed n i h =
    let half : (i * 2 + 1) / 2 ≡ i = omega arith in
    let whole : two_place n (two_name i) ≡ Some ((i * 2 + 1) / 2) =
    tested _ (Some ((i * 2 + 1) / 2))
    (both_hold (lt-ltb ((i * 2 + 1) / 2) (n / 2) (omega arith))
    (both_hold (eq-eqb (i * 2) ((i * 2 + 1) / 2 * 2) (omega arith))
    (eq-eqb (i * 2 + 1) ((i * 2 + 1) / 2 * 2 + 1) (omega arith)))) in
    whole ∙ ap (λ (j : ℕ). Some j) half

-- the pair that is found has that name
pub two_named : (n : ℕ) (p : PairName) (i : ℕ) → two_place n p ≡ Some i → (i < n / 2) × (two_name i ≡ p)
two_named n p i e =
    let t = cond_some (nat_lt (p.right / 2) (n / 2) && has_two_name (p.right / 2) p) (p.right / 2) i e in
    let whole = and_parts (nat_lt (p.right / 2) (n / 2)) (has_two_name (p.right / 2) p) t.0 in
    let name = and_parts (nat_eq p.left (p.right / 2 * 2)) (nat_eq p.right (p.right / 2 * 2 + 1)) whole.1 in
    let inside = ltb-true (p.right / 2) (n / 2) whole.0 in
    let left = eqb-true p.left (p.right / 2 * 2) name.0 in
    let right = eqb-true p.right (p.right / 2 * 2 + 1) name.1 in
    let l : i * 2 ≡ p.left = left_of p.left (p.right / 2) i left t.1 in
    let r : i * 2 + 1 ≡ p.right = right_of p.right (p.right / 2) i right t.1 in
    (below (p.right / 2) i (n / 2) inside t.1, λ k. record { left = l k; right = r k })

Tallies-set : IsSet (Option Tally)
Tallies-set = hlevel props

number_prop : (a b : ℕ) → IsProp (a ≡ b)
number_prop a b = hlevel props

-- being the sum of two lists is a proposition
pub both_prop : (one other list : StepList) → IsProp (IsBoth one other list)
both_prop one other list v w = λ k. record {
  tallies = λ t.
      Tallies-set (tally_at list.steps t) (both (tally_at one.steps t) (tally_at other.steps t)) (v.tallies t)
      (w.tallies t) k;
  weight = number_prop list.weight (one.weight + other.weight) v.weight w.weight k;
}
