-- Laws on the numbers of pairs, for jobs whose pairs are numbered so.
use Rattle.std.specs.Prelude.{◌≡◌, ℕ, ◌+◌, ◌*◌, ◌/◌, ◌%◌, ◌<◌, ◌≤◌, Bool, true, Option, Some, None, if◌then◌else◌, ◌&&◌, nat_lt, refl}
use Rattle.std.proofs.Common.{arith, zero, suc, ap, sym, subst, ◌∙◌, mul-le-mul_right}
use Rattle.std.proofs.lemmas.Bool.{and_parts, lt-ltb, ltb-true}
use Rattle.std.proofs.lemmas.Option.{cond_some}
use Rattle.std.proofs.lemmas.Nat.{div-add-mod', div-mul-add, mod-mul-add}
use Rattle.std.proofs.Math.Nat.{div-lt_iff_lt-mul}
use Rattle.std.proofs.Math.Arith.{digits_lt}
use Rattle.dip_core.specs.Item.{item_limit}
use Rattle.work_core.specs.Limits.{pair_limit}
use Rattle.work_core.specs.declared.name.PairName.{PairName}
use Rattle.grid_core.specs.Grid.{grid_name, grid_place}

-- the value if both tests hold
both_tests : (a b : Bool) (x : Option ℕ) → a ≡ true → b ≡ true → (if a && b then x else None) ≡ x
both_tests a b x p q = rw (p, q) refl

-- the number of a number's pair is that number
pub grid_placed : (m n i : ℕ) → i < m * n → grid_place m n (grid_name n i) ≡ Some i
grid_placed m zero i h = absurd (grind arith)
grid_placed m (suc k) i h =
    let n : ℕ = suc k in
    let quotient : i / suc k < m = (div-lt_iff_lt-mul {k = suc k} {x = i} {y = m} (omega arith)).1 h in
    let rest : i % suc k < suc k = omega arith in
    both_tests (nat_lt (i / suc k) m) (nat_lt (i % suc k) (suc k)) (Some (i / suc k * suc k + i % suc k))
    (lt-ltb _ _ quotient) (lt-ltb _ _ rest)
    ∙ ap (λ (j : ℕ). Some j) (div-add-mod' i (suc k))

-- the pair of a pair's number is that pair
pub grid_named : (m n : ℕ) (p : PairName) (i : ℕ) → grid_place m n p ≡ Some i → (i < m * n) × (grid_name n i ≡ p)
grid_named m n p i e =
    let t = cond_some (nat_lt p.left m && nat_lt p.right n) (p.left * n + p.right) i e in
    let both = and_parts (nat_lt p.left m) (nat_lt p.right n) t.0 in
    let a = ltb-true p.left m both.0 in
    let b = ltb-true p.right n both.1 in
    let l : i / n ≡ p.left = ap (λ (j : ℕ). j / n) (sym t.1) ∙ div-mul-add p.left n p.right b in
    let r : i % n ≡ p.right = ap (λ (j : ℕ). j % n) (sym t.1) ∙ mod-mul-add p.left n p.right b in
    let h : p.left * n + p.right < m * n = digits_lt a b in
    let e' : p.left * n + p.right ≡ i = t.1 in
    (subst (λ (j : ℕ). j < m * n) e' h, λ k. record { left = l k; right = r k })

-- the pairs of two divisions are few enough for a job
pub few_pairs : (m n : ℕ) → m ≤ item_limit → n ≤ item_limit → m * n ≤ pair_limit
few_pairs m n a b =
    let h : m * n ≤ item_limit * n = mul-le-mul_right n a in
    omega (arith, h)

-- a truncated fact is a proposition
pub squashed_prop : (A : Type 0) → IsProp ∥ A ∥₁
squashed_prop A = squash₁
