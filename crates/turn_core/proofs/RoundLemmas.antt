-- Changes of one view, and of the owners of numbers and tickets.
use Rattle.std.proofs.Common.{◌≡◌, ◌≢◌, ℕ, List, set, sym, refl, subst, ⊎_elim}
use mathlib.Core.Option.{some}
use lib.ListN.{get_elem?}
use Rattle.atomic_table.proofs.Lists.{at_set}

pub pick : {P : Type 0} → Dec P → ℕ → ℕ → ℕ
pick (yes _) a b = a
pick (no _) a b = b

pub pick-yes : {P : Type 0} (d : Dec P) (a b : ℕ) → P → pick d a b ≡ a
unfolding pick
pick-yes (yes _) a b p = refl
pick-yes (no n) a b p = absurd (n p)

pub pick-no : {P : Type 0} (d : Dec P) (a b : ℕ) → ¬ P → pick d a b ≡ b
unfolding pick
pick-no (yes p) a b n = absurd (n p)
pick-no (no _) a b n = refl

-- a fact about each view, after one of them changed
pub each-set : {A : Type 0} (Q : ℕ → A → Type 0) (vs : List A) (me : ℕ) (w : A) → Q me w → ((j : ℕ) (v : A)
    → j ≢ me → get_elem? vs j ≡ some v → Q j v)
    → (j : ℕ) (v : A) → get_elem? (set vs me w) j ≡ some v → Q j v
each-set {A} Q vs me w mine others j v at = ⊎_elim (λ (t : (j ≡ me) × (w ≡ v)). subst (λ (x : ℕ
    × A). Q x.0 x.1) (λ i. (sym t.0 i, t.1 i)) mine)
    (λ (t : (j ≢ me) × (get_elem? vs j ≡ some v)). others j v t.0 t.1) (at_set vs me j w v at)
