-- Facts about options and about `||`.
use Rattle.std.proofs.Common.{◌≡◌, ◌||◌, ◌⊎◌, Bool, Option, Some, None, false, inl, inr, refl, subst, true}
use Rattle.std.specs.Prelude.{IfSome}

pub at_some : {X : Type 0} (P : X → Type 0) (o : Option X) (x : X) → o ≡ Some x → IfSome o P → P x
at_some P None x e h = absurd (cc)
at_some P (Some y) x e h = let same : y ≡ x = cc in subst P same h

-- one of two tests
pub any-true : (a b : Bool) → (a || b) ≡ true → (a ≡ true) ⊎ (b ≡ true)
any-true true b e = inl refl
any-true false b e = inr e
