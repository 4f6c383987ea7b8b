-- Vectors that are written through slices.
use Rattle.std.proofs.Common.{◌≡◌, ◌∙◌, ℕ, List, ◌++◌, length, take, drop, ap, arith}
use Rattle.std.proofs.lemmas.List.{append-nil, take_all, drop_all}

-- a vector's items after they were written through a slice
pub written_back : {X : Type 0} (old new : List X) (n : ℕ) → length new ≡ length old → length old ≡ n
    → take n (new ++ drop (length new) old) ≡ new
written_back old new n e f =
    let rest : new ++ drop (length new) old ≡ new = ap (λ l. new ++ l) (drop_all (length new) old (omega (arith, e)))
    ∙ append-nil new in
    ap (take n) rest ∙ take_all n new (omega (arith, e, f))
