-- The views of new seats.
use Rattle.std.proofs.Common.{◌≡◌, ℕ, zero, suc, ◌+◌, ◌-◌, ◌*◌, ◌⊎◌, inl, inr, ⊎_elim, List, [], ◌∷◌, ◌++◌, length, slice_get, Some, sym, refl, ap, ◌∙◌, subst, arith}
use Rattle.std.specs.Option.{unwrap_or}
use Rattle.std.proofs.lemmas.Option.{slice_get_within}
use Rattle.turn_core.specs.Limits.{call_limit}
use Rattle.turn_core.specs.Steps.{view_from, following, fresh, rested}

pub following-next : {E : Type 0} (n seats : ℕ) → following {E = E} (view_from n seats) ≡ view_from (n + 1) seats
following-next n seats =
    let e : seats - n - 1 ≡ seats - (n + 1) = omega arith in
    let e' : (seats + 1 - n) * call_limit - call_limit ≡ (seats + 1 - (n + 1)) * call_limit = omega arith in
    λ i. rested (n + 1) (n + 1) seats (e i) (e' i) [] []

module _ {A : Type 0} where
  get-push : (l : List A) (a s : A) (i : ℕ) → slice_get (l ++ a ∷ []) i ≡ Some s
      → (slice_get l i ≡ Some s) ⊎ ((i ≡ length l) × (a ≡ s))
  get-push [] a s zero e = inr (refl, ap (λ o. unwrap_or o a) e)
  get-push [] a s (suc i) e = absurd (let l = slice_get_within [] i s e in omega arith)
  get-push (x ∷ xs) a s zero e = inl e
  get-push (x ∷ xs) a s (suc i) e = ⊎_elim inl (λ t. inr (ap suc t.0, t.1)) (get-push xs a s i e)

  -- a fact about each element and its index, after one more was added
  pub each-push : (P : ℕ → A → Type 0) (l m : List A) (a : A) → m ≡ l ++ a ∷ []
      → ((i : ℕ) (s : A) → slice_get l i ≡ Some s → P i s) → P (length l) a
      → (i : ℕ) (s : A) → slice_get m i ≡ Some s → P i s
  each-push P l m a is each last i s at =
      ⊎_elim (each i s)
      (λ (t : (i ≡ length l) × (a ≡ s)). subst (λ (z : ℕ × A). P z.0 z.1) (λ k. (sym t.0 k, t.1 k)) last)
      (get-push l a s i (sym (ap (λ xs. slice_get xs i) is) ∙ at))

pub view_from-last : {E : Type 0} (n k seats : ℕ) → n ≡ seats → k + 1 ≡ n
    → view_from {E = E} n seats ≡ fresh (k + 1) seats
view_from-last n k seats last next =
    let number : n ≡ k + 1 = omega arith in
    let spare : seats - n ≡ 0 = omega arith in
    let left : (seats + 1 - n) * call_limit ≡ call_limit = omega arith in
    λ i. rested (number i) (number i) seats (spare i) (left i) [] []
