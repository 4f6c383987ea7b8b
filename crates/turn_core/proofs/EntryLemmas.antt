-- Prefixes of lists, and the entries of one caller.
use Rattle.std.proofs.Common.{◌≡◌, ◌≢◌, ℕ, zero, suc, ◌==◌, ◌<◌, ◌≤◌, ◌⊎◌, inl, inr, List, [], ◌∷◌, ◌++◌, All, length, sym, refl, ap, ◌∙◌, subst, arith, eq-eqb, ne_eqb, ⊎_elim, cond, Bool, append-nil, append_assoc, length-append, drop, get_or}
use Rattle.std.proofs.lemmas.List.{nil_from_length}
use Rattle.std.proofs.lemmas.List.Elements.{filter-append, All-push}
use mathlib.Core.Option.{some, some-injective, some-ne-none}
use mathlib.Core.List.{IsPrefix}
use lib.ListN.{get_elem?}
use Rattle.turn_core.specs.Entries.{own, AreOfCallers, AddsAtMostOne}
use Rattle.turn_core.specs.Steps.{longer}

-- an element of a list with one more at the end
pub at-push : {A : Type 0} (l : List A) (a b : A) (j : ℕ) → get_elem? (l ++ a ∷ []) j ≡ some b
    → (get_elem? l j ≡ some b) ⊎ ((j ≡ length l) × (a ≡ b))
at-push [] a b zero e = inr (refl, some-injective a b e)
at-push [] a b (suc j) e = absurd (some-ne-none b (sym e))
at-push (x ∷ xs) a b zero e = inl e
at-push (x ∷ xs) a b (suc j) e = ⊎_elim inl (λ t. inr (ap suc t.0, t.1)) (at-push xs a b j e)

pub prefix-trans : {A : Type 0} (xs ys zs : List A) → IsPrefix xs ys → IsPrefix ys zs → IsPrefix xs zs
prefix-trans xs ys zs (t, e) (u, f) = (t ++ u, sym (append_assoc xs t u) ∙ (ap (λ l. l ++ u) e ∙ f))

all-front : {E : Type 0} (P : E → Type 0) (xs ys : List E) → All P (xs ++ ys) → All P xs
all-front P [] ys h k d l = absurd (omega arith)
all-front P (x ∷ xs) ys h zero d l = h 0 d (omega arith)
all-front P (x ∷ xs) ys h (suc k) d l = all-front P xs ys (λ n e m. h (suc n) e (omega arith)) k d (omega arith)

pub numbered-front : {E : Type 0} (by : E → ℕ) (mark : ℕ) (xs ys : List E) → IsPrefix xs ys
    → AreOfCallers by mark ys → AreOfCallers by mark xs
numbered-front by mark xs ys (t, e) h =
    all-front (λ x. (0 < by x) × (by x ≤ mark)) xs t (subst (AreOfCallers by mark) (sym e) h)

-- the longer of two prefixes of a list is a prefix too, and both are prefixes of it
pub longer-meets : {A : Type 0} (xs ys t u : List A) → xs ++ t ≡ ys ++ u
    → IsPrefix (longer xs ys) (xs ++ t) × IsPrefix xs (longer xs ys) × IsPrefix ys (longer xs ys)
longer-meets [] ys t u e = ((u, sym e), (ys, refl), ([], append-nil ys))
longer-meets (x ∷ xs) [] t u e = ((t, refl), ([], append-nil (x ∷ xs)), (x ∷ xs, refl))
longer-meets {A} (x ∷ xs) (y ∷ ys) t u e =
    let r = longer-meets xs ys t u (ap (drop 1) e) in
    let head : y ≡ x = sym (ap (λ l. get_or l 0 x) e) in (
      (r.0.0, ap (λ (l : List A). x ∷ l) r.0.1),
      (r.1.0, ap (λ (l : List A). x ∷ l) r.1.1),
      (r.2.0, λ i. head i ∷ r.2.1 i),
    )

-- and it is one of the two
pub longer-one : {A : Type 0} (xs ys : List A) → IsPrefix ys (longer xs ys)
    → (longer xs ys ≡ xs) ⊎ (longer xs ys ≡ ys)
longer-one [] ys p = inr refl
longer-one (x ∷ xs) [] p = inl refl
longer-one {A} (x ∷ xs) (y ∷ ys) (t, e) =
    let head : x ≡ y = sym (ap (λ l. get_or l 0 x) e) in
    ⊎_elim (λ (h : longer xs ys ≡ xs). inl (ap (λ (l : List A). x ∷ l) h))
    (λ (h : longer xs ys ≡ ys). inr (λ i. head i ∷ h i)) (longer-one xs ys (t, ap (drop 1) e))

module _ {E : Type 0} (by : E → ℕ) where
  -- a list between two with the same entries of a caller has those entries too
  pub own-between : (p : ℕ) (xs ys zs : List E) → IsPrefix xs ys → IsPrefix ys zs → own by p xs ≡ own by p zs
      → own by p ys ≡ own by p xs
  own-between p xs ys zs (t, e) (u, f) same =
      let first : own by p ys ≡ own by p xs ++ own by p t =
      ap (own by p) (sym e) ∙ filter-append (λ x. by x == p) xs t in
      let second : own by p zs ≡ own by p ys ++ own by p u =
      ap (own by p) (sym f) ∙ filter-append (λ x. by x == p) ys u in
      let a = ap length first ∙ length-append (own by p xs) (own by p t) in
      let b = ap length second ∙ length-append (own by p ys) (own by p u) in
      let c = ap length same in
      first ∙ (ap (λ l. own by p xs ++ l) (nil_from_length (own by p t) (omega arith)) ∙ append-nil (own by p xs))

  own-one : (p : ℕ) (e : E) → by e ≡ p → own by p (e ∷ []) ≡ e ∷ []
  own-one p e h = ap (λ (b : Bool). cond b (e ∷ []) []) (eq-eqb (by e) p h)

  own-none : (p : ℕ) (e : E) → by e ≢ p → own by p (e ∷ []) ≡ []
  own-none p e h = ap (λ (b : Bool). cond b (e ∷ []) []) (ne_eqb (by e) p h)

  pub own-push : (p : ℕ) (xs : List E) (e : E) → by e ≡ p → own by p (xs ++ e ∷ []) ≡ own by p xs ++ e ∷ []
  own-push p xs e h =
      filter-append (λ x. by x == p) xs (e ∷ []) ∙ ap (λ ys. own by p xs ++ ys) (own-one p e h)

  own-other : (p : ℕ) (xs : List E) (e : E) → by e ≢ p → own by p (xs ++ e ∷ []) ≡ own by p xs
  own-other p xs e h =
      filter-append (λ x. by x == p) xs (e ∷ [])
      ∙ (ap (λ ys. own by p xs ++ ys) (own-none p e h) ∙ append-nil (own by p xs))

  -- an entry that caller q adds changes nothing for another caller
  pub own-added : (p q : ℕ) (xs ys : List E) → p ≢ q → AddsAtMostOne by q xs ys → own by p ys ≡ own by p xs
  own-added p q xs ys ne (inl same) = ap (own by p) same
  own-added p q xs ys ne (inr (e, of, is)) = ap (own by p) is ∙ own-other p xs e (λ h. ne (sym h ∙ of))

  pub prefix-added : (q : ℕ) (zs xs ys : List E) → IsPrefix zs xs → AddsAtMostOne by q xs ys → IsPrefix zs ys
  prefix-added q zs xs ys (rest, pre) (inl same) = (rest, pre ∙ sym same)
  prefix-added q zs xs ys (rest, pre) (inr (e, of, is)) =
      (rest ++ e ∷ [], sym (append_assoc zs rest (e ∷ [])) ∙ (ap (λ l. l ++ e ∷ []) pre ∙ sym is))

  pub numbered-added : (mark q : ℕ) (xs ys : List E) → 0 < q → q ≤ mark → AreOfCallers by mark xs
      → AddsAtMostOne by q xs ys → AreOfCallers by mark ys
  numbered-added mark q xs ys low high all (inl same) = subst (AreOfCallers by mark) (sym same) all
  numbered-added mark q xs ys low high all (inr (e, of, is)) =
      subst (AreOfCallers by mark) (sym is)
      (All-push (λ x. (0 < by x) × (by x ≤ mark)) xs e all
      (subst (λ (n : ℕ). 0 < n) (sym of) low, subst (λ (n : ℕ). n ≤ mark) (sym of) high))
