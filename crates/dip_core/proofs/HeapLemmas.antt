-- A heap of last ends: the order, and one step of moving an end down or up.
use Rattle.std.proofs.Common.{◌≡◌, ℕ, zero, suc, ◌+◌, ◌-◌, ◌*◌, ◌/◌, ◌<◌, ◌≤◌, List, length, get_or, arith, refl, sym, ap, ◌∙◌, inl, inr, subst}
use Rattle.std.specs.List.{SwappedAt}
use Rattle.std.proofs.lemmas.Bool.{cases_eq}
use Rattle.std.proofs.lemmas.Int.{ints}
use Rattle.dip_core.specs.Heap.{ComesFirst, ComesFirstBelow, Ending, IsHeap, IsHeapButAbove, IsHeapButBelow}

-- ---- the order

first-itself : (x : Ending) → ComesFirst x x
first-itself x = inr (refl, omega arith)

pub first-trans : (x y z : Ending) → ComesFirst x y → ComesFirst y z → ComesFirst x z
first-trans x y z (inl p) (inl q) = inl (omega (arith, ints))
first-trans x y z (inl p) (inr q) = let e : y.end ≡ z.end = q.0 in inl (omega (arith, ints))
first-trans x y z (inr p) (inl q) = let e : x.end ≡ y.end = p.0 in inl (omega (arith, ints))
first-trans x y z (inr p) (inr q) = inr (p.0 ∙ q.0, omega arith)

-- the same for equal values
first-at : (a b x y : Ending) → a ≡ x → b ≡ y → ComesFirst x y → ComesFirst a b
first-at a b x y p q h = subst (λ v. ComesFirst v b) (sym p) (subst (λ w. ComesFirst x w) (sym q) h)

-- ---- the root

top-within : (ends : List Ending) (d : Ending) → IsHeap ends → (most k : ℕ) → k ≤ most → k < length ends
    → ComesFirst (get_or ends 0 d) (get_or ends k d)
top-within ends d heap zero k few within =
    let e : k ≡ 0 = omega arith in
    subst (λ n. ComesFirst (get_or ends 0 d) (get_or ends n d)) (sym e) (first-itself (get_or ends 0 d))
top-within ends d heap (suc most) k few within = elim (cases_eq k 0) [
  | inl e ↦ subst (λ n. ComesFirst (get_or ends 0 d) (get_or ends n d)) (sym e) (first-itself (get_or ends 0 d))
  | inr ne ↦
      first-trans (get_or ends 0 d) (get_or ends ((k - 1) / 2) d) (get_or ends k d)
      (top-within ends d heap most ((k - 1) / 2) (omega arith) (omega arith))
      (heap ((k - 1) / 2) k d (omega arith) (omega arith) within)
]

-- the root comes no later than any other end
pub top : (ends : List Ending) (d : Ending) (k : ℕ) → IsHeap ends → k < length ends
    → ComesFirst (get_or ends 0 d) (get_or ends k d)
top ends d k heap within = top-within ends d heap k k (omega arith) within

-- ---- moving down

-- an end that moves down is swapped with the first of its children
pub down-goes : (xs ys : List Ending) (j c : ℕ) → SwappedAt xs ys j c → length ys ≡ length xs → j * 2 + 1 ≤ c
    → c ≤ j * 2 + 2 → c < length xs
    → ((d : Ending) → ComesFirst (get_or xs c d) (get_or xs j d)) → ComesFirstBelow xs j c → IsHeapButBelow xs j
    → IsHeapButBelow ys c
down-goes xs ys j c sw long lo hi within before best was = record {
  others = λ p k d ne low high inside. elim (cases_eq p j) [
    | inl pj ↦
        let at-p : get_or ys p d ≡ get_or xs c d = ap (λ n. get_or ys n d) pj ∙ sw.0 d in
        elim (cases_eq k c) [
          | inl kc ↦ first-at _ _ _ _ at-p (ap (λ n. get_or ys n d) kc ∙ sw.1 d) (before d)
          | inr kn ↦
              first-at _ _ _ _ at-p (sw.2 k d (omega arith) kn) (best k d (omega arith) (omega arith) (omega arith))
        ]
    | inr pn ↦
        let at-p : get_or ys p d ≡ get_or xs p d = sw.2 p d pn ne in
        elim (cases_eq k j) [
          | inl kj ↦
              first-at _ _ _ _ at-p (ap (λ n. get_or ys n d) kj ∙ sw.0 d)
              (was.across p c d (omega arith) (omega arith) lo hi within)
          | inr kn ↦ first-at _ _ _ _ at-p (sw.2 k d kn (omega arith)) (was.others p k d pn low high (omega arith))
        ]
  ];
  across = λ p k d plo phi klo khi inside.
      let pj : p ≡ j = omega arith in
      first-at _ _ _ _ (ap (λ n. get_or ys n d) pj ∙ sw.0 d) (sw.2 k d (omega arith) (omega arith))
      (was.others c k d (omega arith) klo khi (omega arith));
}

-- ---- moving up

-- an end that moves up is swapped with its parent
pub up-goes : (xs ys : List Ending) (a j : ℕ) → SwappedAt xs ys a j → length ys ≡ length xs → a * 2 + 1 ≤ j
    → j ≤ a * 2 + 2 → j < length xs
    → ((d : Ending) → ComesFirst (get_or xs j d) (get_or xs a d)) → IsHeapButAbove xs j → IsHeapButAbove ys a
up-goes xs ys a j sw long lo hi within before was = record {
  others = λ p k d ne low high inside. elim (cases_eq p j) [
    | inl pj ↦
        first-at _ _ _ _ (ap (λ n. get_or ys n d) pj ∙ sw.1 d) (sw.2 k d (omega arith) (omega arith))
        (was.across a k d lo hi (omega arith) (omega arith) (omega arith))
    | inr pn ↦ elim (cases_eq p a) [
      | inl pa ↦
          let at-p : get_or ys p d ≡ get_or xs j d = ap (λ n. get_or ys n d) pa ∙ sw.0 d in
          elim (cases_eq k j) [
            | inl kj ↦ first-at _ _ _ _ at-p (ap (λ n. get_or ys n d) kj ∙ sw.1 d) (before d)
            | inr kn ↦
                first-at _ _ _ _ at-p (sw.2 k d ne kn)
                (first-trans (get_or xs j d) (get_or xs a d) (get_or xs k d) (before d)
                (was.others a k d kn (omega arith) (omega arith) (omega arith)))
          ]
      | inr pb ↦
          first-at _ _ _ _ (sw.2 p d pb pn) (sw.2 k d ne (omega arith))
          (was.others p k d (omega arith) low high (omega arith))
    ]
  ];
  across = λ p k d plo phi klo khi inside.
      let at-p : get_or ys p d ≡ get_or xs p d = sw.2 p d (omega arith) (omega arith) in
      let over : ComesFirst (get_or xs p d) (get_or xs a d) = was.others p a d (omega arith) plo phi (omega arith) in
      elim (cases_eq k j) [
        | inl kj ↦ first-at _ _ _ _ at-p (ap (λ n. get_or ys n d) kj ∙ sw.1 d) over
        | inr kn ↦
            first-at _ _ _ _ at-p (sw.2 k d (omega arith) kn)
            (first-trans (get_or xs p d) (get_or xs a d) (get_or xs k d) over
            (was.others a k d kn klo khi (omega arith)))
      ];
}
