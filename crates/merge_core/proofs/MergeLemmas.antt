-- The merge of two lists of periods, in each of which a period ends before the next one starts. Each step adds what
-- the two first periods give together, and passes one of them.
use Rattle.std.proofs.Common.{◌≡◌, ◌⊎◌, List, [], ◌∷◌, ◌++◌, drop, inl, inr, sym, ap, subst, ◌∙◌, arith, append_assoc, append-nil}
use Rattle.std.specs.Prelude.{◌≤ℤ◌, ◌<ℤ◌, Contains, AllPairs}
use Rattle.std.proofs.lemmas.Int.{ints}
use Rattle.period_core.specs.declared.period.Period.{Period}
use Rattle.list_core.specs.Wanted.{IsListOf, AddsAll}
use Rattle.list_core.proofs.RisingLemmas.{AllPairs-head, AllPairs-tail, Contains-head, Contains-cons, Contains-cons_cases, Contains-none}
use Rattle.list_core.proofs.WantedLemmas.{IsListOf-append, IsListOf-none}
use Rattle.merge_core.specs.Hits.{IsShared}
use Rattle.merge_core.proofs.SharedLemmas.{shared_ends}

-- a list of one element contains only that element
pub Contains-only : {X : Type 0} (x z : X) → Contains (x ∷ []) z → x ≡ z
Contains-only x z h = elim (Contains-cons_cases x [] z h) [ inl e ↦ e | inr k ↦ absurd (Contains-none z k) ]

-- The first period ends at or before the start of the second.
abbrev pub Ends : {X : Type 0} → (X → Period) → X → X → Type 0
Ends px x y = (px x).to ≤ℤ (px y).from

-- The first period starts before the second.
abbrev pub Starts : {X : Type 0} → (X → Period) → X → X → Type 0
Starts px x y = (px x).from <ℤ (px y).from

-- `h` is made from an element of `p` and an element of `q`.
pub record IsMade {X Y H : Type 0} (Made : X → Y → H → Type 0) (p : List X) (q : List Y) (h : H) : Type 0 where
  pub x : X
  pub y : Y
  pub x_in : Contains p x
  pub y_in : Contains q y
  pub made : Made x y h

-- The state of the merge of `P` and `Q` with `p` and `q` left: what these still give completes the result.
pub record IsMerging {X Y H : Type 0} (px : X → Period) (py : Y → Period) (ph : H → Period) (Made : X → Y → H → Type 0)
    (P : List X) (Q : List Y) (p : List X) (q : List Y) (old now : List H) : Type 0 where
  pub added : List H
  pub split : now ≡ old ++ added
  pub goes_on : (rest : List H) → IsListOf (Starts ph) (IsMade Made p q) rest
      → IsListOf (Starts ph) (IsMade Made P Q) (added ++ rest)
  pub left_apart : AllPairs (Ends px) p
  pub right_apart : AllPairs (Ends py) q
  pub left_within : (x : X) → Contains p x → Contains P x
  pub right_within : (y : Y) → Contains q y → Contains Q y

module _ {X Y H : Type 0} (px : X → Period) (py : Y → Period) (ph : H → Period) (Made : X → Y → H → Type 0)
    (shared : (x : X) (y : Y) (h : H) → Made x y h → IsShared (px x) (py y) (ph h)) where
  ends : (x : X) (y : Y) (h : H) → Made x y h
      → ((px x).from ≤ℤ (ph h).from) × ((py y).from ≤ℤ (ph h).from)
      × ((ph h).to ≤ℤ (px x).to) × ((ph h).to ≤ℤ (py y).to)
  ends x y h m = shared_ends (px x) (py y) (ph h) (shared x y h m)

  -- the left period ends first: what both give, and then what is left without the left one
  passed_left : (x : X) (p : List X) (y : Y) (q : List Y) → AllPairs (Ends px) (x ∷ p) → AllPairs (Ends py) (y ∷ q)
      → (px x).to ≤ℤ (py y).to → (now rest : List H) → IsListOf (Starts ph) (Made x y) now
      → IsListOf (Starts ph) (IsMade Made p (y ∷ q)) rest
      → IsListOf (Starts ph) (IsMade Made (x ∷ p) (y ∷ q)) (now ++ rest)
  passed_left x p y q rx ry first now rest a b =
      IsListOf-append (Starts ph) (Made x y) (IsMade Made p (y ∷ q)) (IsMade Made (x ∷ p) (y ∷ q)) now rest a b
      (λ h k m n.
      let e = ends x y h m in
      let f = ends n.x n.y k n.made in
      let later : (px x).to ≤ℤ (px n.x).from = AllPairs-head (Ends px) x p n.x rx n.x_in in
      let proper : (ph h).from <ℤ (ph h).to = (ph h).ordered in
      omega (arith, ints, e.2, f.0))
      (λ h m. record { x = x; y = y; x_in = Contains-head x p; y_in = Contains-head y q; made = m })
      (λ h n. record { x = n.x; y = n.y; x_in = Contains-cons x p n.x n.x_in; y_in = n.y_in; made = n.made })
      (λ h n.
      elim (Contains-cons_cases x p n.x n.x_in) [
        | inl e ↦ elim (Contains-cons_cases y q n.y n.y_in) [
          | inl e' ↦ inl (subst (λ v. Made x v h) (sym e') (subst (λ u. Made u n.y h) (sym e) n.made))
          | inr k ↦ absurd (
              let f = ends n.x n.y h n.made in
              let later : (py y).to ≤ℤ (py n.y).from = AllPairs-head (Ends py) y q n.y ry k in
              let proper : (ph h).from <ℤ (ph h).to = (ph h).ordered in
              let same : (px x).to ≡ (px n.x).to = ap (λ u. (px u).to) e in
              let out : ⊥ = omega (arith, ints, f.1, f.2) in out)
        ]
        | inr k ↦ inr (record { x = n.x; y = n.y; x_in = k; y_in = n.y_in; made = n.made })
      ])

  -- the right period ends first
  passed_right : (x : X) (p : List X) (y : Y) (q : List Y) → AllPairs (Ends px) (x ∷ p) → AllPairs (Ends py) (y ∷ q)
      → (py y).to ≤ℤ (px x).to → (now rest : List H) → IsListOf (Starts ph) (Made x y) now
      → IsListOf (Starts ph) (IsMade Made (x ∷ p) q) rest
      → IsListOf (Starts ph) (IsMade Made (x ∷ p) (y ∷ q)) (now ++ rest)
  passed_right x p y q rx ry first now rest a b =
      IsListOf-append (Starts ph) (Made x y) (IsMade Made (x ∷ p) q) (IsMade Made (x ∷ p) (y ∷ q)) now rest a b
      (λ h k m n.
      let e = ends x y h m in
      let f = ends n.x n.y k n.made in
      let later : (py y).to ≤ℤ (py n.y).from = AllPairs-head (Ends py) y q n.y ry n.y_in in
      let proper : (ph h).from <ℤ (ph h).to = (ph h).ordered in
      omega (arith, ints, e.3, f.1))
      (λ h m. record { x = x; y = y; x_in = Contains-head x p; y_in = Contains-head y q; made = m })
      (λ h n. record { x = n.x; y = n.y; x_in = n.x_in; y_in = Contains-cons y q n.y n.y_in; made = n.made })
      (λ h n.
      elim (Contains-cons_cases y q n.y n.y_in) [
        | inl e ↦ elim (Contains-cons_cases x p n.x n.x_in) [
          | inl e' ↦ inl (subst (λ u. Made u y h) (sym e') (subst (λ v. Made n.x v h) (sym e) n.made))
          | inr k ↦ absurd (
              let f = ends n.x n.y h n.made in
              let later : (px x).to ≤ℤ (px n.x).from = AllPairs-head (Ends px) x p n.x rx k in
              let proper : (ph h).from <ℤ (ph h).to = (ph h).ordered in
              let same : (py y).to ≡ (py n.y).to = ap (λ v. (py v).to) e in
              let out : ⊥ = omega (arith, ints, f.0, f.3) in out)
        ]
        | inr k ↦ inr (record { x = n.x; y = n.y; x_in = n.x_in; y_in = k; made = n.made })
      ])

  pub merging_start : (P : List X) (Q : List Y) (old : List H) → AllPairs (Ends px) P → AllPairs (Ends py) Q
      → IsMerging px py ph Made P Q P Q old old
  merging_start P Q old left right =
      record {
        added = [];
        split = sym (append-nil old);
        goes_on = λ rest r. r;
        left_apart = left;
        right_apart = right;
        left_within = λ x h. h;
        right_within = λ y h. h;
      }

  left_passed : (P : List X) (Q : List Y) (x : X) (p : List X) (y : Y) (q : List Y) (old mid now : List H)
      → (px x).to ≤ℤ (py y).to → AddsAll (Starts ph) (Made x y) mid now
      → IsMerging px py ph Made P Q (x ∷ p) (y ∷ q) old mid → IsMerging px py ph Made P Q p (y ∷ q) old now
  left_passed P Q x p y q old mid now first a j =
      record {
        added = j.added ++ a.added;
        split = a.split ∙ ap (λ z. z ++ a.added) j.split ∙ append_assoc old j.added a.added;
        goes_on = λ rest r. rw append_assoc
            (j.goes_on (a.added ++ rest) (passed_left x p y q j.left_apart j.right_apart first a.added rest a.all r));
        left_apart = AllPairs-tail (Ends px) x p j.left_apart;
        right_apart = j.right_apart;
        left_within = λ z h. j.left_within z (Contains-cons x p z h);
        right_within = j.right_within;
      }

  right_passed : (P : List X) (Q : List Y) (x : X) (p : List X) (y : Y) (q : List Y) (old mid now : List H)
      → (py y).to ≤ℤ (px x).to → AddsAll (Starts ph) (Made x y) mid now
      → IsMerging px py ph Made P Q (x ∷ p) (y ∷ q) old mid → IsMerging px py ph Made P Q (x ∷ p) q old now
  right_passed P Q x p y q old mid now first a j =
      record {
        added = j.added ++ a.added;
        split = a.split ∙ ap (λ z. z ++ a.added) j.split ∙ append_assoc old j.added a.added;
        goes_on = λ rest r. rw append_assoc
            (j.goes_on (a.added ++ rest) (passed_right x p y q j.left_apart j.right_apart first a.added rest a.all r));
        left_apart = j.left_apart;
        right_apart = AllPairs-tail (Ends py) y q j.right_apart;
        left_within = j.left_within;
        right_within = λ z h. j.right_within z (Contains-cons y q z h);
      }

  -- the same two steps for lists given by their first elements
  pub merging_left : (P : List X) (Q : List Y) (x : X) (p : List X) (y : Y) (q : List Y) (old mid now : List H)
      → p ≡ x ∷ drop 1 p → q ≡ y ∷ drop 1 q → (px x).to ≤ℤ (py y).to → AddsAll (Starts ph) (Made x y) mid now
      → IsMerging px py ph Made P Q p q old mid → IsMerging px py ph Made P Q (drop 1 p) q old now
  merging_left P Q x p y q old mid now e f first a j =
      subst (λ z. IsMerging px py ph Made P Q (drop 1 p) z old now) (sym f)
      (left_passed P Q x (drop 1 p) y (drop 1 q) old mid now first a
      (subst (λ z. IsMerging px py ph Made P Q (x ∷ drop 1 p) z old mid) f
      (subst (λ z. IsMerging px py ph Made P Q z q old mid) e j)))

  pub merging_right : (P : List X) (Q : List Y) (x : X) (p : List X) (y : Y) (q : List Y) (old mid now : List H)
      → p ≡ x ∷ drop 1 p → q ≡ y ∷ drop 1 q → (py y).to ≤ℤ (px x).to → AddsAll (Starts ph) (Made x y) mid now
      → IsMerging px py ph Made P Q p q old mid → IsMerging px py ph Made P Q p (drop 1 q) old now
  merging_right P Q x p y q old mid now e f first a j =
      subst (λ z. IsMerging px py ph Made P Q z (drop 1 q) old now) (sym e)
      (right_passed P Q x (drop 1 p) y (drop 1 q) old mid now first a
      (subst (λ z. IsMerging px py ph Made P Q (x ∷ drop 1 p) z old mid) f
      (subst (λ z. IsMerging px py ph Made P Q z q old mid) e j)))

  -- once one list is used up, the result is complete
  pub merging_end : (P : List X) (Q : List Y) (p : List X) (q : List Y) (old now : List H) → (p ≡ []) ⊎ (q ≡ [])
      → IsMerging px py ph Made P Q p q old now → AddsAll (Starts ph) (IsMade Made P Q) old now
  merging_end P Q p q old now over j =
      record {
        added = j.added;
        split = j.split;
        all = subst (IsListOf (Starts ph) (IsMade Made P Q)) (append-nil j.added)
            (j.goes_on [] (IsListOf-none (Starts ph) (IsMade Made p q) (λ h i.
            elim over [
              | inl e ↦ Contains-none i.x (subst (λ z. Contains z i.x) e i.x_in)
              | inr e ↦ Contains-none i.y (subst (λ z. Contains z i.y) e i.y_in)
            ])));
      }
