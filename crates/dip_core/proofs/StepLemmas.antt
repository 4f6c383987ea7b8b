-- The invariant of the parts is kept when an item that is not below the others is placed.
use Rattle.std.proofs.Common.{◌≡◌, ◌≢◌, ℕ, zero, suc, ◌+◌, ◌-◌, ◌<◌, ◌≤◌, ℤ, ◌≤ℤ◌, ◌<ℤ◌, true, cond, List, [], ◌∷◌, ◌++◌, length, get_or, Some, None, arith, refl, sym, ap, ◌∙◌, inl, inr, subst, length-append, eq-eqb}
use Rattle.std.specs.Prelude.{All, Contains, Option, sum_by, count_by, ◌==◌}
use Rattle.std.specs.Option.{ForSome}
use Rattle.std.proofs.lemmas.Bool.{cases_lt}
use Rattle.std.proofs.lemmas.Int.{ints}
use Rattle.std.proofs.lemmas.List.{get_or_append_left, get_or_push, get_or_default}
use Rattle.std.proofs.lemmas.List.Elements.{All-head, All-tail, All-contains, All-get_or, All-nil, All-push, All-weaker, Contains-append_left, Contains-append_right, Contains-get_or, Contains-push}
use Rattle.std.proofs.lemmas.List.Sums.{sum_by-cons, get_or-le-sum_by}
use Rattle.std.proofs.lemmas.List.Sorted.{All-permutation, Contains-permutation}
use Rattle.period_core.specs.Period.{holds_at, Holds}
use Rattle.dip_core.specs.declared.item.Item.{Item}
use Rattle.dip_core.specs.Item.{crowd, IsBelow, IsChain, HasDistinctIds}
use Rattle.dip_core.specs.Division.{all_of, part_at}
use Rattle.dip_core.specs.Placing.{added, IsPlaceFor, NoPartIsFree, IsGreatest}
use Rattle.dip_core.proofs.LastLemmas.{is_part, last_end_is}
use Rattle.dip_core.specs.Invariants.{opener, LastPartIsCrowded, ArePlaced}
use Rattle.dip_core.proofs.AddedLemmas.{part_at-added_same, part_at-added_other, part_at-past, length-added_joined, length-added_opened, sum_by-added, all_of-added, All-added}
use Rattle.dip_core.proofs.CrowdLemmas.{test-from_holds, crowd-all_of}
use Rattle.dip_core.proofs.OrderLemmas.{not_below-trans, not_below_itself, from_le, before-from_not_below}
use Rattle.dip_core.proofs.PlacedLemmas.{IsPlaced-added, same_or_other}

-- no placed item is above `x`
none_above : (parts : List (List Item)) (last : Option Item) (x : Item) → IsGreatest parts last
    → ForSome last (λ z. IsBelow x z → ⊥) → All (λ y. IsBelow x y → ⊥) (all_of parts)
none_above parts None x empty above =
    subst (λ ps. All (λ y. IsBelow x y → ⊥) (all_of ps)) (sym empty) (All-nil (λ y. IsBelow x y → ⊥))
none_above parts (Some z) x greatest above =
    All-weaker (λ y. IsBelow z y → ⊥) (λ y. IsBelow x y → ⊥) (λ y under. not_below-trans y z x under (above z refl))
    (all_of parts) greatest.1

pub contains-all_of : (parts : List (List Item)) (j : ℕ) (y : Item) → Contains (part_at parts j) y
    → Contains (all_of parts) y
contains-all_of [] j y member = member
contains-all_of (p ∷ parts) zero y member = Contains-append_left p (all_of parts) y member
contains-all_of (p ∷ parts) (suc j) y member =
    Contains-append_right p (all_of parts) y (contains-all_of parts j y member)

-- ---- the chain

chain-push : (part : List Item) (x : Item) → IsChain part
    → ((d : Item) → 0 < length part → (get_or part (length part - 1) d).period.to ≤ℤ x.period.from)
    → IsChain (part ++ x ∷ [])
chain-push part x chain fits i d h =
    let l : length (part ++ x ∷ []) ≡ length part + 1 = length-append part (x ∷ []) in
    let here : get_or (part ++ x ∷ []) i d ≡ get_or part i d = get_or_append_left part (x ∷ []) d i (omega arith) in
    elim (cases_lt (i + 1) (length part)) [
      | inl less ↦
          let next : get_or (part ++ x ∷ []) (i + 1) d ≡ get_or part (i + 1) d =
          get_or_append_left part (x ∷ []) d (i + 1) less in
          subst (λ (y : Item). y.period.to ≤ℤ (get_or (part ++ x ∷ []) (i + 1) d).period.from) (sym here)
          (subst (λ (y : Item). (get_or part i d).period.to ≤ℤ y.period.from) (sym next) (chain i d less))
      | inr more ↦
          let at_end : length part ≡ i + 1 = omega arith in
          let next : get_or (part ++ x ∷ []) (i + 1) d ≡ x = get_or_push part x d (i + 1) at_end in
          let e : length part - 1 ≡ i = omega arith in
          subst (λ (y : Item). y.period.to ≤ℤ (get_or (part ++ x ∷ []) (i + 1) d).period.from) (sym here)
          (subst (λ (y : Item). (get_or part i d).period.to ≤ℤ y.period.from) (sym next)
          (subst (λ n. (get_or part n d).period.to ≤ℤ x.period.from) e (fits d (omega arith))))
    ]

chained-added : (parts : List (List Item)) (k : ℕ) (x : Item) → All (λ part. 0 < length part) parts → All IsChain parts
    → IsPlaceFor parts x.period.from k → All IsChain (added parts k x)
chained-added parts k x filled chained place = elim place [
  | inl best ↦
      let w : k < length parts = (is_part parts k best.end best.ends) in
      All-added IsChain parts k x (omega arith) chained
      (chain-push (part_at parts k) x (All-get_or IsChain parts k [] w chained)
      (λ d h.
      let ends = last_end_is (part_at parts k) d h in
      let known = best.ends in
      let over : best.end ≤ℤ x.period.from = best.over in
      let same : best.end ≡ (get_or (part_at parts k) (length (part_at parts k) - 1) d).period.to = cc in
      omega (arith, ints)))
  | inr opened ↦
      let past : length parts ≤ k = (let e : k ≡ length parts = opened.0 in omega arith) in
      let within : k ≤ length parts = (let e : k ≡ length parts = opened.0 in omega arith) in
      All-added IsChain parts k x within chained
      (subst (λ (c : List Item). IsChain (c ++ x ∷ [])) (sym (part_at-past parts k past))
      (λ i d h. absurd (omega arith)))
]

filled-added : (parts : List (List Item)) (k : ℕ) (x : Item) → k ≤ length parts → All (λ part. 0 < length part) parts
    → All (λ part. 0 < length part) (added parts k x)
filled-added parts k x within filled =
    All-added (λ part. 0 < length part) parts k x within filled
    (omega (arith, length-append (part_at parts k) (x ∷ [])))

-- ---- the overlap count

-- each part has an item that holds the instant
one_each : (parts : List (List Item)) (t : ℤ) → All (λ part. 1 ≤ crowd part t) parts
    → length parts ≤ crowd (all_of parts) t
one_each parts t each =
    let by_part : crowd (all_of parts) t ≡ sum_by (λ part. crowd part t) parts = crowd-all_of parts t in
    let many : length parts ≤ sum_by (λ part. crowd part t) parts = go parts each in
    omega arith
  where
    go : (ps : List (List Item)) → All (λ part. 1 ≤ crowd part t) ps → length ps ≤ sum_by (λ part. crowd part t) ps
    go [] each = omega arith
    go (p ∷ ps) each =
        let first : 1 ≤ crowd p t = All-head (λ part. 1 ≤ crowd part t) p ps each in
        let rest : length ps ≤ sum_by (λ part. crowd part t) ps =
        go ps (All-tail (λ part. 1 ≤ crowd part t) p ps each) in
        let split : sum_by (λ part. crowd part t) (p ∷ ps) ≡ crowd p t + sum_by (λ part. crowd part t) ps =
        sum_by-cons (λ part. crowd part t) p ps in
        omega arith

holder_counts : (part : List Item) (k : ℕ) (d : Item) (t : ℤ) → k < length part → Holds (get_or part k d).period t
    → 1 ≤ crowd part t
holder_counts part k d t h holds =
    let one : cond (holds_at t (get_or part k d).period) 1 0 ≤ crowd part t =
    get_or-le-sum_by (λ x. cond (holds_at t x.period) 1 0) part k d h in
    let yes : holds_at t (get_or part k d).period ≡ true = test-from_holds t (get_or part k d).period holds in
    rw yes at one

-- if no part has ended, each has an item that holds the start of `x`
all_hold : (parts : List (List Item)) (x : Item) → All (λ part. 0 < length part) parts
    → NoPartIsFree parts x.period.from → All (λ y. IsBelow x y → ⊥) (all_of parts)
    → length parts ≤ crowd (all_of parts) x.period.from
all_hold parts x filled none_free above =
    one_each parts x.period.from (λ j d h.
    let same : get_or parts j d ≡ part_at parts j = get_or_default parts j d [] h in
    subst (λ part. 1 ≤ crowd part x.period.from) (sym same)
    (let some : 0 < length (part_at parts j) = All-get_or (λ part. 0 < length part) parts j [] h filled in
    let last : length (part_at parts j) - 1 < length (part_at parts j) = omega arith in
    let y : Item = get_or (part_at parts j) (length (part_at parts j) - 1) x in
    let member : Contains (all_of parts) (get_or (part_at parts j) (length (part_at parts j) - 1) x) =
    contains-all_of parts j (get_or (part_at parts j) (length (part_at parts j) - 1) x)
    (Contains-get_or (part_at parts j) (length (part_at parts j) - 1) x last) in
    holder_counts (part_at parts j) (length (part_at parts j) - 1) x x.period.from last (
      from_le (get_or (part_at parts j) (length (part_at parts j) - 1) x) x
          (All-contains (λ y. IsBelow x y → ⊥) (all_of parts) _ above member),
      none_free j (get_or (part_at parts j) (length (part_at parts j) - 1) x).period.to
          (last_end_is (part_at parts j) x some),
    )))

crowd-added : (parts : List (List Item)) (k : ℕ) (x : Item) (t : ℤ)
    → crowd (all_of (added parts k x)) t ≡ crowd (all_of parts) t + cond (holds_at t x.period) 1 0
crowd-added parts k x t = sum_by-added (λ y. cond (holds_at t y.period) 1 0) parts k x

-- the last part's first item doesn't change when a part gets one more item
opener-joined : (parts : List (List Item)) (k : ℕ) (x d : Item) → k < length parts
    → All (λ part. 0 < length part) parts → get_or (part_at (added parts k x) (length parts - 1)) 0 d ≡ opener parts d
opener-joined parts k x d within filled = elim (same_or_other (length parts - 1) k) [
  | inl e ↦
      let joined : part_at (added parts k x) (length parts - 1) ≡ part_at parts (length parts - 1) ++ x ∷ [] =
      subst (λ n. part_at (added parts k x) n ≡ part_at parts n ++ x ∷ []) (sym e)
      (part_at-added_same parts k x (omega arith)) in
      ap (λ c. get_or c 0 d) joined
      ∙ get_or_append_left (part_at parts (length parts - 1)) (x ∷ []) d 0
      (All-get_or (λ part. 0 < length part) parts (length parts - 1) [] (omega arith) filled)
  | inr ne ↦ ap (λ c. get_or c 0 d) (part_at-added_other parts k (length parts - 1) x (omega arith) ne)
]

crowded-joined : (parts : List (List Item)) (k : ℕ) (x : Item) → k < length parts → All (λ part. 0 < length part) parts
    → LastPartIsCrowded parts → LastPartIsCrowded (added parts k x)
crowded-joined parts k x within filled crowded d some =
    let count : length (added parts k x) ≡ length parts = length-added_joined parts k x within in
    let old : length parts ≤ crowd (all_of parts) (opener parts d).period.from = crowded d (omega arith) in
    let more : crowd (all_of (added parts k x)) (opener parts d).period.from ≡ crowd (all_of parts)
    (opener parts d).period.from + cond (holds_at (opener parts d).period.from x.period) 1 0 =
    crowd-added parts k x (opener parts d).period.from in
    let enough : length parts ≤ crowd (all_of (added parts k x)) (opener parts d).period.from = omega arith in
    let same : get_or (part_at (added parts k x) (length parts - 1)) 0 d ≡ opener parts d =
    opener-joined parts k x d within filled in
    subst (λ n. n ≤ crowd (all_of (added parts k x)) (get_or (part_at (added parts k x) (n - 1)) 0 d).period.from)
    (sym count)
    (subst (λ (y : Item). length parts ≤ crowd (all_of (added parts k x)) y.period.from) (sym same) enough)

crowded-opened : (parts : List (List Item)) (x : Item) → All (λ part. 0 < length part) parts
    → NoPartIsFree parts x.period.from → All (λ y. IsBelow x y → ⊥) (all_of parts)
    → LastPartIsCrowded (added parts (length parts) x)
crowded-opened parts x filled none_free above d some =
    let count : length (added parts (length parts) x) ≡ length parts + 1 = length-added_opened parts x in
    let alone : part_at (added parts (length parts) x) (length parts) ≡ x ∷ [] =
    part_at-added_same parts (length parts) x (omega arith)
    ∙ ap (λ (c : List Item). c ++ x ∷ []) (part_at-past parts (length parts) (omega arith)) in
    let many : length parts ≤ crowd (all_of parts) x.period.from = all_hold parts x filled none_free above in
    let ordered : x.period.from <ℤ x.period.to = x.period.ordered in
    let yes : holds_at x.period.from x.period ≡ true =
    test-from_holds x.period.from x.period (omega (arith, ints), ordered) in
    let more : crowd (all_of (added parts (length parts) x)) x.period.from ≡ crowd (all_of parts) x.period.from + 1 =
    crowd-added parts (length parts) x x.period.from ∙ ap (λ b. crowd (all_of parts) x.period.from + cond b 1 0) yes in
    let enough : length parts + 1 ≤ crowd (all_of (added parts (length parts) x)) x.period.from = omega arith in
    let last : length (added parts (length parts) x) - 1 ≡ length parts = omega arith in
    let opens : opener (added parts (length parts) x) d ≡ x =
    ap (λ n. get_or (part_at (added parts (length parts) x) n) 0 d) last ∙ ap (λ c. get_or c 0 d) alone in
    subst (λ n. n ≤ crowd (all_of (added parts (length parts) x))
    (opener (added parts (length parts) x) d).period.from) (sym count)
    (subst (λ (y : Item). length parts + 1 ≤ crowd (all_of (added parts (length parts) x)) y.period.from)
    (sym opens) enough)

-- ---- the placing rule

other_ids : (parts : List (List Item)) (k : ℕ) (x : Item) → HasDistinctIds (all_of (added parts k x)) → (y : Item)
    → Contains (all_of parts) y → y.id ≢ x.id
other_ids parts k x distinct y member e =
    let (i, h, same) = member in
    let total : count_by (λ z. z.id == x.id) (all_of (added parts k x)) ≡ count_by (λ z. z.id == x.id)
    (all_of parts) + cond (x.id == x.id) 1 0 =
    sum_by-added (λ z. cond (z.id == x.id) 1 0) parts k x in
    let most : count_by (λ z. z.id == x.id) (all_of (added parts k x)) ≤ 1 = distinct x.id in
    let one : cond ((get_or (all_of parts) i y).id == x.id) 1 0 ≤ count_by (λ z. z.id == x.id) (all_of parts) =
    get_or-le-sum_by (λ z. cond (z.id == x.id) 1 0) (all_of parts) i y h in
    let yes : ((get_or (all_of parts) i y).id == x.id) ≡ true =
    eq-eqb (get_or (all_of parts) i y).id x.id (ap (λ (z : Item). z.id) same ∙ e) in
    let itself : (x.id == x.id) ≡ true = eq-eqb x.id x.id refl in
    let one' = rw yes at one in
    let total' = rw itself at total in
    absurd (omega (arith, one', total'))

distinct-before : (parts : List (List Item)) (k : ℕ) (x : Item) → HasDistinctIds (all_of (added parts k x))
    → HasDistinctIds (all_of parts)
distinct-before parts k x distinct i =
    let total : count_by (λ z. z.id == i) (all_of (added parts k x)) ≡ count_by (λ z. z.id == i) (all_of parts) + cond
    (x.id == i) 1 0 =
    sum_by-added (λ z. cond (z.id == i) 1 0) parts k x in
    let most : count_by (λ z. z.id == i) (all_of (added parts k x)) ≤ 1 = distinct i in
    omega arith

pub place-within : (parts : List (List Item)) (start : ℤ) (k : ℕ) → IsPlaceFor parts start k → k ≤ length parts
place-within parts start k place =
    elim place [
      | inl best ↦
          (let w : k < length parts = (is_part parts k best.end best.ends) in omega arith)
      | inr opened ↦
          (let e : k ≡ length parts = opened.0 in omega arith)
    ]

pub none_placed : ArePlaced []
none_placed = record {
  filled = All-nil (λ part. 0 < length part);
  chained = All-nil IsChain;
  crowded = λ d some. absurd (omega arith);
  placed = λ distinct. record { rise = λ i j x y less h. absurd (omega arith); each = λ k x h. absurd (omega arith) };
}

pub ArePlaced-added : (parts : List (List Item)) (last : Option Item) (k : ℕ) (x : Item) → ArePlaced parts
    → IsGreatest parts last → ForSome last (λ z. IsBelow x z → ⊥) → IsPlaceFor parts x.period.from k
    → ArePlaced (added parts k x)
ArePlaced-added parts last k x are greatest above place =
    let over : All (λ y. IsBelow x y → ⊥) (all_of parts) = none_above parts last x greatest above in
    record {
      filled = filled-added parts k x (place-within parts x.period.from k place) are.filled;
      chained = chained-added parts k x are.filled are.chained place;
      crowded = elim place [
        | inl best ↦ crowded-joined parts k x (is_part parts k best.end best.ends) are.filled are.crowded
        | inr opened ↦
            subst (λ n. LastPartIsCrowded (added parts n x)) (sym opened.0)
            (crowded-opened parts x are.filled opened.1 over)
      ];
      placed = λ distinct.
          IsPlaced-added parts k x are.filled are.chained place
          (λ j y member.
          let all : Contains (all_of parts) y = contains-all_of parts j y member in
          before-from_not_below y x (All-contains (λ y. IsBelow x y → ⊥) (all_of parts) y over all)
          (other_ids parts k x distinct y all))
          (are.placed (distinct-before parts k x distinct));
    }

pub IsGreatest-added : (parts : List (List Item)) (last : Option Item) (k : ℕ) (x : Item) → IsGreatest parts last
    → ForSome last (λ z. IsBelow x z → ⊥) → IsGreatest (added parts k x) (Some x)
IsGreatest-added parts last k x greatest above = (
  Contains-permutation (all_of parts ++ x ∷ []) (all_of (added parts k x)) x (all_of-added parts k x)
      (Contains-push (all_of parts) x),
  All-permutation (λ y. IsBelow x y → ⊥) (all_of parts ++ x ∷ []) (all_of (added parts k x)) (all_of-added parts k x)
      (All-push (λ y. IsBelow x y → ⊥) (all_of parts) x (none_above parts last x greatest above) (not_below_itself x)),
)
