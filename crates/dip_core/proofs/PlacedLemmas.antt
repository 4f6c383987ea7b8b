-- A division stays placed when an item that comes after all others is added by the placing rule.
use Rattle.std.proofs.Common.{◌≡◌, ◌≢◌, ℕ, ◌+◌, ◌-◌, ◌<◌, ◌≤◌, ℤ, ◌≤ℤ◌, ◌<ℤ◌, List, [], ◌∷◌, ◌++◌, length, get_or, Some, arith, refl, sym, ap, ◌∙◌, inl, inr, ◌⊎◌, subst}
use Rattle.std.specs.Prelude.{All, Any, Contains}
use Rattle.std.proofs.lemmas.Bool.{cases_lt}
use Rattle.std.proofs.lemmas.Int.{ints}
use Rattle.std.proofs.lemmas.List.{get_or_default}
use Rattle.std.proofs.lemmas.List.Elements.{All-get_or, All-nil, All-cons, Contains-get_or}
use Rattle.dip_core.specs.declared.item.Item.{Item}
use Rattle.dip_core.specs.Item.{IsBefore, IsChain}
use Rattle.dip_core.specs.Division.{part_at, IsFree, IsLatestEnd, IsFirstOf, IsPlaced, LiesInBestFree, OpensPart}
use Rattle.dip_core.specs.Placing.{added, last_end, IsPlaceFor}
use Rattle.dip_core.proofs.LastLemmas.{is_part, last_end_is}
use Rattle.dip_core.proofs.AddedLemmas.{part_at-added_same, part_at-added_other, part_at-past, length-added_joined, length-added_opened}
use Rattle.dip_core.proofs.ChainLemmas.{chain_far}
use Rattle.dip_core.proofs.GrownLemmas.{Grown, free_old, free_new, latest_old, latest_new, first_old, first_new, contains_old}
use Rattle.dip_core.proofs.OrderLemmas.{not_before_itself, not_before_back}

last_end_of : (part : List Item) (d : Item) (e : ℤ) → 0 < length part → last_end part ≡ Some e
    → e ≡ (get_or part (length part - 1) d).period.to
last_end_of part d e filled ends =
    let same : last_end part ≡ Some (get_or part (length part - 1) d).period.to = last_end_is part d filled in cc

-- the last end of a chain is its latest end
last_end_latest : (part : List Item) (e : ℤ) → IsChain part → 0 < length part → last_end part ≡ Some e
    → All (λ y. y.period.to ≤ℤ e) part
last_end_latest part e chain filled ends k d h =
    let is : e ≡ (get_or part (length part - 1) d).period.to = last_end_of part d e filled ends in
    elim (cases_lt k (length part - 1)) [
      | inl less ↦
          let far : (get_or part k d).period.to ≤ℤ (get_or part (length part - 1) d).period.from =
          chain_far part chain k (length part - 1) d less (omega arith) in
          let held : (get_or part (length part - 1) d).period.from <ℤ (get_or part (length part - 1) d).period.to =
          (get_or part (length part - 1) d).period.ordered in
          omega (arith, ints)
      | inr more ↦
          let same : length part - 1 ≡ k = omega arith in
          let there : e ≡ (get_or part k d).period.to = is ∙ ap (λ n. (get_or part n d).period.to) same in
          omega (arith, ints)
    ]

-- if all items of a part come before `x`, its last end is the latest end before `x`
latest-last_end : (part : List Item) (x : Item) (e f : ℤ) → IsChain part → 0 < length part
    → ((y : Item) → Contains part y → IsBefore y x) → last_end part ≡ Some e → IsLatestEnd part x f → f ≡ e
latest-last_end part x e f chain filled before ends latest =
    let (k, y, h, same, (earlier, is)) = latest.0 in
    let high : (get_or part k y).period.to ≤ℤ e = last_end_latest part e chain filled ends k y h in
    let at : f ≡ (get_or part k y).period.to = sym is ∙ ap (λ (w : Item). w.period.to) (sym same) in
    let end : e ≡ (get_or part (length part - 1) x).period.to = last_end_of part x e filled ends in
    let last : length part - 1 < length part = omega arith in
    let low : (get_or part (length part - 1) x).period.to ≤ℤ f =
    latest.1 (length part - 1) x last
    (before (get_or part (length part - 1) x) (Contains-get_or part (length part - 1) x last)) in
    omega (arith, ints)

pub same_or_other : (j k : ℕ) → (j ≡ k) ⊎ (j ≢ k)
same_or_other j k = elim (cases_lt j k) [
  | inl less ↦ inr (λ e. absurd (omega arith))
  | inr more ↦ elim (cases_lt k j) [ inl above ↦ inr (λ e. absurd (omega arith)) | inr below ↦ inl (omega arith) ]
]

none_in_empty : (P : Item → Type 0) (c : List Item) → c ≡ [] → Any P c → ⊥
none_in_empty P c empty some =
    let (k, y, h, same, p) = some in
    let no_length : length c ≡ 0 = ap length empty in
    absurd (omega arith)

not_in_empty : (c : List Item) (z : Item) → c ≡ [] → Contains c z → ⊥
not_in_empty c z empty member =
    let (k, h, same) = member in
    let no_length : length c ≡ 0 = ap length empty in
    absurd (omega arith)

-- if all items of a part come before `x` and its last end is at or before the start of `x`, the part is free for `x`
free-from_end : (part : List Item) (x : Item) (e : ℤ) → IsChain part → 0 < length part
    → ((y : Item) → Contains part y → IsBefore y x) → last_end part ≡ Some e → e ≤ℤ x.period.from → IsFree part x
free-from_end part x e chain filled before ends over = (
  (
    0,
    get_or part 0 x,
    filled,
    get_or_default part 0 (get_or part 0 x) x filled,
    before (get_or part 0 x)
        (Contains-get_or part 0 x filled),
  ),
  λ k d h earlier.
      let high : (get_or part k d).period.to ≤ℤ e = last_end_latest part e chain filled ends k d h in
      omega (arith, ints),
)

-- and its last end is the latest
latest-from_end : (part : List Item) (x : Item) (e : ℤ) → IsChain part → 0 < length part
    → ((y : Item) → Contains part y → IsBefore y x) → last_end part ≡ Some e → IsLatestEnd part x e
latest-from_end part x e chain filled before ends =
    let last : length part - 1 < length part = omega arith in (
      (
        length part - 1,
        get_or part (length part - 1) x,
        last,
        get_or_default part (length part - 1) (get_or part (length part - 1) x) x last,
        (
          before (get_or part (length part - 1) x) (Contains-get_or part (length part - 1) x last),
          sym
              (last_end_of part x e filled ends),
        ),
      ),
      λ k d h earlier. last_end_latest part e chain filled ends k d h,
    )

-- the last end of a part that is free for `x`
end-from_free : (part : List Item) (x : Item) → 0 < length part → ((y : Item) → Contains part y → IsBefore y x)
    → IsFree part x → (get_or part (length part - 1) x).period.to ≤ℤ x.period.from
end-from_free part x filled before free =
    let last : length part - 1 < length part = omega arith in
    free.1 (length part - 1) x last
    (before (get_or part (length part - 1) x) (Contains-get_or part (length part - 1) x last))

module _ (parts : List (List Item)) (k : ℕ) (x : Item)
    (filled : All (λ part. 0 < length part) parts) (chained : All IsChain parts)
    (place : IsPlaceFor parts x.period.from k)
    (before : (j : ℕ) (y : Item) → Contains (part_at parts j) y → IsBefore y x)
    (placed : IsPlaced parts) where
  within : k ≤ length parts
  within = elim place [
    | inl best ↦
        (let w : k < length parts = (is_part parts k best.end best.ends) in omega arith)
    | inr opened ↦
        (let e : k ≡ length parts = opened.0 in omega arith)
  ]

  grown : (j : ℕ) → Grown (part_at parts j) (part_at (added parts k x) j) x
  grown j = elim (same_or_other j k) [
    | inl e ↦ inr
        (subst (λ n. part_at (added parts k x) n ≡ part_at parts n ++ x ∷ []) (sym e)
        (part_at-added_same parts k x within))
    | inr ne ↦ inl (part_at-added_other parts k j x within ne)
  ]

  part_filled : (j : ℕ) → j < length parts → 0 < length (part_at parts j)
  part_filled j h = All-get_or (λ part. 0 < length part) parts j [] h filled

  part_chained : (j : ℕ) → j < length parts → IsChain (part_at parts j)
  part_chained j h = All-get_or IsChain parts j [] h chained

  later : (m : ℕ) (z : Item) → Contains (part_at parts m) z → IsBefore x z → ⊥
  later m z member = not_before_back z x (before m z member)

  old_free : (j : ℕ) (z : Item) → (IsBefore x z → ⊥) → IsFree (part_at (added parts k x) j) z
      → IsFree (part_at parts j) z
  old_free j z late = free_old (part_at parts j) (part_at (added parts k x) j) x z (grown j) late

  -- a part that is free in the new division was there before
  was_there : (j : ℕ) (z : Item) → (IsBefore x z → ⊥) → IsFree (part_at (added parts k x) j) z → j < length parts
  was_there j z late free = elim (cases_lt j (length parts)) [
    | inl less ↦ less
    | inr past ↦
        absurd (none_in_empty (λ y. IsBefore y z) (part_at parts j) (part_at-past parts j past)
        (old_free j z late free).0)
  ]

  rise : (i j : ℕ) (y z : Item) → i < j → j < length (added parts k x)
      → IsFirstOf (part_at (added parts k x) i) y → IsFirstOf (part_at (added parts k x) j) z → IsBefore y z
  rise i j y z below h first second = elim (cases_lt j (length parts)) [
    | inl less ↦
        placed.rise i j y z below less
        (first_old (part_at parts i) (part_at (added parts k x) i) x y (grown i) (part_filled i (omega arith))
        (before i) first)
        (first_old (part_at parts j) (part_at (added parts k x) j) x z (grown j) (part_filled j less) (before j) second)
    | inr past ↦
        elim (contains_old (part_at parts j) (part_at (added parts k x) j) x z (grown j) second.0) [
          | inl member ↦ absurd (not_in_empty (part_at parts j) z (part_at-past parts j past) member)
          | inr same ↦
              let earlier : i < length parts = before_new i j below h past in
              let old = first_old (part_at parts i) (part_at (added parts k x) i) x y (grown i) (part_filled i earlier)
              (before i) first in
              subst (λ w. IsBefore y w) same (before i y old.0)
        ]
  ]
    where
      before_new : (i j : ℕ) → i < j → j < length (added parts k x) → length parts ≤ j → i < length parts
      before_new i j below h past = elim place [
        | inl best ↦
            (let e : length (added parts k x) ≡ length parts = length-added_joined parts k x
            (is_part parts k best.end best.ends) in omega arith)
        | inr opened ↦
            let e : length (added parts (length parts) x) ≡ length parts + 1 = length-added_opened parts x in
            let f : length (added parts k x) ≡ length parts + 1 =
            subst (λ n. length (added parts n x) ≡ length parts + 1) (sym opened.0) e in
            omega arith
      ]

  old_item : (m : ℕ) (z : Item) → Contains (part_at parts m) z → LiesInBestFree (added parts k x) m z
      ⊎ OpensPart (added parts k x) m z
  old_item m z member =
      let late : IsBefore x z → ⊥ = later m z member in
      let there : m < length parts =
      elim (cases_lt m (length parts)) [
        | inl less ↦ less
        | inr past ↦
            absurd (not_in_empty (part_at parts m) z (part_at-past parts m past) member)
      ] in
      elim (placed.each m z there member) [
        | inl best ↦ inl (record {
          free = free_new (part_at parts m) (part_at (added parts k x) m) x z (grown m) late best.free;
          end = best.end;
          latest = latest_new (part_at parts m) (part_at (added parts k x) m) x z (grown m) late best.end best.latest;
          best = λ j f h free latest.
              best.best j f (was_there j z late free) (old_free j z late free)
              (latest_old (part_at parts j) (part_at (added parts k x) j) x z (grown j) late f latest);
        })
        | inr opens ↦ inr (record {
          none = λ j h free. opens.none j (was_there j z late free) (old_free j z late free);
          opens = first_new (part_at parts m) (part_at (added parts k x) m) x z (grown m) late opens.opens;
        })
      ]

  new_item : LiesInBestFree (added parts k x) k x ⊎ OpensPart (added parts k x) k x
  new_item =
      let late : IsBefore x x → ⊥ = not_before_itself x in
      elim place [
        | inl best ↦ inl (record {
          free = free_new (part_at parts k) (part_at (added parts k x) k) x x (grown k) late
              (free-from_end (part_at parts k) x best.end (part_chained k (is_part parts k best.end best.ends))
              (part_filled k (is_part parts k best.end best.ends)) (before k) best.ends best.over);
          end = best.end;
          latest = latest_new (part_at parts k) (part_at (added parts k x) k) x x (grown k) late best.end
              (latest-from_end (part_at parts k) x best.end (part_chained k (is_part parts k best.end best.ends))
              (part_filled k (is_part parts k best.end best.ends)) (before k) best.ends);
          best = λ j f h free latest.
              let there : j < length parts = was_there j x late free in
              let old = old_free j x late free in
              let ends = last_end_is (part_at parts j) x (part_filled j there) in
              let same = latest-last_end (part_at parts j) x
              (get_or (part_at parts j) (length (part_at parts j) - 1) x).period.to f (part_chained j there)
              (part_filled j there) (before j) ends
              (latest_old (part_at parts j) (part_at (added parts k x) j) x x (grown j) late f latest) in
              let over = end-from_free (part_at parts j) x (part_filled j there) (before j) old in
              best.best j f (ends ∙ ap Some (sym same)) (subst (λ e. e ≤ℤ x.period.from) (sym same) over);
        })
        | inr opened ↦ inr (record {
          none = λ j h free.
              let there : j < length parts = was_there j x late free in
              let over : (get_or (part_at parts j) (length (part_at parts j) - 1) x).period.to ≤ℤ x.period.from =
              end-from_free (part_at parts j) x (part_filled j there) (before j) (old_free j x late free) in
              let ends = last_end_is (part_at parts j) x (part_filled j there) in
              let above : x.period.from <ℤ (get_or (part_at parts j) (length (part_at parts j) - 1) x).period.to =
              opened.1 j _ ends in
              absurd (omega (arith, ints));
          opens =
              let past : length parts ≤ k = (let e : k ≡ length parts = opened.0 in omega arith) in
              let alone : part_at (added parts k x) k ≡ x ∷ [] = part_at-added_same parts k x within
              ∙ ap (λ (c : List Item). c ++ x ∷ []) (part_at-past parts k past) in
              subst (λ c. IsFirstOf c x) (sym alone) (
                (0, omega arith, refl),
                All-cons (λ y. IsBefore y x → ⊥) x [] late
                    (All-nil (λ y. IsBefore y x → ⊥)),
              );
        })
      ]

  pub IsPlaced-added : IsPlaced (added parts k x)
  IsPlaced-added = record {
    rise = rise;
    each = λ m z h member. elim (same_or_other m k) [
      | inr ne ↦ old_item m z (subst (λ c. Contains c z) (part_at-added_other parts k m x within ne) member)
      | inl e ↦ elim (contains_old (part_at parts m) (part_at (added parts k x) m) x z (grown m) member) [
        | inl old ↦ old_item m z old
        | inr same ↦ subst (λ n. LiesInBestFree (added parts k x) n z ⊎ OpensPart (added parts k x) n z) (sym e)
            (subst (λ w. LiesInBestFree (added parts k x) k w ⊎ OpensPart (added parts k x) k w) same new_item)
      ]
    ];
  }
