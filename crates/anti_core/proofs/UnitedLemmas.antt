-- Coalescing items in order of class and start by a sweep.
use Rattle.std.proofs.Common.{◌≡◌, ◌⊎◌, false, get_or, ℕ, ◌<◌, ◌≤◌, List, [], ◌∷◌, ◌++◌, length, inl, inr, refl, sym, subst, ap, ◌∙◌, arith, append_assoc}
use Rattle.std.specs.Prelude.{ℤ, pos, ◌-ℤ◌, ◌≤ℤ◌, ◌<ℤ◌, Contains, IsPermutation, IsSortedBy}
use Rattle.std.specs.declared.cmp.Ordering.{Ordering}
use Rattle.std.specs.declared.cmp.Ordering.TheVariants.{Less, Equal, Greater}
use Rattle.std.specs.Cmp.{IsTotalOrder}
use Rattle.std.specs.Ordering.{is_lt, nat_cmp, int_cmp, ordering_then}
use Rattle.std.specs.Int.{int_max}
use Rattle.std.proofs.lemmas.Int.{ints, clamps}
use Rattle.std.proofs.lemmas.Bool.Decides.{nat_tests}
use Rattle.std.proofs.lemmas.Cmp.{then_total, on_total, int_cmp_total, nat_cmp_total, ranked}
use Rattle.std.proofs.lemmas.List.{length-append}
use Rattle.std.proofs.lemmas.List.Elements.{Contains-append_left, Contains-append_right, Contains-append_cases}
use Rattle.std.proofs.lemmas.List.Sorted.{Contains-permutation, IsPermutation-sym, sorted_far, ranks_by, length_permutation}
use Rattle.period_core.specs.declared.period.Period.{Period}
use Rattle.period_core.specs.Period.{Holds}
use Rattle.dip_core.specs.declared.item.Item.{Item}
use Rattle.list_core.specs.Wanted.{IsListOf}
use Rattle.list_core.proofs.RisingLemmas.{AllPairs-head, AllPairs-tail, Contains-head, Contains-cons, Contains-cons_cases, Contains-none}
use Rattle.list_core.proofs.WantedLemmas.{AllPairs-before, IsListOf-append, IsListOf-one, IsListOf-none, IsListOf-same}
use Rattle.dip_core.proofs.PartedLemmas.{Item-same}
use Rattle.merge_core.specs.Gaps.{IsCovered, IsUncovered, IsMaximal}
use Rattle.merge_core.proofs.SharedLemmas.{by_order, first_held}
use Rattle.merge_core.proofs.SweepLemmas.{IsMaximal-same}
use Rattle.merge_core.proofs.MaximalAround.{maximal-once}
use Rattle.anti_core.specs.declared.rows.AntiRow.{AntiRow}
use Rattle.anti_core.specs.ItemAnti.{IsItemsAntiRow}
use Rattle.anti_core.specs.United.{IsUnited, IsUnion, StandsBefore, CoverAlike, StandByClass, RunsInto, IsPlain, IsMerged}

-- ---- the instants that some items cover

-- instants that the first item covers
covered_first : (y : Item) (ys : List Item) (x : Item) (t : ℤ) → y.class ≡ x.class → Holds y.period t
    → IsCovered (y ∷ ys) x t
covered_first y ys x t same h = record { by = y; by_in = Contains-head y ys; matches = same; holds = h }

-- instants that later items cover
covered_later : (y : Item) (ys : List Item) (x : Item) (t : ℤ) → IsCovered ys x t → IsCovered (y ∷ ys) x t
covered_later y ys x t c =
    record { by = c.by; by_in = Contains-cons y ys c.by c.by_in; matches = c.matches; holds = c.holds }

-- there are no other covered instants
covered_cases : (y : Item) (ys : List Item) (x : Item) (t : ℤ) → IsCovered (y ∷ ys) x t
    → ((y.class ≡ x.class) × Holds y.period t) ⊎ IsCovered ys x t
covered_cases y ys x t c = elim (Contains-cons_cases y ys c.by c.by_in) [
  | inl e ↦ inl (
    ap (λ (v : Item). v.class) e ∙ c.matches,
    subst (λ (v : Item). Holds v.period t) (sym e) c.holds,
  )
  | inr later ↦ inr (record { by = c.by; by_in = later; matches = c.matches; holds = c.holds })
]

-- only the class matters
covered_class : (items : List Item) (x y : Item) (t : ℤ) → x.class ≡ y.class → IsCovered items x t → IsCovered items y t
covered_class items x y t same c =
    record { by = c.by; by_in = c.by_in; matches = c.matches ∙ same; holds = c.holds }

-- the first item can be replaced by one with the same class and period
covered_swap : (x y : Item) (ys : List Item) → x.class ≡ y.class → x.period ≡ y.period → (z : Item) (t : ℤ)
    → IsCovered (x ∷ ys) z t → IsCovered (y ∷ ys) z t
covered_swap x y ys same e z t c = elim (covered_cases x ys z t c) [
  | inl (k, h) ↦ covered_first y ys z t (sym same ∙ k) (subst (λ (p : Period). Holds p t) e h)
  | inr later ↦ covered_later y ys z t later
]

-- ---- coalesced items, and covering the same instants

-- they are the coalesced items of any longer list that covers the same instants
union_same : (items others united : List Item) → CoverAlike items others → length items ≤ length others
    → IsUnion items united → IsUnion others united
union_same items others united same more u = record {
  fewer = (let fewer = u.fewer in omega (arith, fewer, more));
  all = IsListOf-same StandsBefore (IsUnited items) (IsUnited others) united
      (λ k i. record {
        id = i.id;
        amount = i.amount;
        maximal = IsMaximal-same (IsCovered items k) (IsCovered others k) k.period (λ t. (same k t).0)
            (λ t. (same k t).1) i.maximal;
      })
      (λ k i. record {
        id = i.id;
        amount = i.amount;
        maximal = IsMaximal-same (IsCovered others k) (IsCovered items k) k.period (λ t. (same k t).1)
            (λ t. (same k t).0) i.maximal;
      })
      u.all;
  alike = λ x t. (λ c. (u.alike x t).0 ((same x t).1 c), λ c. (same x t).0 ((u.alike x t).1 c));
}

-- an empty list coalesces to an empty list
union_none : IsUnion [] []
union_none = record {
  fewer = omega arith;
  all = IsListOf-none StandsBefore (IsUnited [])
      (λ k i. (let c = i.maximal.inside k.period.from (first_held k.period) in Contains-none c.by c.by_in));
  alike = λ x t. (λ c. c, λ c. c);
}

-- ---- an item that no other one continues

module _ (x : Item) (l : List Item) (id : x.id ≡ 0) (amount : x.amount ≡ pos 0)
    (up : (y : Item) → Contains l y → x.class ≤ y.class)
    (off : (y : Item) → Contains l y → y.class ≡ x.class → x.period.to <ℤ y.period.from) where
  -- later items of its class start after its end
  behind : (k : Item) (t : ℤ) → x.class ≡ k.class → IsCovered l k t → x.period.to <ℤ t
  behind k t same c =
      let after : x.period.to <ℤ c.by.period.from = off c.by c.by_in (c.matches ∙ sym same) in
      let on : c.by.period.from ≤ℤ t = c.holds.0 in
      omega (arith, ints)

  first_united : IsUnited (x ∷ l) x
  first_united =
      let proper : x.period.from <ℤ x.period.to = x.period.ordered in
      record {
        id = id;
        amount = amount;
        maximal = record {
          inside = λ t h. covered_first x l x t refl h;
          before = λ c. elim (covered_cases x l x (x.period.from -ℤ pos 1) c) [
            | inl (k, h) ↦ let lo : x.period.from ≤ℤ (x.period.from -ℤ pos 1) = h.0 in omega (arith, ints)
            | inr later ↦
                let far : x.period.to <ℤ (x.period.from -ℤ pos 1) =
                behind x (x.period.from -ℤ pos 1) refl later in
                omega (arith, ints)
          ];
          after = λ c. elim (covered_cases x l x x.period.to c) [
            | inl (k, h) ↦ let hi : x.period.to <ℤ x.period.to = h.1 in omega (arith, ints)
            | inr later ↦
                let far : x.period.to <ℤ x.period.to = behind x x.period.to refl later in omega (arith, ints)
          ];
        };
      }

  -- a coalesced item that starts among the later items
  module _ (k : Item) (starts : IsCovered l k k.period.from) where
    -- `x` doesn't hold any instant of it, nor the one before it
    apart : (t : ℤ) → (k.period.from -ℤ pos 1) ≤ℤ t → IsCovered (x ∷ l) k t → IsCovered l k t
    apart t late c = elim (covered_cases x l k t c) [
      | inl (same, h) ↦
          let far : x.period.to <ℤ k.period.from = behind k k.period.from same starts in
          let hi : t <ℤ x.period.to = h.1 in
          absurd (omega (arith, ints))
      | inr later ↦ later
    ]

    later_united : IsUnited l k → IsUnited (x ∷ l) k
    later_united i =
        let proper : k.period.from <ℤ k.period.to = k.period.ordered in
        record {
          id = i.id;
          amount = i.amount;
          maximal = record {
            inside = λ t h. covered_later x l k t (i.maximal.inside t h);
            before = λ c. i.maximal.before (apart (k.period.from -ℤ pos 1) (omega (arith, ints)) c);
            after = λ c. i.maximal.after (apart k.period.to (omega (arith, ints)) c);
          };
        }

    united_later : IsUnited (x ∷ l) k → IsUnited l k
    united_later i = record {
      id = i.id;
      amount = i.amount;
      maximal = record {
        inside = λ t h. (let on : k.period.from ≤ℤ t = h.0 in
            apart t (omega (arith, ints)) (i.maximal.inside t h));
        before = λ c. i.maximal.before (covered_later x l k (k.period.from -ℤ pos 1) c);
        after = λ c. i.maximal.after (covered_later x l k k.period.to c);
      };
    }

  -- some item covers the start of a coalesced item
  starts_there : (items : List Item) (k : Item) → IsUnited items k → IsCovered items k k.period.from
  starts_there items k i = i.maximal.inside k.period.from (first_held k.period)

  -- a coalesced item that starts in `x` equals `x`
  united_first : (k : Item) → IsUnited (x ∷ l) k → x.class ≡ k.class → Holds x.period k.period.from → x ≡ k
  united_first k i same h =
      let one : IsMaximal (IsCovered (x ∷ l) x) k.period =
      IsMaximal-same (IsCovered (x ∷ l) k) (IsCovered (x ∷ l) x) k.period
      (λ t. covered_class (x ∷ l) k x t (sym same)) (λ t. covered_class (x ∷ l) x k t same) i.maximal in
      Item-same x k
      (maximal-once (IsCovered (x ∷ l) x) x.period k.period k.period.from first_united.maximal one h
      (first_held k.period))
      (id ∙ sym i.id) same (amount ∙ sym i.amount)

  stands_before : (k : Item) → IsUnited l k → StandsBefore x k
  stands_before k i =
      let c = starts_there l k i in
      let most : x.class ≤ c.by.class = up c.by c.by_in in
      let own : c.by.class ≡ k.class = c.matches in
      elim (by_class x.class k.class (omega (arith, most, own))) [
        | inl less ↦ inl less
        | inr same ↦
            let proper : x.period.from <ℤ x.period.to = x.period.ordered in
            let far : x.period.to <ℤ k.period.from = behind k k.period.from same c in
            inr (same, omega (arith, ints))
      ]
    where
      by_class : (m n : ℕ) → m ≤ n → (m < n) ⊎ (m ≡ n)
      by_class m n h = grind arith

  union_cut : (united : List Item) → IsUnion l united → IsUnion (x ∷ l) (x ∷ united)
  union_cut united u = record {
    fewer = (let fewer = u.fewer in omega (arith, fewer));
    all = IsListOf-append StandsBefore (λ k. x ≡ k) (IsUnited l) (IsUnited (x ∷ l)) (x ∷ []) united
        (IsListOf-one StandsBefore (λ k. x ≡ k) x refl (λ k e. e)) u.all
        (λ a b e i. subst (λ v. StandsBefore v b) e (stands_before b i))
        (λ a e. subst (IsUnited (x ∷ l)) e first_united)
        (λ k i. later_united k (starts_there l k i) i)
        (λ k i. elim (covered_cases x l k k.period.from (starts_there (x ∷ l) k i)) [
          | inl (same, h) ↦ inl (united_first k i same h)
          | inr later ↦ inr (united_later k later i)
        ]);
    alike = λ z t. (
      λ c. elim (covered_cases x l z t c) [
        | inl (same, h) ↦ covered_first x united z t same h
        | inr later ↦ covered_later x united z t ((u.alike z t).0 later)
      ],
      λ c. elim (covered_cases x united z t c) [
        | inl (same, h) ↦ covered_first x l z t same h
        | inr later ↦ covered_later x l z t ((u.alike z t).1 later)
      ],
    );
  }

-- ---- two items of a class that touch or overlap

-- `a` doesn't come after `b` by class and start.
abbrev IsNotAfter : Item → Item → Type 0
IsNotAfter a b = (a.class < b.class) ⊎ ((a.class ≡ b.class) × (a.period.from ≤ℤ b.period.from))

-- the first item and a later one
not_after : (x : Item) (l : List Item) (y : Item) → StandByClass (x ∷ l) → Contains l y → IsNotAfter x y
not_after x l y order h = AllPairs-head IsNotAfter x l y order h

-- so classes are in ascending order, and within a class the starts
upwards : (a b : Item) → IsNotAfter a b → a.class ≤ b.class
upwards a b h = elim h [ inl less ↦ omega (arith, less) | inr (same, on) ↦ omega (arith, same) ]

onwards : (a b : Item) → IsNotAfter a b → a.class ≡ b.class → a.period.from ≤ℤ b.period.from
onwards a b h same = elim h [ inl less ↦ absurd (omega (arith, less, same)) | inr (e, on) ↦ on ]

module _ (x y j : Item) (l : List Item) (c : RunsInto x y) (i : IsMerged x y j)
    (order : StandByClass (x ∷ (y ∷ l))) where
  joined_alike : CoverAlike (j ∷ l) (x ∷ (y ∷ l))
  joined_alike z t =
      let px : x.period.from <ℤ x.period.to = x.period.ordered in
      let py : y.period.from <ℤ y.period.to = y.period.ordered in
      let on : x.period.from ≤ℤ y.period.from =
      onwards x y (not_after x (y ∷ l) y order (Contains-head y l)) c.same in
      let reaches : y.period.from ≤ℤ x.period.to = c.reaches in
      let from : j.period.from ≡ x.period.from = i.from in
      let to : j.period.to ≡ int_max x.period.to y.period.to = i.to in (
        λ v. elim (covered_cases j l z t v) [
          | inl (same, h) ↦
              let lo : j.period.from ≤ℤ t = h.0 in
              let hi : t <ℤ j.period.to = h.1 in
              elim (by_order x.period.to t) [
                | inr within ↦ covered_first x (y ∷ l) z t (sym i.class_is ∙ same) (omega (arith, ints), within)
                | inl late ↦
                    covered_later x (y ∷ l) z t
                    (covered_first y l z t (sym c.same ∙ sym i.class_is ∙ same)
                    (omega (arith, ints), omega (arith, ints, clamps)))
              ]
          | inr later ↦ covered_later x (y ∷ l) z t (covered_later y l z t later)
        ],
        λ v. elim (covered_cases x (y ∷ l) z t v) [
          | inl (same, h) ↦
              let lo : x.period.from ≤ℤ t = h.0 in
              let hi : t <ℤ x.period.to = h.1 in
              covered_first j l z t (i.class_is ∙ same) (omega (arith, ints), omega (arith, ints, clamps))
          | inr later ↦ elim (covered_cases y l z t later) [
            | inl (same, h) ↦
                let lo : y.period.from ≤ℤ t = h.0 in
                let hi : t <ℤ y.period.to = h.1 in
                covered_first j l z t (i.class_is ∙ c.same ∙ same) (omega (arith, ints), omega (arith, ints, clamps))
            | inr last ↦ covered_later j l z t last
          ]
        ],
      )

-- the first item can be replaced by one with the same class and start
order_swap : (x y : Item) (l : List Item) → x.class ≡ y.class → x.period.from ≡ y.period.from → StandByClass (x ∷ l)
    → StandByClass (y ∷ l)
order_swap x y l same from order =
    AllPairs-before IsNotAfter y l
    (λ z h. elim (not_after x l z order h) [
      | inl less ↦ inl (omega (arith, less, same))
      | inr (e, on) ↦ inr (sym same ∙ e, subst (λ (v : ℤ). v ≤ℤ z.period.from) from on)
    ])
    (AllPairs-tail IsNotAfter x l order)

-- without the second item
order_skip : (x y : Item) (l : List Item) → StandByClass (x ∷ (y ∷ l)) → StandByClass (x ∷ l)
order_skip x y l order =
    AllPairs-before IsNotAfter x l
    (λ z h. not_after x (y ∷ l) z order (Contains-cons y l z h))
    (AllPairs-tail IsNotAfter y l (AllPairs-tail IsNotAfter x (y ∷ l) order))

-- if the next item doesn't continue `x`, all later items of its class start after its end
cut_off : (x y : Item) (l : List Item) → StandByClass (x ∷ (y ∷ l)) → (RunsInto x y → ⊥) → (z : Item)
    → Contains (y ∷ l) z → z.class ≡ x.class → x.period.to <ℤ z.period.from
cut_off x y l order not z h same =
    let first : IsNotAfter x y = not_after x (y ∷ l) y order (Contains-head y l) in
    let next : IsNotAfter y z ⊎ (y ≡ z) = elim (Contains-cons_cases y l z h) [
      | inl e ↦ inr e
      | inr later ↦ inl (not_after y l z (AllPairs-tail IsNotAfter x (y ∷ l) order) later)
    ] in
    let up : x.class ≤ y.class = upwards x y first in
    elim next [
      | inr e ↦
          let own : y.class ≡ x.class = ap (λ (v : Item). v.class) e ∙ same in
          subst (λ (v : Item). x.period.to <ℤ v.period.from) e (behind_y (sym own))
      | inl after ↦
          let up' : y.class ≤ z.class = upwards y z after in
          let own : x.class ≡ y.class = omega (arith, up, up', same) in
          let far : x.period.to <ℤ y.period.from = behind_y own in
          let on : y.period.from ≤ℤ z.period.from = onwards y z after (sym own ∙ sym same) in
          omega (arith, ints)
    ]
  where
    behind_y : x.class ≡ y.class → x.period.to <ℤ y.period.from
    behind_y own = elim (by_order y.period.from x.period.to) [
      | inl reaches ↦ absurd (not (record { same = own; reaches = reaches }))
      | inr far ↦ far
    ]

-- ---- sorted by class and start

-- The order by class and start, which is total.
class_cmp : Item → Item → Ordering
class_cmp a b = ordering_then (nat_cmp a.class b.class) (int_cmp a.period.from b.period.from)

class_total : IsTotalOrder class_cmp
unfolding class_cmp
class_total = then_total (on_total (λ x. x.class) nat_cmp_total) (on_total (λ x. x.period.from) int_cmp_total)

-- the meaning of a comparison's result
nat_over : (m n : ℕ) → nat_cmp m n ≡ Greater → n < m
nat_over m n e = grind (arith, nat_tests)

int_upto : (a b : ℤ) → is_lt (int_cmp a b) ≡ false → b ≤ℤ a
int_upto a b h = grind (arith, ints)

-- so an item that isn't below another one doesn't come before it
not_after-by : (a b : Item) (r : Ordering) → nat_cmp b.class a.class ≡ r
    → is_lt (ordering_then r (int_cmp b.period.from a.period.from)) ≡ false → IsNotAfter a b
not_after-by a b Less e h = cc
not_after-by a b Equal e h = inr (sym (ranked b.class a.class Equal (sym e)), int_upto b.period.from a.period.from h)
not_after-by a b Greater e h = inl (nat_over b.class a.class e)

-- so sorted items are in order of class and start
pub stand_sorted : (items : List Item)
    → IsSortedBy (λ (a b : Item). is_lt
    (ordering_then (nat_cmp a.class b.class) (int_cmp a.period.from b.period.from))) items
    → StandByClass items
unfolding class_cmp
stand_sorted items sorted = λ i j d below inside.
    not_after-by (get_or items i d) (get_or items j d) _ refl
    (sorted_far (λ (a b : Item). is_lt (class_cmp a b)) (ranks_by class_total (λ (x : Item). x)) items sorted i j d
    (omega arith) inside)

-- ---- the sweep

-- The coalesced items until now, followed by those of the last item and the remaining ones, are all of them.
pub record IsUniting (items left : List Item) (last : Item) (united : List Item) : Type 0 where
  pub goes_on : (rest : List Item) → IsUnion (last ∷ left) rest → IsUnion items (united ++ rest)
  pub order : StandByClass (last ∷ left)
  pub id : last.id ≡ 0
  pub amount : last.amount ≡ pos 0

-- at first the last item is the first one
pub uniting_start : (items left : List Item) (first last : Item) (united : List Item) → items ≡ first ∷ left
    → IsPlain first last → united ≡ [] → StandByClass items → IsUniting items left last united
uniting_start items left first last united e plain none order =
    subst (λ z. IsUniting items left last z) (sym none)
    (subst (λ z. IsUniting z left last []) (sym e) (record {
      goes_on = λ rest u.
          union_same (last ∷ left) (first ∷ left) rest
          (λ z t. (
            covered_swap last first left plain.class_is plain.period z t,
            covered_swap first last left (sym plain.class_is) (sym plain.period) z t,
          ))
          (omega arith) u;
      order = order_swap first last left (sym plain.class_is) (ap (λ (p : Period). p.from) (sym plain.period))
          (subst StandByClass e order);
      id = plain.id;
      amount = plain.amount;
    }))

-- an item that continues the last one
pub uniting_joined : (items left left' : List Item) (was x both : Item) (united : List Item) → left ≡ x ∷ left'
    → RunsInto was x → IsMerged was x both → IsUniting items left was united → IsUniting items left' both united
uniting_joined items left left' was x both united e c j i =
    let i' : IsUniting items (x ∷ left') was united = subst (λ z. IsUniting items z was united) e i in
    record {
      goes_on = λ rest u.
          i'.goes_on rest
          (union_same (both ∷ left') (was ∷ (x ∷ left')) rest (joined_alike was x both left' c j i'.order)
          (omega arith) u);
      order = order_swap was both left' (sym j.class_is) (sym j.from) (order_skip was x left' i'.order);
      id = j.id;
      amount = j.amount;
    }

-- an item that doesn't
pub uniting_cut : (items left left' : List Item) (was x next : Item) (united new : List Item) → left ≡ x ∷ left'
    → (RunsInto was x → ⊥) → IsPlain x next → new ≡ united ++ was ∷ [] → IsUniting items left was united
    → IsUniting items left' next new
uniting_cut items left left' was x next united new e not plain g i =
    let i' : IsUniting items (x ∷ left') was united = subst (λ z. IsUniting items z was united) e i in
    let tail : StandByClass (x ∷ left') = AllPairs-tail IsNotAfter was (x ∷ left') i'.order in
    subst (λ z. IsUniting items left' next z) (sym g) (record {
      goes_on = λ rest u.
          subst (IsUnion items) (sym (append_assoc united (was ∷ []) rest))
          (i'.goes_on (was ∷ rest)
          (union_cut was (x ∷ left') i'.id i'.amount
          (λ y h. upwards was y (not_after was (x ∷ left') y i'.order h)) (cut_off was x left' i'.order not) rest
          (union_same (next ∷ left') (x ∷ left') rest
          (λ z t. (
            covered_swap next x left' plain.class_is plain.period z t,
            covered_swap x next left' (sym plain.class_is) (sym plain.period) z t,
          ))
          (omega arith) u)));
      order = order_swap x next left' (sym plain.class_is) (ap (λ (p : Period). p.from) (sym plain.period)) tail;
      id = plain.id;
      amount = plain.amount;
    })

-- at the end the last item is appended, too
pub uniting_end : (items left : List Item) (was : Item) (united new : List Item) → left ≡ [] → new ≡ united ++ was ∷ []
    → IsUniting items left was united → IsUnion items new
uniting_end items left was united new e g i =
    let i' : IsUniting items [] was united = subst (λ z. IsUniting items z was united) e i in
    subst (IsUnion items) (sym g)
    (i'.goes_on (was ∷ [])
    (union_cut was [] i'.id i'.amount (λ y h. absurd (Contains-none y h)) (λ y h same. absurd (Contains-none y h)) []
    union_none))

-- ---- permutations

-- permuted items cover the same instants
covered_moved : (items moved : List Item) → IsPermutation items moved → CoverAlike moved items
covered_moved items moved p x t = (
  λ c. record {
    by = c.by;
    by_in = Contains-permutation moved items c.by (IsPermutation-sym items moved p) c.by_in;
    matches = c.matches;
    holds = c.holds;
  },
  λ c. record {
    by = c.by;
    by_in = Contains-permutation items moved c.by p c.by_in;
    matches = c.matches;
    holds = c.holds;
  },
)

-- so they have the same coalesced items
pub union_moved : (items moved united : List Item) → IsPermutation items moved → IsUnion moved united
    → IsUnion items united
union_moved items moved united p u =
    union_same moved items united (covered_moved items moved p)
    (let e = length_permutation items moved p in omega (arith, e)) u

-- ---- coalescing separately, and then together

-- an instant that one of two lists covers is covered by both together
covered_front : (xs ys : List Item) (x : Item) (t : ℤ) → IsCovered xs x t → IsCovered (xs ++ ys) x t
covered_front xs ys x t c = record {
  by = c.by;
  by_in = Contains-append_left xs ys c.by c.by_in;
  matches = c.matches;
  holds = c.holds;
}

covered_back : (xs ys : List Item) (x : Item) (t : ℤ) → IsCovered ys x t → IsCovered (xs ++ ys) x t
covered_back xs ys x t c = record {
  by = c.by;
  by_in = Contains-append_right xs ys c.by c.by_in;
  matches = c.matches;
  holds = c.holds;
}

-- so lists that cover the same instants do so together
covered_together : (xs ys us vs : List Item) (x : Item) (t : ℤ) → (IsCovered xs x t → IsCovered us x t)
    → (IsCovered ys x t → IsCovered vs x t) → IsCovered (xs ++ ys) x t → IsCovered (us ++ vs) x t
covered_together xs ys us vs x t front back c = elim (Contains-append_cases xs ys c.by c.by_in) [
  | inl h ↦ covered_front us vs x t (front (record { by = c.by; by_in = h; matches = c.matches; holds = c.holds }))
  | inr h ↦ covered_back us vs x t (back (record { by = c.by; by_in = h; matches = c.matches; holds = c.holds }))
]

-- The second list covers the same instants, and isn't longer.
abbrev pub AreUnions : List Item → List Item → Type 0
AreUnions items unions = CoverAlike items unions × (length unions ≤ length items)

-- coalescing such a list gives the coalesced items of the first
pub unions_again : (items unions united : List Item) → AreUnions items unions → IsUnion unions united
    → IsUnion items united
unions_again items unions united are u =
    union_same unions items united (λ x t. ((are.0 x t).1, (are.0 x t).0)) are.1 u

-- two such lists together
pub unions_both : (xs ys us vs : List Item) → AreUnions xs us → AreUnions ys vs → AreUnions (xs ++ ys) (us ++ vs)
unions_both xs ys us vs u v = (
  λ x t. (
    covered_together xs ys us vs x t (u.0 x t).0 (v.0 x t).0,
    covered_together us vs xs ys x t (u.0 x t).1 (v.0 x t).1,
  ),
  (let few = length-append us vs in
      let all = length-append xs ys in
      let front = u.1 in
      let back = v.1 in
      omega (arith, few, all, front, back)),
)

-- ---- the anti-join

-- lists that cover the same instants leave the same instants uncovered
uncovered_alike : (items others : List Item) → CoverAlike items others → (x : Item) (t : ℤ) → IsUncovered items x t
    → IsUncovered others x t
uncovered_alike items others same x t u = record { held = u.held; uncovered = λ c. u.uncovered ((same x t).1 c) }

-- and vice versa
turned : (items others : List Item) → CoverAlike items others → CoverAlike others items
turned items others same x t = ((same x t).1, (same x t).0)

-- a row against one list is a row against the other
row_alike : (left items others : List Item) → CoverAlike items others → (row : AntiRow) → IsItemsAntiRow left items row
    → IsItemsAntiRow left others row
row_alike left items others same row is = record {
  x = is.x;
  x_in = is.x_in;
  id = is.id;
  maximal = IsMaximal-same (IsUncovered items is.x) (IsUncovered others is.x) row.period
      (uncovered_alike items others same is.x) (uncovered_alike others items (turned items others same) is.x)
      is.maximal;
}

-- so the rows are the same
pub rows-alike : (Before : AntiRow → AntiRow → Type 0) (left items others : List Item) (rows : List AntiRow)
    → CoverAlike items others → IsListOf Before (IsItemsAntiRow left others) rows
    → IsListOf Before (IsItemsAntiRow left items) rows
rows-alike Before left items others rows same lists =
    IsListOf-same Before (IsItemsAntiRow left others) (IsItemsAntiRow left items) rows
    (row_alike left others items (turned items others same)) (row_alike left items others same) lists
