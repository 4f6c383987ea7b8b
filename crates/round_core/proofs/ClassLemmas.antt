-- The constant intervals of all items, from the constant intervals of ranges of classes.
use Rattle.std.proofs.Common.{◌≡◌, ◌⊎◌, ℕ, ◌<◌, ◌≤◌, cond, List, [], ◌∷◌, ◌++◌, get_or, None, Some, Result, Ok, refl, sym, subst, ap, ◌∙◌, inl, inr, arith, append-nil}
use Rattle.std.specs.Ordering.{nat_cmp}
use Rattle.std.specs.declared.alloc.AllocError.{AllocError}
use Rattle.std.specs.Prelude.{All, AllPairs, flat_map, ◌==◌}
use Rattle.std.proofs.lemmas.Bool.{cases_lt, ne_eqb}
use Rattle.std.proofs.lemmas.List.Elements.{All-head, All-tail, filter-append}
use Rattle.dip_core.specs.declared.item.Item.{Item}
use Rattle.list_core.proofs.WantedLemmas.{IsListOf-append}
use Rattle.work_core.specs.Ranges.{has, range}
use Rattle.work_core.specs.Shares.{Gives, GivesFrom}
use Rattle.work_core.specs.declared.range.Range.{Range}
use Rattle.work_core.specs.declared.shares.Cut.{Cut}
use Rattle.work_core.proofs.ShareLemmas.{all_come}
use Rattle.grid_core.specs.Bundles.{ArePartedAt, ClassesRise, items_in}
use Rattle.grid_core.proofs.RangeItems.{filter_all, in-parted}
use Rattle.merge_core.specs.Gaps.{IsMaximal}
use Rattle.merge_core.specs.Tallies.{holding}
use Rattle.merge_core.proofs.SharedLemmas.{first_held}
use Rattle.round_core.specs.declared.measure.Measure.{Measure}
use Rattle.round_core.specs.declared.plateau.Plateau.{Plateau}
use Rattle.round_core.specs.Plateaus.{of_class, HasValue, IsPlateau, PlateauBefore, ArePlateaus}
use Rattle.round_core.proofs.CollectLemmas.{no_tally}

-- ---- two ways to say that classes are ascending

pub rise-from_grouped : (items : List Item) → AllPairs (λ (a b : Item). a.class ≤ b.class) items → ClassesRise items
rise-from_grouped items grouped = λ i j d upto inside.
    (elim (equal_or_less i j upto) [
      | inl e ↦ subst (λ (k : ℕ). (get_or items i d).class ≤ (get_or items k d).class) e (omega arith)
      | inr less ↦ grouped i j d less inside
    ])
  where
    equal_or_less : (m n : ℕ) → m ≤ n → (m ≡ n) ⊎ (m < n)
    equal_or_less m n h = grind arith

pub grouped-from_rise : (items : List Item) → ClassesRise items → AllPairs (λ (a b : Item). a.class ≤ b.class) items
grouped-from_rise items rise = λ i j d less inside. rise i j d (omega arith) inside

-- ---- items of lower classes, and of higher ones

-- without items of a class, its list is empty
pub none_of : (class : ℕ) (items : List Item) → All (λ (x : Item). x.class ≡ class → ⊥) items → of_class class items ≡ []
none_of class [] others = refl
none_of class (x ∷ items) others =
    ap (λ b. cond b (x ∷ of_class class items) (of_class class items))
    (ne_eqb x.class class (All-head (λ (y : Item). y.class ≡ class → ⊥) x items others))
    ∙ none_of class items (All-tail (λ (y : Item). y.class ≡ class → ⊥) x items others)

-- a class without items has no constant interval
pub no_plateau : (measure : Measure) (items : List Item) (p : Plateau) → of_class p.class items ≡ []
    → IsPlateau measure items p → ⊥
no_plateau measure items p none is =
    let h = is.maximal.inside p.period.from (first_held p.period) in
    no_tally (of_class p.class items) p.period.from h.tally (ap (λ z. holding z p.period.from) none) h.is

module _ (measure : Measure) (class : ℕ) (items low high : List Item) (parted : ArePartedAt class items low high)
  where
    -- the items of a lower class are all in the first list
    low_class : (k : ℕ) → k < class → of_class k (low ++ high) ≡ of_class k low
    low_class k less =
        filter-append (λ (x : Item). x.class == k) low high
        ∙ ap (λ z. of_class k low ++ z)
        (none_of k high (λ i d h same. let from = parted.from i d h in omega (arith, from, same, less)))
        ∙ append-nil (of_class k low)

    -- the items of this class or a higher one are all in the second list
    high_class : (k : ℕ) → class ≤ k → of_class k (low ++ high) ≡ of_class k high
    high_class k from =
        filter-append (λ (x : Item). x.class == k) low high
        ∙ ap (λ z. z ++ of_class k high)
        (none_of k low (λ i d h same. let below = parted.below i d h in omega (arith, below, same, from)))

    -- a constant interval of the lower items is of a lower class
    low_plateau : (p : Plateau) → IsPlateau measure low p → p.class < class
    low_plateau p is = elim (cases_lt p.class class) [
      | inl less ↦ less
      | inr from ↦ absurd (no_plateau measure low p
          (none_of p.class low (λ i d h same. let below = parted.below i d h in omega (arith, below, same, from))) is)
    ]

    -- and one of the others is not
    high_plateau : (p : Plateau) → IsPlateau measure high p → class ≤ p.class
    high_plateau p is = elim (cases_lt p.class class) [
      | inl less ↦ absurd (no_plateau measure high p
          (none_of p.class high (λ i d h same. let from = parted.from i d h in omega (arith, less, same, from))) is)
      | inr from ↦ omega (arith, from)
    ]

    -- a constant interval depends only on the items of its class
    moved : (some other : List Item) (p : Plateau) → of_class p.class some ≡ of_class p.class other
        → IsPlateau measure some p → IsPlateau measure other p
    moved some other p same is = record {
      maximal = subst (λ (z : List Item). IsMaximal (HasValue measure z p.value) p.period) same is.maximal;
    }

    both_have : (p : Plateau) → IsPlateau measure (low ++ high) p → IsPlateau measure low p ⊎ IsPlateau measure high p
    both_have p is = elim (cases_lt p.class class) [
      | inl less ↦ inl (moved (low ++ high) low p (low_class p.class less) is)
      | inr from ↦ inr (moved (low ++ high) high p (high_class p.class (omega (arith, from))) is)
    ]

    -- the constant intervals of both
    pub ArePlateaus-parted : (rows more : List Plateau) → ArePlateaus measure low rows → ArePlateaus measure high more
        → ArePlateaus measure items (rows ++ more)
    ArePlateaus-parted rows more one other =
        subst (λ (xs : List Item). ArePlateaus measure xs (rows ++ more)) (sym parted.whole)
        (IsListOf-append PlateauBefore (IsPlateau measure low) (IsPlateau measure high)
        (IsPlateau measure (low ++ high)) rows more one other
        (λ a b i j.
        let lower = low_plateau a i in
        let higher = high_plateau b j in
        inl (omega (arith, lower, higher)))
        (λ p is. moved low (low ++ high) p (sym (low_class p.class (low_plateau p is))) is)
        (λ p is. moved high (low ++ high) p (sym (high_class p.class (high_plateau p is))) is)
        both_have)

-- ---- ranges of classes

-- the range without ends contains all items
in-whole : (items : List Item) → items_in (range None None) items ≡ items
in-whole items = filter_all (λ (x : Item). has nat_cmp (range None None) x.class) items (λ k d h. refl)

-- all ranges' constant intervals together are the constant intervals of all items
pub plateaus-all : (measure : Measure) (items : List Item)
    (post : Range ℕ → ℕ → Result (List Plateau) AllocError → Type 0) (cuts : List (Cut ℕ)) (lists : List (List Plateau))
    → ClassesRise items
    → ((classes : Range ℕ) (n : ℕ) (some : List Plateau) → post classes n (Ok some)
    → ArePlateaus measure (items_in classes items) some)
    → GivesFrom nat_cmp (Gives post) None cuts lists → ArePlateaus measure items (flat_map (λ some. some) lists)
plateaus-all measure items post cuts lists rise known given =
    subst (λ (xs : List Item). ArePlateaus measure xs (flat_map (λ some. some) lists)) (in-whole items)
    (all_come nat_cmp (Gives post)
    (λ (classes : Range ℕ) (all : List (List Plateau)).
    ArePlateaus measure (items_in classes items) (flat_map (λ some. some) all))
    (λ classes some own.
    subst (ArePlateaus measure (items_in classes items)) (sym (append-nil some)) (known classes own.0 some own.1))
    (λ from at some more begun one others.
    ArePlateaus-parted measure at (items_in (range from None) items) (items_in (range from (Some at)) items)
    (items_in (range (Some at) None) items) (in-parted from at items rise begun) some (flat_map (λ some. some) more)
    (known (range from (Some at)) one.0 some one.1) others)
    None cuts lists given)
