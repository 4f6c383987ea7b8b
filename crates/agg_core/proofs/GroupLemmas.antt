-- Groups are numbered in ascending order of value, and rows become items with their group's number as class.
use Rattle.std.proofs.Common.{◌≡◌, ◌⊎◌, ◌<◌, ◌≤◌, ◌+◌, ◌-◌, ◌==◌, ℕ, ℤ, zero, suc, Bool, true, false, cond, List, [], ◌∷◌, ◌++◌, length, map, take, get_or, All, AllPairs, Option, Some, None, inl, inr, refl, sym, ap, subst, ◌∙◌, arith, length-append}
use Rattle.std.specs.Prelude.{slice_get, unwrap_or, Contains}
use Rattle.std.specs.List.{AllZip}
use Rattle.std.specs.Ordering.{is_lt}
use Rattle.std.proofs.lemmas.Bool.Decides.{Decides-eqb, same_from_decides}
use Rattle.std.proofs.lemmas.List.{get_or-take, get_or_default, length-map, length-take-le, take_more}
use Rattle.std.proofs.lemmas.List.Elements.{All-map, All-cons, All-nil, All-contains, Contains-get_or, Contains-append_left, Contains-push, Contains-push_cases}
use Rattle.std.proofs.lemmas.Option.{slice_get_within, slice_get-get_or, get_or_from_slice_get}
use Rattle.std.proofs.lemmas.Slice.Zip.{AllZip-long}
use Rattle.row_core.specs.ValueOrder.{maybe_cmp, same_maybe, value_cmp}
use Rattle.row_core.specs.declared.row.Row.{Row}
use Rattle.row_core.specs.declared.value.Value.{Value}
use Rattle.row_core.proofs.ValueLemmas.{maybe_decides, maybe_total}
use Rattle.dip_core.specs.declared.item.Item.{Item}
use Rattle.list_core.proofs.RisingLemmas.{Contains-cons, Contains-cons_cases, Contains-head, Contains-none}
use Rattle.list_core.proofs.MadeLemmas.{Contains-map_source}
use Rattle.list_core.proofs.WantedLemmas.{AllPairs-append}
use Rattle.list_core.proofs.OrderedLemmas.{before-asym}
use Rattle.list_core.proofs.PlaceLemmas.{slice_get-append_left, slice_get-seam}
use Rattle.round_core.specs.Plateaus.{of_class}
use Rattle.agg_core.specs.declared.entries.Entry.{Entry}
use Rattle.agg_core.specs.Groups.{rows_of_group}
use Rattle.agg_core.specs.Entries.{AreInGroups, AreRising, entry_row, entry_value, value_at_place}
use Rattle.agg_core.specs.Grouping.{AreNotAfter, GroupBefore, IsClassOf, IsGrouping, IsLast, AreItemsByGroup, IsNumberedItem, RisesByGroup, amount_item}
use Rattle.agg_core.proofs.OrderLemmas.{not_after}
use Rattle.agg_core.proofs.EntryLemmas.{AllZip-more}

-- ---- the number of a value's group

-- a group has one index
place_once : (groups : List (Option Value)) (c d : ℕ) (g : Option Value) → RisesByGroup groups
    → slice_get groups c ≡ Some g → slice_get groups d ≡ Some g → c ≡ d
place_once groups c d g rise at there = elim (by_order c d) [
  | inl less ↦ absurd (never c d at there less)
  | inr more ↦ elim more [
    | inl same ↦ same
    | inr less ↦ absurd (never d c there at less)
  ]
]
  where
    by_order : (c d : ℕ) → (c < d) ⊎ ((c ≡ d) ⊎ (d < c))
    by_order c d = grind arith

    never : (c d : ℕ) → slice_get groups c ≡ Some g → slice_get groups d ≡ Some g → c < d → ⊥
    never c d at there less =
        let inside : d < length groups = slice_get_within groups d g there in
        let before : GroupBefore (get_or groups c g) (get_or groups d g) = rise c d g less inside in
        let itself : GroupBefore g g =
        subst (λ (v : Option Value). GroupBefore v g) (get_or_from_slice_get groups c g g at)
        (subst (GroupBefore (get_or groups c g)) (get_or_from_slice_get groups d g g there) before) in
        before-asym maybe_cmp maybe_total g g itself itself

-- if no group comes after one that isn't the last, all come before it
before_all : (groups : List (Option Value)) (group : Option Value) → RisesByGroup groups → AreNotAfter groups group
    → (IsLast groups group → ⊥) → (g : Option Value) → Contains groups g → GroupBefore g group
before_all groups group rise upto not_last g (k, inside, e) = elim (not_after g group here) [
  | inl less ↦ less
  | inr same ↦ absurd (elim (by_order k (length groups) inside) [
    | inr is_end ↦ not_last
        (ap (slice_get groups) (sym is_end) ∙ slice_get-get_or groups k g inside ∙ ap Some (e ∙ same))
    | inl earlier ↦ never same earlier
  ])
]
  where
    here : is_lt (maybe_cmp group g) ≡ false
    here = subst (λ (v : Option Value). is_lt (maybe_cmp group v) ≡ false) e (upto k g inside)

    by_order : (k n : ℕ) → k < n → (k < n - 1) ⊎ (k ≡ n - 1)
    by_order k n h = grind arith

    never : g ≡ group → k < length groups - 1 → ⊥
    never same earlier =
        let within : length groups - 1 < length groups = omega arith in
        let end : Option Value = get_or groups (length groups - 1) g in
        let before : GroupBefore g end =
        subst (λ (v : Option Value). GroupBefore v end) e (rise k (length groups - 1) g earlier within) in
        elim (not_after end group (upto (length groups - 1) g within)) [
          | inl less ↦ before-asym maybe_cmp maybe_total g end before
              (subst (GroupBefore end) (sym same) less)
          | inr is ↦ before-asym maybe_cmp maybe_total g g (subst (GroupBefore g) (is ∙ sym same) before)
              (subst (GroupBefore g) (is ∙ sym same) before)
        ]

-- a list of one element is in any order
AllPairs-one : {X : Type 0} (R : X → X → Type 0) (x : X) → AllPairs R (x ∷ [])
AllPairs-one R x i j d less inside = absurd (omega arith)

-- the value's group is appended
pub class_of_added : (value : Value) (old new : List (Option Value)) (class : ℕ) → RisesByGroup old
    → AreNotAfter old (Some value) → (IsLast old (Some value) → ⊥) → new ≡ old ++ Some value ∷ [] → class ≡ length old
    → IsClassOf value old new class
class_of_added value old new class rise upto not_last put e =
    subst (λ (l : List (Option Value)). IsClassOf value old l class) (sym put) (record {
      rise =
          AllPairs-append GroupBefore old (Some value ∷ []) rise (AllPairs-one GroupBefore (Some value))
          (λ g h k m. elim (Contains-cons_cases (Some value) [] h m) [
            | inl same ↦ subst (GroupBefore g) same (before_all old (Some value) rise upto not_last g k)
            | inr later ↦ absurd (Contains-none h later)
          ]);
      last =
          let long : length (old ++ Some value ∷ []) ≡ length old + 1 = length-append old (Some value ∷ []) in
          omega arith;
      at = ap (slice_get (old ++ Some value ∷ [])) e ∙ slice_get-seam old (Some value) [];
      kept = λ c g h. slice_get-append_left old (Some value ∷ []) c g h;
      added = λ g h. elim (Contains-push_cases old (Some value) g h) [
        | inl k ↦ inl k
        | inr same ↦ inr (sym same)
      ];
    })

-- ---- numbered rows

module _ {K : Type 0} (value_of : K → Value) (source : List Row) where
  -- no group until now comes after the value of the next entry
  pub upto_next : (amount_of : Row → ℤ) (entries : List (Entry K)) (i : ℕ) (e : Entry K) (items : List Item)
      (groups : List (Option Value)) → AreRising value_of entries → i < length entries → e ≡ get_or entries i e
      → AreItemsByGroup value_of source amount_of (take i entries) items groups
      → AreNotAfter groups (Some (entry_value value_of e))
  upto_next amount_of entries i e items groups rising inside at numbered k d h =
      let (before, (j, near, is), same) = numbered.listed (get_or groups k d) (Contains-get_or groups k d h) in
      subst (λ (g : Option Value). is_lt (maybe_cmp (Some (entry_value value_of e)) g) ≡ false) same
      (earlier before j near is)
    where
      earlier : (before : Entry K) (j : ℕ) → j < length (take i entries) → get_or (take i entries) j before ≡ before
          → is_lt (value_cmp (entry_value value_of e) (entry_value value_of before)) ≡ false
      earlier before j near is =
          let long : length (take i entries) ≡ i = length-take-le i entries (omega arith) in
          let less : j < i = omega (arith, near, long) in
          let there : get_or entries j before ≡ before = sym (get_or-take i entries j before less) ∙ is in
          let here : get_or entries i before ≡ e = get_or_default entries i before e inside ∙ sym at in
          subst (λ (x : Entry K). is_lt (value_cmp (entry_value value_of x) (entry_value value_of before)) ≡ false) here
          (subst (λ (x : Entry K). is_lt
          (value_cmp (entry_value value_of (get_or entries i before)) (entry_value value_of x)) ≡ false) there
          (rising j i before less inside))

  -- numbers stay the same if groups are added
  each_kept : (amount_of : Row → ℤ) (old new : List (Option Value)) (es : List (Entry K)) (items : List Item)
      → ((c : ℕ) (g : Option Value) → slice_get old c ≡ Some g → slice_get new c ≡ Some g)
      → AllZip (IsNumberedItem value_of source amount_of old) es items
      → AllZip (IsNumberedItem value_of source amount_of new) es items
  each_kept amount_of old new [] [] kept all = tt
  each_kept amount_of old new [] (x ∷ items) kept all = absurd all
  each_kept amount_of old new (e ∷ es) [] kept all = absurd all
  each_kept amount_of old new (e ∷ es) (x ∷ items) kept all = (
    record { is = all.0.is; at = kept x.class (Some (entry_value value_of e)) all.0.at },
    each_kept amount_of old new es items kept all.1,
  )

  -- each item's class is the number of a group
  pub classes_within : (amount_of : Row → ℤ) (groups : List (Option Value)) (es : List (Entry K)) (items : List Item)
      → AllZip (IsNumberedItem value_of source amount_of groups) es items
      → All (λ (x : Item). x.class < length groups) items
  classes_within amount_of groups [] [] all = All-nil (λ (x : Item). x.class < length groups)
  classes_within amount_of groups [] (x ∷ items) all = absurd all
  classes_within amount_of groups (e ∷ es) [] all = absurd all
  classes_within amount_of groups (e ∷ es) (x ∷ items) all =
      All-cons (λ (y : Item). y.class < length groups) x items
      (slice_get_within groups x.class (Some (entry_value value_of e)) all.0.at)
      (classes_within amount_of groups es items all.1)

  -- one more entry
  pub numbered_more : (amount_of : Row → ℤ) (entries : List (Entry K)) (i : ℕ) (e : Entry K) (items new : List Item)
      (x : Item)
      (groups groups' : List (Option Value)) (class : ℕ) → i < length entries → e ≡ get_or entries i e
      → IsClassOf (entry_value value_of e) groups groups' class → x ≡ amount_item amount_of class (entry_row source e)
      → new ≡ items ++ x ∷ []
      → AreItemsByGroup value_of source amount_of (take i entries) items groups
      → AreItemsByGroup value_of source amount_of (take (i + 1) entries) new groups'
  numbered_more amount_of entries i e items new x groups groups' class inside at is made put was = record {
    classes = subst (AllPairs (λ (a b : Item). a.class ≤ b.class)) (sym put)
        (AllPairs-append (λ (a b : Item). a.class ≤ b.class) items (x ∷ []) was.classes
        (AllPairs-one (λ (a b : Item). a.class ≤ b.class) x) below);
    rise = is.rise;
    each = AllZip-more (IsNumberedItem value_of source amount_of groups') entries i e items new x inside at put
        (record {
          is = made ∙ ap (λ c. amount_item amount_of c (entry_row source e)) (sym classed);
          at = ap (slice_get groups') classed ∙ is.at;
        })
        (each_kept amount_of groups groups' (take i entries) items is.kept was.each);
    listed = λ g h. elim (is.added g h) [
      | inl old ↦ let (before, there, same) = was.listed g old in
          (before, taken before (Contains-append_left (take i entries) (e ∷ []) before there), same)
      | inr same ↦ (e, taken e (Contains-push (take i entries) e), sym same)
    ];
  }
    where
      classed : x.class ≡ class
      classed = ap (λ (y : Item). y.class) made

      taken : (b : Entry K) → Contains (take i entries ++ e ∷ []) b → Contains (take (i + 1) entries) b
      taken b h =
          subst (λ l. Contains l b)
          (sym (take_more entries i e inside ∙ ap (λ (z : Entry K). take i entries ++ z ∷ []) (sym at))) h

      below : (a b : Item) → Contains items a → Contains (x ∷ []) b → a.class ≤ b.class
      below a b h k =
          let within : All (λ (y : Item). y.class < length groups') items =
          classes_within amount_of groups' (take i entries) items
          (each_kept amount_of groups groups' (take i entries) items is.kept was.each) in
          let less : a.class < length groups' =
          All-contains (λ (y : Item). y.class < length groups') items a within h in
          let last = is.last in
          elim (Contains-cons_cases x [] b k) [
            | inl same ↦
                let here : class ≡ b.class = sym classed ∙ ap (λ (y : Item). y.class) same in
                omega (arith, less, last, here)
            | inr later ↦ absurd (Contains-none b later)
          ]

-- ---- the items of a class

-- one more item and one more row, if both pass
cond-item : (f : Row → Item) (x : Item) (r : Row) (b c : Bool) (items : List Item) (rows : List Row) → b ≡ c
    → (c ≡ true → x ≡ f r) → items ≡ map f rows → cond b (x ∷ items) items ≡ map f (cond c (r ∷ rows) rows)
cond-item f x r b true items rows same is all =
    ap (λ t. cond t (x ∷ items) items) same ∙ ap (λ (y : Item). y ∷ items) (is refl) ∙ ap (λ l. f r ∷ l) all
cond-item f x r b false items rows same is all = ap (λ t. cond t (x ∷ items) items) same ∙ all

module _ {K : Type 0} (value_of : K → Value) (source : List Row) where
  -- the items with a group's number are the rows of that group
  of_class-rows : (amount_of : Row → ℤ) (group_of : Row → Option Value) (groups : List (Option Value))
      (es : List (Entry K)) (items : List Item) (c : ℕ) (g : Option Value) → RisesByGroup groups
      → slice_get groups c ≡ Some g
      → ((e : Entry K) → Contains es e → group_of (entry_row source e) ≡ Some (entry_value value_of e))
      → AllZip (IsNumberedItem value_of source amount_of groups) es items
      → of_class c items ≡ map (amount_item amount_of c) (rows_of_group group_of g (map (entry_row source) es))
  of_class-rows amount_of group_of groups [] [] c g rise at grouped all = refl
  of_class-rows amount_of group_of groups [] (x ∷ items) c g rise at grouped all = absurd all
  of_class-rows amount_of group_of groups (e ∷ es) [] c g rise at grouped all = absurd all
  of_class-rows amount_of group_of groups (e ∷ es) (x ∷ items) c g rise at grouped all =
      cond-item (amount_item amount_of c) x (entry_row source e) (x.class == c)
      (same_maybe (group_of (entry_row source e)) g)
      (of_class c items)
      (rows_of_group group_of g (map (entry_row source) es)) alike
      (λ t. all.0.is ∙ ap (λ n. amount_item amount_of n (entry_row source e))
      (to_class ((maybe_decides (group_of (entry_row source e)) g).0 t)))
      (of_class-rows amount_of group_of groups es items c g rise at
      (λ b h. grouped b (Contains-cons e es b h)) all.1)
    where
      here : group_of (entry_row source e) ≡ Some (entry_value value_of e)
      here = grouped e (Contains-head e es)

      to_class : group_of (entry_row source e) ≡ g → x.class ≡ c
      to_class same = place_once groups x.class c g rise (all.0.at ∙ ap Some (sym here ∙ same)) at

      to_group : x.class ≡ c → group_of (entry_row source e) ≡ g
      to_group same =
          let one : Some (Some (entry_value value_of e)) ≡ Some g = sym all.0.at ∙ ap (slice_get groups) same ∙ at in
          here ∙ ap (λ (o : Option (Option Value)). unwrap_or o g) one

      alike : (x.class == c) ≡ same_maybe (group_of (entry_row source e)) g
      alike =
          same_from_decides (x.class == c) (same_maybe (group_of (entry_row source e)) g)
          (λ t. to_group ((Decides-eqb x.class c).0 t), λ same. (Decides-eqb x.class c).1 (to_class same))
          (maybe_decides (group_of (entry_row source e)) g)

  -- the group of an entry's value is listed
  entry_listed : (amount_of : Row → ℤ) (groups : List (Option Value)) (es : List (Entry K)) (items : List Item)
      → AllZip (IsNumberedItem value_of source amount_of groups) es items → (e : Entry K) → Contains es e
      → Contains groups (Some (entry_value value_of e))
  entry_listed amount_of groups [] items all e h = absurd (Contains-none e h)
  entry_listed amount_of groups (b ∷ es) [] all e h = absurd all
  entry_listed amount_of groups (b ∷ es) (x ∷ items) all e h = elim (Contains-cons_cases b es e h) [
    | inl same ↦ subst (λ (d : Entry K). Contains groups (Some (entry_value value_of d))) same
        (subst (Contains groups)
        (get_or_from_slice_get groups x.class (Some (entry_value value_of b)) (Some (entry_value value_of b)) all.0.at)
        (Contains-get_or groups x.class (Some (entry_value value_of b))
        (slice_get_within groups x.class (Some (entry_value value_of b)) all.0.at)))
    | inr later ↦ entry_listed amount_of groups es items all.1 e later
  ]

  -- the rows of numbered entries
  pub grouping_of : (amount_of : Row → ℤ) (group_of : Row → Option Value) (es : List (Entry K)) (items : List Item)
      (groups : List (Option Value)) → AreInGroups value_of source group_of es
      → AreItemsByGroup value_of source amount_of es items groups
      → IsGrouping amount_of group_of (map (entry_row source) es) items groups
  grouping_of amount_of group_of es items groups grouped numbered = record {
    classes = numbered.classes;
    count = AllZip-long (IsNumberedItem value_of source amount_of groups) es items numbered.each
        ∙ sym (length-map es (entry_row source));
    within = classes_within value_of source amount_of groups es items numbered.each;
    rise = numbered.rise;
    listed = λ row h.
        let (e, there, is) = Contains-map_source (entry_row source) es row h in
        subst (Contains groups) (sym (own e there) ∙ ap group_of is)
        (entry_listed amount_of groups es items numbered.each e there);
    of_classes = λ c g at. of_class-rows amount_of group_of groups es items c g numbered.rise at own numbered.each;
  }
    where
      own : (e : Entry K) → Contains es e → group_of (entry_row source e) ≡ Some (entry_value value_of e)
      own e there =
          All-contains (λ (b : Entry K). group_of (entry_row source b) ≡ Some (entry_value value_of b)) es e grouped
          there

-- ---- all rows as one group

-- if no row has a group value, all rows are of one group
all_of_one : (amount_of : Row → ℤ) (rows : List Row)
    → of_class 0 (map (amount_item amount_of 0) rows)
    ≡ map (amount_item amount_of 0) (rows_of_group (value_at_place None) None rows)
all_of_one amount_of [] = refl
all_of_one amount_of (r ∷ rows) = ap (λ l. amount_item amount_of 0 r ∷ l) (all_of_one amount_of rows)

-- all rows as one group
pub grouping_of_one : (amount_of : Row → ℤ) (rows : List Row) (items : List Item)
    → items ≡ map (amount_item amount_of 0) rows → IsGrouping amount_of (value_at_place None) rows items (None ∷ [])
grouping_of_one amount_of rows items e =
    subst (λ (l : List Item). IsGrouping amount_of (value_at_place None) rows l (None ∷ [])) (sym e) (record {
      classes = λ i j d less inside.
          let one = zeros i d (omega arith) in let other = zeros j d inside in omega (arith, one, other);
      count = length-map rows (amount_item amount_of 0);
      within = λ i d inside. let one = zeros i d inside in omega (arith, one);
      rise = AllPairs-one GroupBefore None;
      listed = λ row h. Contains-head None [];
      of_classes = only;
    })
  where
    zeros : All (λ (x : Item). x.class ≡ 0) (map (amount_item amount_of 0) rows)
    zeros = All-map (λ (x : Item). x.class ≡ 0) (amount_item amount_of 0) rows (λ k d h. refl)

    only : (c : ℕ) (g : Option Value) → slice_get (None ∷ []) c ≡ Some g
        → of_class c (map (amount_item amount_of 0) rows)
        ≡ map (amount_item amount_of c) (rows_of_group (value_at_place None) g rows)
    only zero g at =
        all_of_one amount_of rows
        ∙ ap (λ (v : Option Value). map (amount_item amount_of 0) (rows_of_group (value_at_place None) v rows))
        (ap (λ (o : Option (Option Value)). unwrap_or o g) at)
    only (suc c) g at = cc
