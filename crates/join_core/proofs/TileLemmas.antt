-- Left and right items, put into tiles from cut to cut.
use Rattle.std.proofs.Common.{◌≡◌, ◌⊎◌, ℕ, ◌≤◌, ℤ, ◌≤ℤ◌, ◌<ℤ◌, All, AllPairs, true, List, [], ◌∷◌, ◌++◌, inl, inr, length, filter, not, cond, get_or, Bool, refl, sym, subst, ap, ◌∙◌, arith, append_assoc, append-nil, length-append}
use Rattle.std.specs.Prelude.{◌==◌, Contains, IfSome, IsPermutation, Option, Some, int_lt}
use Rattle.std.specs.Global.{Vec}
use Rattle.std.proofs.lemmas.Int.{ints}
use Rattle.std.proofs.lemmas.List.Elements.{All-append, All-contains, All-nil, Contains-append_cases, Contains-append_left, Contains-append_right, Contains-get_or, filter_passes}
use Rattle.std.proofs.lemmas.List.Sorted.{Contains-permutation, IsPermutation-append, IsPermutation-filter_both, IsPermutation-refl, IsPermutation-sym, length_permutation}
use Rattle.std.proofs.lemmas.List.Sums.{sum_by-append}
use Rattle.list_core.proofs.RisingLemmas.{Contains-cons, Contains-cons_cases, Contains-head, Contains-none}
use Rattle.list_core.proofs.WantedLemmas.{AllPairs-append, AllPairs-before}
use Rattle.period_core.specs.Period.{Overlap}
use Rattle.period_core.proofs.PeriodLemmas.{Overlap-ends}
use Rattle.dip_core.specs.declared.item.Item.{Item}
use Rattle.dip_core.specs.Item.{item_limit, HasDistinctIds}
use Rattle.dip_core.proofs.DivisionLemmas.{HasDistinctIds-permutation}
use Rattle.dip_core.proofs.PartedLemmas.{distinct-earlier, distinct-later, ids-apart}
use Rattle.join_core.specs.declared.tiles.Tile.{Tile}
use Rattle.join_core.proofs.CutLemmas.{StartsRise-back}
use Rattle.join_core.specs.Tiles.{AddsTiles, AreCutAt, AreSome, AreTiles, HasPair, IsDivisible, StartsRise, reads_in}

-- ---- some of a side's items

AreSome-front : (items xs ys : List Item) → AreSome items (xs ++ ys) → AreSome items xs
AreSome-front items xs ys some = record {
  among = λ x h. some.among x (Contains-append_left xs ys x h);
  ids = distinct-earlier xs ys some.ids;
  few = (let len = length-append xs ys in let few = some.few in omega (arith, len, few));
}

AreSome-back : (items xs ys : List Item) → AreSome items (xs ++ ys) → AreSome items ys
AreSome-back items xs ys some = record {
  among = λ y h. some.among y (Contains-append_right xs ys y h);
  ids = distinct-later xs ys some.ids;
  few = (let len = length-append xs ys in let few = some.few in omega (arith, len, few));
}

-- without some in the middle
AreSome-without : (items xs ys zs : List Item) → AreSome items ((xs ++ ys) ++ zs) → AreSome items (xs ++ zs)
AreSome-without items xs ys zs some = record {
  among = λ x h. some.among x (elim (Contains-append_cases xs zs x h) [
    | inl k ↦ Contains-append_left (xs ++ ys) zs x (Contains-append_left xs ys x k)
    | inr k ↦ Contains-append_right (xs ++ ys) zs x k
  ]);
  ids = λ i. (let most = some.ids i in
      let count = λ (ls ms : List Item). sum_by-append (λ (x : Item). cond (x.id == i) 1 0) ls ms in
      let a = count (xs ++ ys) zs in
      let b = count xs ys in
      let c = count xs zs in
      omega (arith, most, a, b, c));
  few = (let a = length-append (xs ++ ys) zs in let b = length-append xs ys in let c = length-append xs zs in
      let few = some.few in omega (arith, a, b, c, few));
}

-- permuted
AreSome-permutation : (items xs ys : List Item) → IsPermutation xs ys → AreSome items xs → AreSome items ys
AreSome-permutation items xs ys moved some = record {
  among = λ y h. some.among y (Contains-permutation ys xs y (IsPermutation-sym xs ys moved) h);
  ids = HasDistinctIds-permutation xs ys moved some.ids;
  few = (let len = length_permutation xs ys moved in let few = some.few in omega (arith, len, few));
}

-- ---- one side

-- The rest of a side: items that started earlier and may still hold, and items that start later.
pub record IsSide (items early rest : List Item) : Type 0 where
  pub some : AreSome items (early ++ rest)
  pub rise : StartsRise rest

-- at first all items start later
pub IsSide-all : (items : List Item) → HasDistinctIds items → length items ≤ item_limit → StartsRise items
    → IsSide items [] items
IsSide-all items ids few rise = record { some = record { among = λ x h. h; ids = ids; few = few }; rise = rise }

abbrev pub holds_from : ℤ → Item → Bool
holds_from cut x = int_lt cut x.period.to

module _ (items early rest started later kept : List Item) (cut : ℤ) (side : IsSide items early rest)
    (parted : AreCutAt cut rest started later) (kept_is : kept ≡ filter (holds_from cut) (early ++ started)) where
  abbrev passed : List Item
  passed = filter (λ x. not (holds_from cut x)) (early ++ started)

  pub side_whole : early ++ rest ≡ (early ++ started) ++ later
  side_whole = ap (λ l. early ++ l) parted.whole ∙ sym (append_assoc early started later)

  pub side_some : AreSome items ((early ++ started) ++ later)
  side_some = subst (AreSome items) side_whole side.some

  kept_passed : IsPermutation (early ++ started) (kept ++ passed)
  kept_passed =
      subst (λ l. IsPermutation (early ++ started) (l ++ passed)) (sym kept_is)
      (IsPermutation-filter_both (holds_from cut) (λ x. not (holds_from cut x)) (λ x. refl) (early ++ started))

  -- a kept item was there
  pub kept-there : (x : Item) → Contains kept x → Contains (early ++ started) x
  kept-there x h =
      Contains-permutation (kept ++ passed) (early ++ started) x
      (IsPermutation-sym (early ++ started) (kept ++ passed) kept_passed) (Contains-append_left kept passed x h)

  -- an item that holds from the cut on is kept
  pub kept-from : (x : Item) → Contains (early ++ started) x → cut <ℤ x.period.to → Contains kept x
  kept-from x h holds =
      elim (Contains-append_cases kept passed x
      (Contains-permutation (early ++ started) (kept ++ passed) x kept_passed h)) [
        | inl k ↦ k
        | inr k ↦ (
            let over : not (holds_from cut x) ≡ true =
            All-contains (λ y. not (holds_from cut y) ≡ true) passed x
            (filter_passes (λ y. not (holds_from cut y)) (early ++ started)) k in
            absurd (grind (arith, ints)))
      ]

  -- so this is the rest at the next cut
  pub side_next : IsSide items kept later
  side_next = record {
    some = AreSome-without items kept passed later
        (AreSome-permutation items ((early ++ started) ++ later) ((kept ++ passed) ++ later)
        (IsPermutation-append (early ++ started) (kept ++ passed) later later kept_passed (IsPermutation-refl later))
        side_some);
    rise = StartsRise-back started later (subst StartsRise parted.whole side.rise);
  }

-- ---- both sides

-- Both items must still get into one tile together.
abbrev IsOwed : (early_left left early_right right : List Item) → Item → Item → Type 0
IsOwed early_left left early_right right x y =
    (Contains left x × Contains (early_right ++ right) y) ⊎ (Contains early_left x × Contains right y)

abbrev IsTiled : List Tile → Item → Item → Type 0
IsTiled tiles x y = (tile : Tile) × Contains tiles tile × HasPair x y tile

-- No two items are together in both tiles.
abbrev HaveNone : Tile → Tile → Type 0
HaveNone a b = (x y : Item) → HasPair x y a → HasPair x y b → ⊥

-- The tiles until now, and the rest of both sides.
pub record IsTiling
    (left right early_left rest_left early_right rest_right : List Item) (tiles : List Tile) : Type 0 where
  pub lefts : All (λ (tile : Tile). AreSome left tile.left.items) tiles
  pub rights : All (λ (tile : Tile). AreSome right tile.right.items) tiles
  pub whole : (x y : Item) → Contains left x → Contains right y → Overlap x.period y.period
      → IsTiled tiles x y ⊎ IsOwed early_left rest_left early_right rest_right x y
  pub once : AllPairs HaveNone tiles
  pub others : (tile : Tile) (x y : Item) → Contains tiles tile → HasPair x y tile
      → IsOwed early_left rest_left early_right rest_right x y → ⊥

pub tiling_start : (left right : List Item) → IsTiling left right [] left [] right []
tiling_start left right = record {
  lefts = All-nil (λ (tile : Tile). AreSome left tile.left.items);
  rights = All-nil (λ (tile : Tile). AreSome right tile.right.items);
  whole = λ x y h k o. inr (inl (h, k));
  once = λ i j d less h. absurd (omega arith);
  others = λ tile x y h p o. absurd (Contains-none tile h);
}

-- if the rest is empty, the tiles are complete
pub tiling_end : (left right early_left early_right : List Item) (tiles : List Tile)
    → IsTiling left right early_left [] early_right [] tiles → AreTiles left right tiles
tiling_end left right early_left early_right tiles is = record {
  lefts = is.lefts;
  rights = is.rights;
  whole = λ x y h k o. elim (is.whole x y h k o) [
    | inl t ↦ t
    | inr owed ↦ elim owed [
      | inl p ↦ absurd (Contains-none x p.0)
      | inr p ↦ absurd (Contains-none y p.1)
    ]
  ];
  once = is.once;
}

module _ (left right early_left rest_left early_right rest_right started_left later_left started_right later_right kept_left
    kept_right : List Item)
    (lefts : AreSome left ((early_left ++ started_left) ++ later_left))
    (rights : AreSome right ((early_right ++ started_right) ++ later_right))
    (left_is : rest_left ≡ started_left ++ later_left) (right_is : rest_right ≡ started_right ++ later_right)
    (left_there : (x : Item) → Contains kept_left x → Contains (early_left ++ started_left) x)
    (right_there : (y : Item) → Contains kept_right y → Contains (early_right ++ started_right) y)
    (left_from : (x y : Item) → Contains (early_left ++ started_left) x → Contains later_right y
    → Overlap x.period y.period → Contains kept_left x)
    (right_from : (x y : Item) → Contains later_left x → Contains (early_right ++ started_right) y
    → Overlap x.period y.period → Contains kept_right y)
    (old new : List Tile) (adds : AddsTiles early_left started_left early_right started_right old new)
    (is : IsTiling left right early_left rest_left early_right rest_right old) where
  abbrev Was : Item → Item → Type 0
  Was x y = IsOwed early_left rest_left early_right rest_right x y

  abbrev Next : Item → Item → Type 0
  Next x y = IsOwed kept_left later_left kept_right later_right x y

  in_one : (x y : Item) → Contains started_left x → Contains (early_right ++ started_right) y → HasPair x y adds.one
  in_one x y h k = (
    subst (λ l. Contains l x) (sym adds.one_left) h,
    subst (λ l. Contains l y) (sym adds.one_right) k,
  )

  of_one : (x y : Item) → HasPair x y adds.one → Contains started_left x × Contains (early_right ++ started_right) y
  of_one x y p = (subst (λ l. Contains l x) adds.one_left p.0, subst (λ l. Contains l y) adds.one_right p.1)

  in_other : (x y : Item) → Contains early_left x → Contains started_right y → HasPair x y adds.other
  in_other x y h k = (
    subst (λ l. Contains l x) (sym adds.other_left) h,
    subst (λ l. Contains l y) (sym adds.other_right) k,
  )

  of_other : (x y : Item) → HasPair x y adds.other → Contains early_left x × Contains started_right y
  of_other x y p = (subst (λ l. Contains l x) adds.other_left p.0, subst (λ l. Contains l y) adds.other_right p.1)

  rest_x : (x : Item) → Contains rest_left x → Contains started_left x ⊎ Contains later_left x
  rest_x x h = Contains-append_cases started_left later_left x (subst (λ l. Contains l x) left_is h)

  rest_y : (y : Item) → Contains rest_right y → Contains started_right y ⊎ Contains later_right y
  rest_y y h = Contains-append_cases started_right later_right y (subst (λ l. Contains l y) right_is h)

  from_started : (x : Item) → Contains started_left x → Contains rest_left x
  from_started x h =
      subst (λ l. Contains l x) (sym left_is) (Contains-append_left started_left later_left x h)

  from_later : (x : Item) → Contains later_left x → Contains rest_left x
  from_later x h =
      subst (λ l. Contains l x) (sym left_is) (Contains-append_right started_left later_left x h)

  started_y : (y : Item) → Contains started_right y → Contains rest_right y
  started_y y h =
      subst (λ l. Contains l y) (sym right_is) (Contains-append_left started_right later_right y h)

  later_y : (y : Item) → Contains later_right y → Contains rest_right y
  later_y y h =
      subst (λ l. Contains l y) (sym right_is) (Contains-append_right started_right later_right y h)

  -- a right item of the rest is there before the next cut, or starts from it on
  all_y : (y : Item) → Contains (early_right ++ rest_right) y
      → Contains (early_right ++ started_right) y ⊎ Contains later_right y
  all_y y h = elim (Contains-append_cases early_right rest_right y h) [
    | inl k ↦ inl (Contains-append_left early_right started_right y k)
    | inr k ↦ elim (rest_y y k) [
      | inl s ↦ inl (Contains-append_right early_right started_right y s)
      | inr s ↦ inr s
    ]
  ]

  here_y : (y : Item) → Contains (early_right ++ started_right) y → Contains (early_right ++ rest_right) y
  here_y y h = elim (Contains-append_cases early_right started_right y h) [
    | inl k ↦ Contains-append_left early_right rest_right y k
    | inr k ↦ Contains-append_right early_right rest_right y (started_y y k)
  ]

  -- two items that overlap are together in one of the two tiles, or must still get into one
  was_cases : (x y : Item) → Was x y → Overlap x.period y.period
      → HasPair x y adds.one ⊎ (HasPair x y adds.other ⊎ Next x y)
  was_cases x y was o = elim was [
    | inl p ↦ elim (rest_x x p.0) [
      | inl h ↦ elim (all_y y p.1) [
        | inl k ↦ inl (in_one x y h k)
        | inr k ↦ inr (inr (inr (left_from x y (Contains-append_right early_left started_left x h) k o, k)))
      ]
      | inr h ↦ elim (all_y y p.1) [
        | inl k ↦ inr (inr (inl (h, Contains-append_left kept_right later_right y (right_from x y h k o))))
        | inr k ↦ inr (inr (inl (h, Contains-append_right kept_right later_right y k)))
      ]
    ]
    | inr p ↦ elim (rest_y y p.1) [
      | inl k ↦ inr (inl (in_other x y p.0 k))
      | inr k ↦ inr (inr (inr (left_from x y (Contains-append_left early_left started_left x p.0) k o, k)))
    ]
  ]

  -- items that must still get into one had to before
  was-next : (x y : Item) → Next x y → Was x y
  was-next x y next = elim next [
    | inl p ↦ inl (
      from_later x p.0,
      elim (Contains-append_cases kept_right later_right y p.1) [
        | inl k ↦ here_y y (right_there y k)
        | inr k ↦ Contains-append_right early_right rest_right y (later_y y k)
      ],
    )
    | inr p ↦ elim (Contains-append_cases early_left started_left x (left_there x p.0)) [
      | inl h ↦ inr (h, later_y y p.1)
      | inr h ↦ inl (from_started x h, Contains-append_right early_right rest_right y (later_y y p.1))
    ]
  ]

  was-one : (x y : Item) → HasPair x y adds.one → Was x y
  was-one x y p = let (h, k) = of_one x y p in inl (from_started x h, here_y y k)

  was-other : (x y : Item) → HasPair x y adds.other → Was x y
  was-other x y p = let (h, k) = of_other x y p in inr (h, started_y y k)

  -- no item is twice on a side
  early_apart : (x : Item) → Contains early_left x → Contains started_left x → ⊥
  early_apart x h k =
      ids-apart early_left started_left x x (distinct-earlier (early_left ++ started_left) later_left lefts.ids) h k refl

  left_apart : (x : Item) → Contains (early_left ++ started_left) x → Contains later_left x → ⊥
  left_apart x h k = ids-apart (early_left ++ started_left) later_left x x lefts.ids h k refl

  right_apart : (y : Item) → Contains (early_right ++ started_right) y → Contains later_right y → ⊥
  right_apart y h k = ids-apart (early_right ++ started_right) later_right y y rights.ids h k refl

  both_apart : HaveNone adds.one adds.other
  both_apart x y p q = early_apart x (of_other x y q).0 (of_one x y p).0

  one_apart : (x y : Item) → HasPair x y adds.one → Next x y → ⊥
  one_apart x y p next = let (h, k) = of_one x y p in elim next [
    | inl q ↦ left_apart x (Contains-append_right early_left started_left x h) q.0
    | inr q ↦ right_apart y k q.1
  ]

  other_apart : (x y : Item) → HasPair x y adds.other → Next x y → ⊥
  other_apart x y p next = let (h, k) = of_other x y p in elim next [
    | inl q ↦ left_apart x (Contains-append_left early_left started_left x h) q.0
    | inr q ↦ right_apart y (Contains-append_right early_right started_right y k) q.1
  ]

  -- The two tiles that are added.
  abbrev both : List Tile
  both = adds.one ∷ adds.other ∷ []

  of_both : (P : Tile → Type 0) → P adds.one → P adds.other → (tile : Tile) → Contains both tile → P tile
  of_both P one other tile h = elim (Contains-cons_cases adds.one (adds.other ∷ []) tile h) [
    | inl e ↦ subst P e one
    | inr k ↦ elim (Contains-cons_cases adds.other [] tile k) [
      | inl e ↦ subst P e other
      | inr none ↦ absurd (Contains-none tile none)
    ]
  ]

  all_both : (P : Tile → Type 0) → P adds.one → P adds.other → All P both
  all_both P one other = λ i d h. of_both P one other (get_or both i d) (Contains-get_or both i d h)

  both_once : AllPairs HaveNone both
  both_once =
      AllPairs-before HaveNone adds.one (adds.other ∷ [])
      (λ tile h. elim (Contains-cons_cases adds.other [] tile h) [
        | inl e ↦ subst (HaveNone adds.one) e both_apart
        | inr none ↦ absurd (Contains-none tile none)
      ])
      (AllPairs-before HaveNone adds.other [] (λ tile h. absurd (Contains-none tile h))
      (λ i j d less h. absurd (omega arith)))

  abbrev IsLeftTile : Tile → Type 0
  IsLeftTile tile = AreSome left tile.left.items

  abbrev IsRightTile : Tile → Type 0
  IsRightTile tile = AreSome right tile.right.items

  left_here : AreSome left (early_left ++ started_left)
  left_here = AreSome-front left (early_left ++ started_left) later_left lefts

  right_here : AreSome right (early_right ++ started_right)
  right_here = AreSome-front right (early_right ++ started_right) later_right rights

  tiled_more : (x y : Item) → Contains left x → Contains right y → Overlap x.period y.period
      → IsTiled (old ++ both) x y ⊎ Next x y
  tiled_more x y h k o = elim (is.whole x y h k o) [
    | inl t ↦ inl (t.0, Contains-append_left old both t.0 t.1, t.2)
    | inr was ↦ elim (was_cases x y was o) [
      | inl p ↦ inl (
        adds.one,
        Contains-append_right old both adds.one (Contains-head adds.one (adds.other ∷ [])),
        p,
      )
      | inr more ↦ elim more [
        | inl p ↦ inl (
          adds.other,
          Contains-append_right old both adds.other
              (Contains-cons adds.one (adds.other ∷ []) adds.other (Contains-head adds.other [])),
          p,
        )
        | inr next ↦ inr next
      ]
    ]
  ]

  tiling_both : IsTiling left right kept_left later_left kept_right later_right (old ++ both)
  tiling_both = record {
    lefts = All-append IsLeftTile old both is.lefts
        (all_both IsLeftTile
        (subst (AreSome left) (sym adds.one_left) (AreSome-back left early_left started_left left_here))
        (subst (AreSome left) (sym adds.other_left) (AreSome-front left early_left started_left left_here)));
    rights = All-append IsRightTile old both is.rights
        (all_both IsRightTile (subst (AreSome right) (sym adds.one_right) right_here)
        (subst (AreSome right) (sym adds.other_right) (AreSome-back right early_right started_right right_here)));
    whole = tiled_more;
    once = AllPairs-append HaveNone old both is.once both_once
        (λ a b h k.
        of_both (HaveNone a) (λ x y p q. is.others a x y h p (was-one x y q))
        (λ x y p q. is.others a x y h p (was-other x y q)) b k);
    others = λ tile x y h p next. elim (Contains-append_cases old both tile h) [
      | inl k ↦ is.others tile x y k p (was-next x y next)
      | inr k ↦ of_both (λ t. HasPair x y t → ⊥) (λ q. one_apart x y q next) (λ q. other_apart x y q next) tile k p
    ];
  }

  -- two more tiles
  pub tiling_more : IsTiling left right kept_left later_left kept_right later_right new
  tiling_more =
      subst (IsTiling left right kept_left later_left kept_right later_right) (sym adds.split) tiling_both

-- ---- from cut to cut

-- an item that overlaps one that starts from the cut on holds from the cut on
later_end : (cut : ℤ) (x y : Item) → cut ≤ℤ y.period.from → Overlap x.period y.period → cut <ℤ x.period.to
later_end cut x y from o = let ends = Overlap-ends x.period y.period o in let late = ends.1 in omega (arith, ints)

-- and vice versa
later_end-back : (cut : ℤ) (x y : Item) → cut ≤ℤ x.period.from → Overlap x.period y.period → cut <ℤ y.period.to
later_end-back cut x y from o = let ends = Overlap-ends x.period y.period o in let late = ends.0 in omega (arith, ints)

-- the tiles of one more cut
pub tiling_cut : (left right early_left rest_left early_right rest_right started_left later_left started_right later_right
    kept_left kept_right : List Item) (cut : ℤ) (one : IsSide left early_left rest_left)
    (other : IsSide right early_right rest_right) (lefts : AreCutAt cut rest_left started_left later_left)
    (rights : AreCutAt cut rest_right started_right later_right)
    → kept_left ≡ filter (holds_from cut) (early_left ++ started_left)
    → kept_right ≡ filter (holds_from cut) (early_right ++ started_right) → (old new : List Tile)
    → AddsTiles early_left started_left early_right started_right old new
    → IsTiling left right early_left rest_left early_right rest_right old
    → IsTiling left right kept_left later_left kept_right later_right new
tiling_cut left right early_left rest_left early_right rest_right started_left later_left started_right later_right
    kept_left kept_right cut one other lefts rights left_is right_is old new adds is =
    tiling_more left right early_left rest_left early_right rest_right started_left later_left started_right later_right
    kept_left kept_right
    (side_some left early_left rest_left started_left later_left kept_left cut one lefts left_is)
    (side_some right early_right rest_right started_right later_right kept_right cut other rights right_is)
    lefts.whole rights.whole
    (kept-there left early_left rest_left started_left later_left kept_left cut one lefts left_is)
    (kept-there right early_right rest_right started_right later_right kept_right cut other rights right_is)
    (λ x y h k o.
    kept-from left early_left rest_left started_left later_left kept_left cut one lefts left_is x h
    (later_end cut x y (All-contains (λ (z : Item). cut ≤ℤ z.period.from) later_right y rights.from k) o))
    (λ x y h k o.
    kept-from right early_right rest_right started_right later_right kept_right cut other rights right_is y k
    (later_end-back cut x y (All-contains (λ (z : Item). cut ≤ℤ z.period.from) later_left x lefts.from h) o))
    old new adds is

-- the last tiles: no item starts later
pub tiling_last : (left right early_left rest_left early_right rest_right : List Item)
    → IsSide left early_left rest_left → IsSide right early_right rest_right → (old new : List Tile)
    → AddsTiles early_left rest_left early_right rest_right old new
    → IsTiling left right early_left rest_left early_right rest_right old → AreTiles left right new
tiling_last left right early_left rest_left early_right rest_right one other old new adds is =
    tiling_end left right [] [] new
    (tiling_more left right early_left rest_left early_right rest_right rest_left [] rest_right [] [] []
    (subst (AreSome left) (sym (append-nil (early_left ++ rest_left))) one.some)
    (subst (AreSome right) (sym (append-nil (early_right ++ rest_right))) other.some) (sym (append-nil rest_left))
    (sym (append-nil rest_right)) (λ x h. absurd (Contains-none x h)) (λ y h. absurd (Contains-none y h))
    (λ x y h k o. absurd (Contains-none y k)) (λ x y h k o. absurd (Contains-none x h)) old new adds is)

-- ---- the whole

-- the tiles of permuted items are tiles of the items
pub AreTiles-permutation : (left right lefts rights : List Item) (tiles : List Tile) → IsPermutation left lefts
    → IsPermutation right rights → AreTiles lefts rights tiles → AreTiles left right tiles
AreTiles-permutation left right lefts rights tiles one other are = record {
  lefts = λ i d h. from_among left lefts one (tile_at i d).left.items (are.lefts i d h);
  rights = λ i d h. from_among right rights other (tile_at i d).right.items (are.rights i d h);
  whole = λ x y h k o.
      are.whole x y (Contains-permutation left lefts x one h) (Contains-permutation right rights y other k) o;
  once = are.once;
}
  where
    tile_at : ℕ → Tile → Tile
    tile_at i d = get_or tiles i d

    from_among : (items sorted : List Item) → IsPermutation items sorted → (some : List Item) → AreSome sorted some
        → AreSome items some
    from_among items sorted moved some are = record {
      among = λ x h. Contains-permutation sorted items x (IsPermutation-sym items sorted moved) (are.among x h);
      ids = are.ids;
      few = are.few;
    }

-- and their items can be divided at once
pub AreTiles-divisible : (left right : List Item) (tiles : List Tile) → AreTiles left right tiles
    → All IsDivisible tiles
AreTiles-divisible left right tiles are = λ i d h. record {
  left_ids = (are.lefts i d h).ids;
  right_ids = (are.rights i d h).ids;
  left_few = (are.lefts i d h).few;
  right_few = (are.rights i d h).few;
}

-- the tiles that were found are complete
pub are_found : (left right : List Item) (most : ℕ) (tiles : Vec Tile) (found : Option (Vec Tile)) → found ≡ Some tiles
    → IfSome found (λ some. AreTiles left right some.items × (reads_in some.items ≤ most))
    → AreTiles left right tiles.items × (reads_in tiles.items ≤ most)
are_found left right most tiles found is are =
    subst (λ (o : Option (Vec Tile)). IfSome o (λ some. AreTiles left right some.items × (reads_in some.items ≤ most)))
    is are
