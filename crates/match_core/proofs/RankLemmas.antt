-- The ranks of sorted keys: equal keys share a rank, different keys have different ranks.
use Rattle.std.proofs.Common.{◌≡◌, ◌≢◌, ℕ, zero, suc, ◌+◌, ◌-◌, ◌<◌, Bool, true, false, List, [], ◌∷◌, ◌++◌, length, length-append, append-nil, map, take, set, get_or, Some, refl, sym, subst, ap, ◌∙◌, inl, inr, arith, get_or-set_same, get_or-set_other}
use Rattle.std.specs.Cmp.{IsTotalOrder}
use Rattle.std.specs.declared.cmp.Ordering.{Ordering}
use Rattle.std.specs.Prelude.{All, IsPermutation, IsSorted, MatchBool, Option, slice_get}
use Rattle.std.proofs.lemmas.Bool.{cases_eq}
use Rattle.std.proofs.lemmas.List.{ext_get_or, get_or_append_left, get_or-append_right, get_or-map, get_or_push, get_or_read, length-map, length_push}
use Rattle.std.proofs.lemmas.List.Elements.{All-contains}
use Rattle.std.proofs.lemmas.List.Quantifiers.{all_pairs_push}
use Rattle.std.proofs.lemmas.List.Sorted.{IsPermutation-map}
use Rattle.std.proofs.lemmas.Option.{get_or_from_slice_get, slice_get-get_or}
use Rattle.std.specs.Global.{Vec}
use Rattle.list_core.specs.Chunks.{all_in}
use Rattle.list_core.proofs.PlaceLemmas.{slice_get-append_left, slice_get-append_right}
use Rattle.row_core.specs.declared.value.Value.{Value}
use Rattle.match_core.specs.declared.cells.Cell.{Cell}
use Rattle.match_core.specs.declared.row_items.ClassedPlace.{ClassedPlace}
use Rattle.match_core.specs.ClassedPlaces.{classed_by, placed_from}
use Rattle.match_core.specs.Cells.{AgreeOnPlaces, AreRanked, AreRankedUpto, AreRanksOf, AreRising, AreSorted, HasLast, HasRank, IsCellAt, IsEntered, IsFromLast, IsRankAt, IsRankedPlace, cell_cmp, count_before, is_before, same_cell, spot_of}
use Rattle.match_core.proofs.PlacedLemmas.{placed_from-classed}
use Rattle.match_core.proofs.RefinedClasses.{one_place}
use Rattle.match_core.proofs.CellOrder.{SameCell, SameCell-sym, SameCell-trans, SameCell-itself, after-from, before-same, before-trans, same_cell-decides, known_apart}

-- An index with a class.
abbrev placed_at : ℕ → ℕ → ClassedPlace
placed_at class place = record { class = class; place = place }

-- The index of a key's row with its rank.
abbrev pub place_of : {V : Type 0} → Cell V → ℕ → ClassedPlace
place_of cell rank = record { class = rank; place = cell.place }

-- ---- lists read one after another

-- before the first list there is no key
pub count_before-none : {V : Type 0} (lists : List (Vec (Cell V))) → count_before 0 lists ≡ 0
count_before-none [] = refl
count_before-none (l ∷ ls) = refl

-- one more list
pub count_before-more : {V : Type 0} (lists : List (Vec (Cell V))) (number : ℕ) (list : Vec (Cell V))
    → number < length lists → list ≡ get_or lists number list
    → count_before (suc number) lists ≡ count_before number lists + length list.items
count_before-more {V} [] number list lt is = absurd (omega (arith, lt))
count_before-more {V} (l ∷ ls) zero list lt is =
    let nil : length (l.items ++ []) ≡ length l.items = ap length (append-nil l.items) in
    let same : length list.items ≡ length l.items = ap (λ (v : Vec (Cell V)). length v.items) is in
    let none : count_before zero (l ∷ ls) ≡ 0 = refl in
    nil ∙ sym same ∙ omega (arith, none)
count_before-more {V} (l ∷ ls) (suc number) list lt is =
    let longer : count_before (suc (suc number)) (l ∷ ls) ≡ length l.items + count_before (suc number) ls =
    length-append l.items (all_in (take (suc number) ls)) in
    let long : count_before (suc number) (l ∷ ls) ≡ length l.items + count_before number ls =
    length-append l.items (all_in (take number ls)) in
    let more = count_before-more ls number list (omega (arith, lt)) is in
    omega (arith, longer, long, more)

-- the position of a list's key among all keys
pub slice_get-all_in : {V : Type 0} (lists : List (Vec (Cell V))) (number i : ℕ) (list : Vec (Cell V)) (cell : Cell V)
    → number < length lists → list ≡ get_or lists number list → slice_get list.items i ≡ Some cell
    → slice_get (all_in lists) (count_before number lists + i) ≡ Some cell
slice_get-all_in {V} [] number i list cell lt is at = absurd (omega (arith, lt))
slice_get-all_in {V} (l ∷ ls) zero i list cell lt is at =
    let none : count_before zero (l ∷ ls) + i ≡ i = omega arith in
    ap (slice_get (all_in (l ∷ ls))) none
    ∙ slice_get-append_left l.items (all_in ls) i cell (ap (λ (v : Vec (Cell V)). slice_get v.items i) (sym is) ∙ at)
slice_get-all_in {V} (l ∷ ls) (suc number) i list cell lt is at =
    let count : count_before (suc number) (l ∷ ls) ≡ length l.items + count_before number ls =
    length-append l.items (all_in (take number ls)) in
    let place : count_before (suc number) (l ∷ ls) + i ≡ length l.items + (count_before number ls + i) =
    omega (arith, count) in
    ap (slice_get (all_in (l ∷ ls))) place
    ∙ slice_get-append_right l.items (all_in ls) (count_before number ls + i)
    ∙ slice_get-all_in ls number i list cell (omega (arith, lt)) is at

-- a fact about all keys is a fact about the keys of each list
pub all_of_list : {V : Type 0} (P : Cell V → Type 0) (lists : List (Vec (Cell V))) (number : ℕ) (list : Vec (Cell V))
    → All P (all_in lists) → number < length lists → list ≡ get_or lists number list → All P list.items
all_of_list P [] number list all lt is = absurd (omega (arith, lt))
all_of_list {V} P (l ∷ ls) zero list all lt is =
    let count = length-append l.items (all_in ls) in
    subst (λ (v : Vec (Cell V)). All P v.items) (sym is)
    (λ k d h. subst P (get_or_append_left l.items (all_in ls) d k h) (all k d (omega (arith, h, count))))
all_of_list {V} P (l ∷ ls) (suc number) list all lt is =
    let count = length-append l.items (all_in ls) in
    all_of_list P ls number list
    (λ k d h.
    let same : length l.items + k - length l.items ≡ k = omega arith in
    subst P
    (get_or-append_right l.items (all_in ls) (length l.items) (length l.items + k) d refl (omega arith)
    ∙ ap (λ n. get_or (all_in ls) n d) same)
    (all (length l.items + k) d (omega (arith, h, count))))
    (omega (arith, lt)) is

-- the row indices of sorted keys with the rows' ranks are the indices of all rows
pub places_ranked : {V : Type 0} (cmp : V → V → Ordering) (IsOf : Value → V → Type 0) (classes : List ℕ)
    (column : List (Option Value)) (cells : List (Cell V)) (lent ranks : List ℕ) (places : List ClassedPlace)
    → AreSorted cmp IsOf classes column cells → lent ≡ ranks → length ranks ≡ length classes
    → places ≡ map (classed_by lent) (map spot_of cells) → IsPermutation (placed_from 0 ranks) places
places_ranked cmp IsOf classes column cells lent ranks places sorted same count are =
    subst (λ l. IsPermutation l places) (placed_from-classed classes ranks count)
    (subst (IsPermutation (map (classed_by ranks) (placed_from 0 classes)))
    (sym (are ∙ ap (λ l. map (classed_by l) (map spot_of cells)) same))
    (IsPermutation-map (classed_by ranks) (placed_from 0 classes) (map spot_of cells) sorted.spots))

-- ---- a side's ranks

-- the ranks of a side's rows
pub ranked_from : {V : Type 0} (cmp : V → V → Ordering) (IsOf : Value → V → Type 0) (classes : List ℕ)
    (column : List (Option Value)) (cells firsts : List (Cell V)) (ranks : List ℕ) → length ranks ≡ length column
    → AreSorted cmp IsOf classes column cells → AreRanksOf cmp cells ranks firsts → AreRising cmp firsts
    → AreRanked cmp IsOf classes column ranks firsts
ranked_from {V} cmp IsOf classes column cells firsts ranks count sorted known rise = record {
  count = count;
  each = each;
  rise = rise;
}
  where
    each : (i : ℕ) → i < length column → IsRankAt cmp IsOf classes column ranks firsts i
    each i h =
        let (cell, has, place) = sorted.each i h in
        let own : IsCellAt IsOf classes column cell.place cell =
        All-contains (λ (x : Cell V). IsCellAt IsOf classes column x.place x) cells cell sorted.own has in
        let rank : HasRank cmp ranks firsts cell = All-contains (HasRank cmp ranks firsts) cells cell known has in
        record {
          cell = cell;
          at = subst (λ n. IsCellAt IsOf classes column n cell) place own;
          within = subst (λ n. get_or ranks n 0 < length firsts) place rank.within;
          same = λ d. ap (λ n. same_cell cmp (get_or firsts (get_or ranks n 0) d) cell) (sym place) ∙ rank.same d;
        }

-- ---- the last key

-- the test of the last key decides whether it is equal
pub last_known : {V : Type 0} (cmp : V → V → Ordering) (others : List (Cell V)) (last cell : Cell V) (test : Bool)
    → slice_get others (length others - 1) ≡ Some last → test ≡ same_cell cmp last cell
    → MatchBool test (HasLast cmp others cell) (HasLast cmp others cell → ⊥)
last_known cmp others last cell true at known = (last, (at, sym known))
last_known {V} cmp others last cell false at known =
    λ h. (
    let e : ◌≡◌ {A = Option (Cell V)} (Some last) (Some h.0) = sym at ∙ h.1.0 in
    let same : last ≡ h.0 = cc in
    let bad : true ≡ false = sym h.1.1 ∙ ap (λ x. same_cell cmp x cell) (sym same) ∙ sym known in
    cc)

module _ {V : Type 0} (cmp : V → V → Ordering) (total : IsTotalOrder cmp) where
  -- ---- a key is added to the different keys

  -- the last key is equal already
  pub entered_same : (old : List (Cell V)) (cell : Cell V) (rank : ℕ) → AreRising cmp old → HasLast cmp old cell
      → rank + 1 ≡ length old → IsEntered cmp old cell old rank
  entered_same old cell rank rise (last, (at, same)) count =
      let place : rank ≡ length old - 1 = omega (arith, count) in
      record {
        kept = λ k d lt. refl;
        more = omega arith;
        last = count;
        same = λ d.
            ap (λ k. same_cell cmp (get_or old k d) cell) place
            ∙ ap (λ x. same_cell cmp x cell) (get_or_from_slice_get old (length old - 1) last d at) ∙ same;
        rise = rise;
      }

  -- the key is appended after the keys that come before it
  pub entered_other : (old new : List (Cell V)) (cell : Cell V) (rank : ℕ) → AreRising cmp old → IsFromLast cmp old cell
      → (HasLast cmp old cell → ⊥) → new ≡ old ++ cell ∷ [] → rank + 1 ≡ length new → IsEntered cmp old cell new rank
  entered_other old new cell rank rise upto other put count =
      let one : length new ≡ length old + 1 = ap length put ∙ length_push old cell in
      let place : rank ≡ length old = omega (arith, one, count) in
      let none : rank - length old ≡ 0 = omega (arith, place) in
      record {
        kept = λ k d lt. ap (λ l. get_or l k d) put ∙ get_or_append_left old (cell ∷ []) d k lt;
        more = omega (arith, one);
        last = count;
        same = λ d.
            ap (λ l. same_cell cmp (get_or l rank d) cell) put
            ∙ ap (λ x. same_cell cmp x cell)
            (get_or-append_right old (cell ∷ []) (length old) rank d refl (omega (arith, place))
            ∙ ap (λ m. get_or (cell ∷ []) m d) none)
            ∙ (same_cell-decides cmp cell cell).1 (SameCell-itself cmp total cell);
        rise = subst (AreRising cmp) (sym put)
            (all_pairs_push (λ (a b : Cell V). is_before cmp a b ≡ true) old cell rise (λ k d lt. before k d lt));
      }
    where
      -- the last key comes before it
      last_before : (k : ℕ) (d : Cell V) → k + 1 ≡ length old → is_before cmp (get_or old k d) cell ≡ true
      last_before k d e =
          let last = get_or old k d in
          let place : k ≡ length old - 1 = omega (arith, e) in
          after-from cmp total cell last (upto k d e)
          (known_apart cmp cell last (λ s. other (
            last,
            (
              ap (λ m. slice_get old m) (sym place) ∙ slice_get-get_or old k d (omega (arith, e)),
              (same_cell-decides cmp last cell).1 (SameCell-sym cmp total cell last s),
            ),
          )))

      -- and so do all earlier ones
      before : (k : ℕ) (d : Cell V) → k < length old → is_before cmp (get_or old k d) cell ≡ true
      before k d lt =
          let end : length old - 1 + 1 ≡ length old = omega (arith, lt) in
          elim (cases_eq k (length old - 1)) [
            | inl e ↦ last_before k d (omega (arith, e, end))
            | inr ne ↦
                before-trans cmp total (get_or old k d) (get_or old (length old - 1) d) cell
                (rise k (length old - 1) d (omega (arith, lt, ne)) (omega (arith, lt)))
                (last_before (length old - 1) d end)
          ]

  -- ---- the loop

  -- before the first key
  pub ranked_none : (cells : List (Cell V)) (i : ℕ) (firsts : List (Cell V)) (ranks : List ℕ)
      (places : List ClassedPlace) → i ≡ 0 → firsts ≡ [] → places ≡ [] → AreRankedUpto cmp cells i firsts ranks places
  ranked_none cells i firsts ranks places start none blank = record {
    rise = subst (λ (l : List (Cell V)). AreRising cmp l) (sym none) (λ k j d less h. absurd (omega (arith, h)));
    none = λ e. ap length none;
    last = λ k j d e f. absurd (omega (arith, f, start));
    ranked = λ k d lt. absurd (omega (arith, lt, start));
    count = ap length blank ∙ sym start;
    placed = λ k d e lt. absurd (omega (arith, lt, start));
  }

  -- the next key doesn't come before the last of the different keys
  pub next_from_last : (cells : List (Cell V)) (i : ℕ) (firsts : List (Cell V)) (ranks : List ℕ)
      (places : List ClassedPlace) (cell : Cell V) → IsSorted (cell_cmp cmp) cells → i < length cells
      → cell ≡ get_or cells i cell → AreRankedUpto cmp cells i firsts ranks places → IsFromLast cmp firsts cell
  next_from_last cells i firsts ranks places cell sorted inside here was k d e = elim (cases_eq i 0) [
    | inl first ↦ absurd (let no = was.none first in omega (arith, no, e))
    | inr some ↦ (
        let j = i - 1 in
        let next : j + 1 ≡ i = omega (arith, some) in
        before-same cmp total cell (get_or firsts k d) (get_or cells j d)
        ((same_cell-decides cmp (get_or firsts k d) (get_or cells j d)).0 (was.last k j d e next))
        ∙ ap (λ x. is_before cmp x (get_or cells j d))
        (get_or_read cells i cell inside here d ∙ ap (λ m. get_or cells m d) (sym next))
        ∙ sorted j d (omega (arith, next, inside)) (omega (arith, next, inside)))
  ]

  -- one more row has its rank
  pub ranked_more : (cells : List (Cell V)) (i : ℕ) (firsts new : List (Cell V)) (rank : ℕ) (cell : Cell V)
      (ranks : List ℕ) (places put : List ClassedPlace) → i < length cells → cell ≡ get_or cells i cell
      → cell.place < length ranks → AgreeOnPlaces cmp cells → AreRankedUpto cmp cells i firsts ranks places
      → IsEntered cmp firsts cell new rank → put ≡ places ++ place_of cell rank ∷ []
      → AreRankedUpto cmp cells (i + 1) new (set ranks cell.place rank) put
  ranked_more cells i firsts new rank cell ranks places put inside here room agree was entered added = record {
    rise = entered.rise;
    none = λ e. absurd (omega (arith, e));
    last = last_now;
    ranked = ranked_now;
    count = (let had = was.count in
        let one = ap length added ∙ length_push places (place_of cell rank) in omega (arith, had, one));
    placed = placed_now;
  }
    where
      -- the added index has the rank of its key
      last_placed : IsRankedPlace cmp new cell (place_of cell rank)
      last_placed = let own = entered.last in
          record { place_is = refl; within = omega (arith, own); same = entered.same }

      placed_now : (k : ℕ) (d : Cell V) (e : ClassedPlace) → k < i + 1
          → IsRankedPlace cmp new (get_or cells k d) (get_or put k e)
      placed_now k d e lt =
          let count = was.count in
          elim (cases_eq k i) [
            | inl same ↦
                subst (λ (a : ClassedPlace). IsRankedPlace cmp new (get_or cells k d) a)
                (sym (ap (λ (l : List ClassedPlace). get_or l k e) added
                ∙ get_or_push places (place_of cell rank) e k (omega (arith, count, same))))
                (subst (λ (c : Cell V). IsRankedPlace cmp new c (place_of cell rank))
                (get_or_read cells i cell inside here d ∙ ap (λ m. get_or cells m d) (sym same)) last_placed)
            | inr ne ↦ (
                let less : k < i = omega (arith, lt, ne) in
                let had : IsRankedPlace cmp firsts (get_or cells k d) (get_or places k e) = was.placed k d e less in
                let within = had.within in
                let more = entered.more in
                subst (λ (a : ClassedPlace). IsRankedPlace cmp new (get_or cells k d) a)
                (sym (ap (λ (l : List ClassedPlace). get_or l k e) added
                ∙ get_or_append_left places (place_of cell rank ∷ []) e k (omega (arith, count, less))))
                (record {
                  place_is = had.place_is;
                  within = omega (arith, within, more);
                  same = λ x.
                      ap (λ y. same_cell cmp y (get_or cells k d)) (entered.kept (get_or places k e).class x within)
                      ∙ had.same x;
                }))
          ]

      last_now : (k j : ℕ) (d : Cell V) → k + 1 ≡ length new → j + 1 ≡ i + 1
          → same_cell cmp (get_or new k d) (get_or cells j d) ≡ true
      last_now k j d e f =
          let own = entered.last in
          let k_is : rank ≡ k = omega (arith, own, e) in
          let j_is : i ≡ j = omega (arith, f) in
          subst (λ m. same_cell cmp (get_or new m d) (get_or cells j d) ≡ true) k_is
          (subst (λ m. same_cell cmp (get_or new rank d) (get_or cells m d) ≡ true) j_is
          (subst (λ c. same_cell cmp (get_or new rank d) c ≡ true) (get_or_read cells i cell inside here d)
          (entered.same d)))

      -- a key of the same row has this rank
      placed : (y : Cell V) → y.place ≡ cell.place → SameCell cmp cell y → HasRank cmp (set ranks cell.place rank) new y
      placed y e alike =
          let own = entered.last in
          let at : get_or (set ranks cell.place rank) y.place 0 ≡ rank =
          ap (λ n. get_or (set ranks cell.place rank) n 0) e ∙ get_or-set_same ranks cell.place rank 0 room in
          record {
            within = omega (arith, at, own);
            same = λ d.
                ap (λ r. same_cell cmp (get_or new r d) y) at
                ∙ (same_cell-decides cmp (get_or new rank d) y).1
                (SameCell-trans cmp total (get_or new rank d) cell y
                ((same_cell-decides cmp (get_or new rank d) cell).0 (entered.same d)) alike);
          }

      ranked_now : (k : ℕ) (d : Cell V) → k < i + 1 → HasRank cmp (set ranks cell.place rank) new (get_or cells k d)
      ranked_now k d lt =
          let y = get_or cells k d in
          let there : cell ≡ get_or cells i d = get_or_read cells i cell inside here d in
          elim (cases_eq y.place cell.place) [
            | inl e ↦
                placed y e
                (SameCell-sym cmp total y cell
                ((same_cell-decides cmp y cell).0
                (ap (λ z. same_cell cmp y z) there
                ∙ agree k i d (omega (arith, lt, inside)) inside (e ∙ ap (λ (z : Cell V). z.place) there))))
            | inr ne ↦ (
                let other : k ≢ i =
                λ f. ne (ap (λ n. (get_or cells n d).place) f ∙ ap (λ (z : Cell V). z.place) (sym there)) in
                let had : HasRank cmp ranks firsts y = was.ranked k d (omega (arith, lt, other)) in
                let more = entered.more in
                let within = had.within in
                let kept : get_or (set ranks cell.place rank) y.place 0 ≡ get_or ranks y.place 0 =
                get_or-set_other ranks cell.place y.place rank 0 ne in
                record {
                  within = omega (arith, kept, within, more);
                  same = λ e.
                      ap (λ r. same_cell cmp (get_or new r e) y) kept
                      ∙ ap (λ x. same_cell cmp x y) (entered.kept (get_or ranks y.place 0) e within) ∙ had.same e;
                })
          ]

  -- after the last key, the indices with their ranks are those of all keys
  pub places_known : (cells : List (Cell V)) (i : ℕ) (firsts : List (Cell V)) (ranks : List ℕ)
      (places : List ClassedPlace) → i ≡ length cells → AreRankedUpto cmp cells i firsts ranks places
      → places ≡ map (classed_by ranks) (map spot_of cells)
  places_known [] i firsts ranks [] all are = refl
  places_known [] i firsts ranks (p ∷ ps) all are = absurd (let count = are.count in omega (arith, count, all))
  places_known (c ∷ cs) i firsts ranks places all are =
      ext_get_or (place_of c 0) places (map (classed_by ranks) (map spot_of (c ∷ cs)))
      (are.count ∙ all ∙ sym (length-map (c ∷ cs) spot_of)
      ∙ sym (length-map (map spot_of (c ∷ cs)) (classed_by ranks)))
      (λ k h. each k (let count = are.count in omega (arith, h, count)))
    where
      each : (k : ℕ) → k < i
          → get_or places k (place_of c 0) ≡ get_or (map (classed_by ranks) (map spot_of (c ∷ cs))) k (place_of c 0)
      each k lt =
          let cell = get_or (c ∷ cs) k c in
          let at = get_or places k (place_of c 0) in
          let rank = get_or ranks cell.place 0 in
          let known : IsRankedPlace cmp firsts cell at = are.placed k c (place_of c 0) lt in
          let ranked : HasRank cmp ranks firsts cell = are.ranked k c lt in
          let same : at.class ≡ rank =
          one_place cmp total firsts are.rise at.class rank c known.within ranked.within
          (SameCell-trans cmp total (get_or firsts at.class c) cell (get_or firsts rank c)
          ((same_cell-decides cmp (get_or firsts at.class c) cell).0 (known.same c))
          (SameCell-sym cmp total (get_or firsts rank c) cell
          ((same_cell-decides cmp (get_or firsts rank c) cell).0 (ranked.same c)))) in
          let inside : k < length (c ∷ cs) = omega (arith, lt, all) in
          let long : k < length (map spot_of (c ∷ cs)) =
          (let len = length-map (c ∷ cs) spot_of in omega (arith, inside, len)) in
          let moved : at ≡ placed_at at.class cell.place = ap (λ n. placed_at at.class n) known.place_is in
          moved ∙ ap (λ n. placed_at n cell.place) same
          ∙ sym (get_or-map (classed_by ranks) (map spot_of (c ∷ cs)) k (spot_of c) (place_of c 0) long
          ∙ ap (classed_by ranks) (get_or-map spot_of (c ∷ cs) k c (spot_of c) inside))
