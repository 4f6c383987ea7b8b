-- The results for some items and for others, together.
use Rattle.std.proofs.Common.{◌≡◌, ℕ, ◌+◌, ◌*◌, ◌<◌, ◌≤◌, ℤ, cond, List, [], ◌∷◌, ◌++◌, Option, Some, None, true, append-nil, length, refl, sym, subst, ap, ◌∙◌, inl, inr, arith, append_assoc, length-append}
use Rattle.std.specs.Prelude.{IsPermutation}
use Rattle.std.proofs.lemmas.List.Elements.{All-append, All-contains, All-nil, Contains-append_cases, Contains-append_left, Contains-append_right}
use Rattle.std.proofs.lemmas.List.Sorted.{IsPermutation-append, IsPermutation-refl, length_permutation}
use Rattle.std.proofs.lemmas.List.Sums.{sum_by-append}
use Rattle.std.proofs.Math.Nat.{mul_comm}
use Rattle.std.proofs.lemmas.Nat.{mul-le}
use Rattle.period_core.specs.Period.{holds_at}
use Rattle.dip_core.specs.declared.item.Item.{Item}
use Rattle.dip_core.specs.Item.{crowd, item_limit, HasDistinctIds, IsApart}
use Rattle.dip_core.specs.Division.{all_of, IsLeastDivision}
use Rattle.dip_core.proofs.AddedLemmas.{length-le-all_of}
use Rattle.dip_core.proofs.CrowdLemmas.{crowd-le-length}
use Rattle.dip_core.proofs.DipExistence.{some_instant}
use Rattle.dip_core.proofs.PartedLemmas.{all_of-append, distinct-earlier, distinct-later}
use Rattle.list_core.proofs.RisingLemmas.{Contains-none}
use Rattle.std.specs.Ordering.{nat_cmp}
use Rattle.work_core.specs.Ranges.{has_begun, range}
use Rattle.work_core.specs.Shares.{GivesFrom}
use Rattle.work_core.specs.declared.range.Range.{Range}
use Rattle.work_core.specs.declared.shares.Cut.{Cut}
use Rattle.work_core.proofs.ShareLemmas.{all_come}
use Rattle.grid_core.specs.Bundles.{ArePartedAt, ClassesRise, items_in}
use Rattle.grid_core.proofs.RangeItems.{filter_all, in-distinct, in-parted}
use Rattle.grid_core.proofs.BundleLemmas.{high-rise}
use Rattle.join_core.specs.declared.advances.Advances.{Advances}
use Rattle.join_core.specs.declared.found.FoundRows.{FoundRows}
use Rattle.join_core.specs.declared.rows.JoinRow.{JoinRow}
use Rattle.join_core.specs.Found.{AddsItemsRows, AreFound, AreMade, FitAll, FitTogether, HasParts, HoldAtMost, IsFound, MatchNothing, all_made, all_rows, both_made}
use Rattle.join_core.specs.ItemJoin.{AreItemsRows}
use Rattle.join_core.specs.PairValues.{AddsFirstPairs}
use Rattle.join_core.proofs.ItemLemmas.{AreItemsRows-append, AreItemsRows-none}
use Rattle.join_core.proofs.JoinedLemmas.{AreItemsRows-of_pairs}
use Rattle.join_core.proofs.LeastLemmas.{crowded}
use Rattle.join_core.proofs.TurnLemmas.{all_turns-within, mul-add}

-- ---- parts

-- divisions of two lists together divide both lists together
HasParts-append : (xs ys : List Item) (n m : ℕ) → HasParts xs n → HasParts ys m → HasParts (xs ++ ys) (n + m)
HasParts-append xs ys n m one other = record {
  division = one.division ++ other.division;
  divides = record {
    together = subst (IsPermutation (xs ++ ys)) (sym (all_of-append one.division other.division))
        (IsPermutation-append xs (all_of one.division) ys (all_of other.division) one.divides.together
        other.divides.together);
    filled = All-append (λ (p : List Item). 0 < length p) one.division other.division one.divides.filled
        other.divides.filled;
    apart = All-append IsApart one.division other.division one.divides.apart other.divides.apart;
  };
  len = (let both = length-append one.division other.division in
      let a = one.len in
      let b = other.len in
      omega (arith, both, a, b));
}

-- an empty list has no parts
HasParts-none : HasParts [] 0
HasParts-none = record {
  division = [];
  divides = record {
    together = IsPermutation-refl [];
    filled = All-nil (λ (p : List Item). 0 < length p);
    apart = All-nil IsApart;
  };
  len = refl;
}

-- the number of parts is at most the number of items
parts-few : (items : List Item) (n : ℕ) → HasParts items n → n ≤ length items
parts-few items n has =
    let all = length-le-all_of has.division has.divides.filled in
    let same = length_permutation items (all_of has.division) has.divides.together in
    let number = has.len in
    omega (arith, all, same, number)

division-few : (items : List Item) (parts : List (List Item)) → IsLeastDivision items parts
    → length parts ≤ length items
division-few items parts divided =
    parts-few items (length parts) (record { division = parts; divides = divided.division; len = refl })

-- no more items hold at once than there are parts
parts-hold : (items : List Item) (n : ℕ) → HasParts items n → HoldAtMost n items
parts-hold items n has = λ t.
    (let most = crowd-le-length items has.division has.divides t in
    let number = has.len in
    omega (arith, most, number))

-- ---- items that hold at once

crowd-append : (xs ys : List Item) (t : ℤ) → crowd (xs ++ ys) t ≡ crowd xs t + crowd ys t
crowd-append xs ys t = sum_by-append (λ (x : Item). cond (holds_at t x.period) 1 0) xs ys

HoldAtMost-front : (k : ℕ) (xs ys : List Item) → HoldAtMost k (xs ++ ys) → HoldAtMost k xs
HoldAtMost-front k xs ys most = λ t.
    (let split = crowd-append xs ys t in let all = most t in omega (arith, split, all))

HoldAtMost-back : (k : ℕ) (xs ys : List Item) → HoldAtMost k (xs ++ ys) → HoldAtMost k ys
HoldAtMost-back k xs ys most = λ t.
    (let split = crowd-append xs ys t in let all = most t in omega (arith, split, all))

HoldAtMost-more : (k n : ℕ) (items : List Item) → k ≤ n → HoldAtMost k items → HoldAtMost n items
HoldAtMost-more k n items less most = λ t. (let all = most t in omega (arith, less, all))

-- a least division has no more parts than items hold at once
least-upto : (items : List Item) (parts : List (List Item)) (k : ℕ) → IsLeastDivision items parts
    → HoldAtMost k items → length parts ≤ k
least-upto items parts k divided most =
    let (instant, is) = some_instant items parts divided in
    let (t, held) = crowded items parts instant divided.division is in
    let all = most t in
    omega (arith, held, all)

-- ---- advances

-- the bounds of two lists together
bound-more : (k m a b c d u v turns more : ℕ) → u ≡ a + c → v ≡ b + d → turns ≤ m * a + k * b
    → more ≤ m * c + k * d → turns + more ≤ m * u + k * v
bound-more k m a b c d u v turns more e f one other =
    let x : m * u ≡ m * a + m * c = ap (λ n. m * n) e ∙ mul-add m a c in
    let y : k * v ≡ k * b + k * d = ap (λ n. k * n) f ∙ mul-add k b d in
    omega (arith, one, other, x, y)

-- no items need no advances
AreMade-none : AreMade [] [] (record { made = 0; left_parts = 0; right_parts = 0 })
AreMade-none = record {
  lefts = HasParts-none;
  rights = HasParts-none;
  at_most = λ k m lefts rights. omega arith;
}

-- the counts for two lists together
AreMade-append : (left right p q : List Item) (one other : Advances) → AreMade left right one → AreMade p q other
    → AreMade (left ++ p) (right ++ q) (both_made one other)
AreMade-append left right p q one other is more = record {
  lefts = HasParts-append left p one.left_parts other.left_parts is.lefts more.lefts;
  rights = HasParts-append right q one.right_parts other.right_parts is.rights more.rights;
  at_most = λ k m lefts rights.
      bound-more k m (length left) (length right) (length p) (length q) (length (left ++ p)) (length (right ++ q))
      one.made other.made (length-append left p) (length-append right q)
      (is.at_most k m (HoldAtMost-front k left p lefts) (HoldAtMost-front m right q rights))
      (more.at_most k m (HoldAtMost-back k left p lefts) (HoldAtMost-back m right q rights));
}

-- the counts are small
pub AreMade-few : (left right : List Item) (advances : Advances) → AreMade left right advances
    → length left ≤ item_limit → length right ≤ item_limit
    → (advances.left_parts ≤ item_limit) × (advances.right_parts ≤ item_limit)
    × (advances.made ≤ 2_000_000_000_000)
AreMade-few left right advances are left_few right_few =
    let lefts : advances.left_parts ≤ item_limit =
    (let few = parts-few left advances.left_parts are.lefts in omega (arith, few, left_few)) in
    let rights : advances.right_parts ≤ item_limit =
    (let few = parts-few right advances.right_parts are.rights in omega (arith, few, right_few)) in
    let most = are.at_most item_limit item_limit
    (HoldAtMost-more advances.left_parts item_limit left lefts (parts-hold left advances.left_parts are.lefts))
    (HoldAtMost-more advances.right_parts item_limit right rights (parts-hold right advances.right_parts are.rights))
    in
    (lefts, rights, omega (arith, most, left_few, right_few))

-- the sums of the counts for two lists fit 64 bits
FitTogether-append : (left right p q : List Item) (one other : Advances) → AreMade left right one
    → AreMade p q other → length (left ++ p) ≤ item_limit → length (right ++ q) ≤ item_limit
    → FitTogether one other
FitTogether-append left right p q one other is more left_few right_few =
    let few = AreMade-few (left ++ p) (right ++ q) (both_made one other)
    (AreMade-append left right p q one other is more) left_few right_few in
    record { made = omega (arith, few.2); lefts = omega (arith, few.0); rights = omega (arith, few.1) }

-- ---- one bundle

module _ (left right : List Item) (lefts rights : List (List Item)) (one : IsLeastDivision left lefts)
    (other : IsLeastDivision right rights) where
  -- advances that are no more than if each part of one side is read against each part of the other
  pub AreMade-within : (advances : Advances)
      → advances.made ≤ advances.right_parts * length left + advances.left_parts * length right
      → advances.left_parts ≡ length lefts → advances.right_parts ≡ length rights → AreMade left right advances
  AreMade-within advances most lefts_are rights_are = record {
    lefts = record { division = lefts; divides = one.division; len = sym lefts_are };
    rights = record { division = rights; divides = other.division; len = sym rights_are };
    at_most = λ k m left_most right_most.
        (let a = mul-le advances.right_parts (length left) m (length left)
        (subst (λ (n : ℕ). n ≤ m) (sym rights_are) (least-upto right rights m other right_most)) (omega arith) in
        let b = mul-le advances.left_parts (length right) k (length right)
        (subst (λ (n : ℕ). n ≤ k) (sym lefts_are) (least-upto left lefts k one left_most)) (omega arith) in
        omega (arith, most, a, b));
  }

  module _ (old new : List JoinRow) (made : ℕ)
      (adds : AddsFirstPairs lefts rights (length lefts * length rights) old new made) where
    -- the advances of all pairs of parts are bounded so
    pub made-few : made ≤ length rights * length left + length lefts * length right
    made-few =
        let within = all_turns-within lefts rights adds.are.outs adds.are.len adds.are.values one.division.filled
        other.division.filled in
        let is = adds.are.turns_are in
        let most : made ≤ length rights * length (all_of lefts) + length lefts * length (all_of rights) =
        (let upto = within.at_most in omega (arith, is, upto)) in
        subst (λ (n : ℕ). made ≤ length rights * n + length lefts * length right)
        (length_permutation left (all_of lefts) one.division.together)
        (subst (λ (n : ℕ). made ≤ length rights * length (all_of lefts) + length lefts * n)
        (length_permutation right (all_of rights) other.division.together) most)

    -- and are no more than if each item of one side is compared with each item of the other
    pub made-fewer : made ≤ 2 * (length left * length right)
    made-fewer =
        let few = made-few in
        let a = mul-le (length rights) (length left) (length right) (length left) (division-few right rights other)
        (omega arith) in
        let b = mul-le (length lefts) (length right) (length left) (length right) (division-few left lefts one)
        (omega arith) in
        let turned : length right * length left ≡ length left * length right =
        mul_comm (length right) (length left) in
        omega (arith, few, a, b, turned)

    -- the rows of all pairs of parts are the rows of the items
    pub AddsItemsRows-one : HasDistinctIds left → HasDistinctIds right → AddsItemsRows left right old new
    AddsItemsRows-one left_ids right_ids = record {
      added = adds.added;
      split = adds.split;
      rows = subst (AreItemsRows left right) (sym adds.are.rows_are)
          (AreItemsRows-of_pairs left right lefts rights adds.are.outs adds.are.len adds.are.values
          one.division.together other.division.together left_ids right_ids);
    }

-- ---- items that match nothing in other lists

-- items of lower classes don't match items of higher ones
pub MatchNothing-parted : (class : ℕ) (left low_left high_left right low_right high_right : List Item)
    → ArePartedAt class left low_left high_left → ArePartedAt class right low_right high_right
    → MatchNothing low_left low_right high_left high_right
MatchNothing-parted class left low_left high_left right low_right high_right lefts rights = record {
  forth = λ x y h k same.
      let p = All-contains (λ (z : Item). z.class < class) low_left x lefts.below h in
      let q = All-contains (λ (z : Item). class ≤ z.class) high_right y rights.from k in
      absurd (omega (arith, p, q, same));
  back = λ x y h k same.
      let p = All-contains (λ (z : Item). class ≤ z.class) high_left x lefts.from h in
      let q = All-contains (λ (z : Item). z.class < class) low_right y rights.below k in
      absurd (omega (arith, p, q, same));
}

-- nor some of these
MatchNothing-front : (left right p q more_p more_q : List Item)
    → MatchNothing left right (p ++ more_p) (q ++ more_q) → MatchNothing left right p q
MatchNothing-front left right p q more_p more_q nothing = record {
  forth = λ x y h k. nothing.forth x y h (Contains-append_left q more_q y k);
  back = λ x y h k. nothing.back x y (Contains-append_left p more_p x h) k;
}

-- nor some more of these
MatchNothing-more : (left right p q more_p more_q : List Item)
    → MatchNothing left right (p ++ more_p) (q ++ more_q) → MatchNothing p q more_p more_q
    → MatchNothing (left ++ p) (right ++ q) more_p more_q
MatchNothing-more left right p q more_p more_q nothing more = record {
  forth = λ x y h k. elim (Contains-append_cases left p x h) [
    | inl i ↦ nothing.forth x y i (Contains-append_right q more_q y k)
    | inr i ↦ more.forth x y i k
  ];
  back = λ x y h k. elim (Contains-append_cases right q y k) [
    | inl i ↦ nothing.back x y (Contains-append_right p more_p x h) i
    | inr i ↦ more.back x y h i
  ];
}

-- ---- both together

-- the rows of items, followed by the rows of others
rows-both : (left right p q : List Item) (old new : List JoinRow) → HasDistinctIds (left ++ p)
    → MatchNothing left right p q → AreItemsRows left right old → AddsItemsRows p q old new
    → AreItemsRows (left ++ p) (right ++ q) new
rows-both left right p q old new distinct nothing are adds =
    subst (AreItemsRows (left ++ p) (right ++ q)) (sym adds.split)
    (AreItemsRows-append left right p q old adds.added distinct nothing.forth nothing.back are adds.rows)

-- the results for the lower classes and for the higher ones
found-parted : (class : ℕ) (left low_left high_left right low_right high_right : List Item)
    → ArePartedAt class left low_left high_left → ArePartedAt class right low_right high_right → HasDistinctIds left
    → (rows more : List JoinRow) (taken other : Advances) → AreFound low_left low_right rows taken
    → AreFound high_left high_right more other → AreFound left right (rows ++ more) (both_made taken other)
found-parted class left low_left high_left right low_right high_right lefts rights distinct rows more taken other low
    high =
    subst (λ (xs : List Item). AreFound xs right (rows ++ more) (both_made taken other)) (sym lefts.whole)
    (subst (λ (ys : List Item). AreFound (low_left ++ high_left) ys (rows ++ more) (both_made taken other))
    (sym rights.whole) (record {
      rows = rows-both low_left low_right high_left high_right rows (rows ++ more)
          (subst HasDistinctIds lefts.whole distinct)
          (MatchNothing-parted class left low_left high_left right low_right high_right lefts rights) low.rows
          (record { added = more; split = refl; rows = high.rows });
      advances = AreMade-append low_left low_right high_left high_right taken other low.advances high.advances;
    }))

-- ---- range by range

-- adding 0 changes nothing
add_zero : (n : ℕ) → n + 0 ≡ n
add_zero n = omega arith

-- adding the counts for no items changes nothing
made-alone : (made : Advances) → both_made made (record { made = 0; left_parts = 0; right_parts = 0 }) ≡ made
made-alone made = rw (add_zero made.made, add_zero made.left_parts, add_zero made.right_parts) refl

module _ (left right : List Item) (left_rise : ClassesRise left) (right_rise : ClassesRise right)
    (left_ids : HasDistinctIds left) where
  -- The results for a range of classes.
  abbrev AllFound : Range ℕ → List FoundRows → Type 0
  AllFound r all = AreFound (items_in r left) (items_in r right) (all_rows all) (all_made all)

  one_found : (r : Range ℕ) (found : FoundRows) → IsFound (items_in r left) (items_in r right) found
      → AllFound r (found ∷ [])
  one_found r found is =
      subst (λ (xs : List JoinRow). AreFound (items_in r left) (items_in r right) xs (all_made (found ∷ [])))
      (sym (append-nil found.rows.items))
      (subst (λ (made : Advances). AreFound (items_in r left) (items_in r right) found.rows.items made)
      (sym (made-alone found.advances)) is)

  more_found : (from : Option ℕ) (at : ℕ) (found : FoundRows) (more : List FoundRows)
      → has_begun nat_cmp from at ≡ true
      → IsFound (items_in (range from (Some at)) left) (items_in (range from (Some at)) right) found
      → AllFound (range (Some at) None) more → AllFound (range from None) (found ∷ more)
  more_found from at found more begun is all =
      found-parted at (items_in (range from None) left) (items_in (range from (Some at)) left)
      (items_in (range (Some at) None) left) (items_in (range from None) right) (items_in (range from (Some at)) right)
      (items_in (range (Some at) None) right) (in-parted from at left left_rise begun)
      (in-parted from at right right_rise begun) (in-distinct (range from None) left left_ids) found.rows.items
      (all_rows more) found.advances (all_made more) is all

  -- and for all classes
  pub all_found : (gives : Range ℕ → FoundRows → Type 0) (cuts : List (Cut ℕ)) (all : List FoundRows)
      → GivesFrom nat_cmp gives None cuts all
      → ((r : Range ℕ) (found : FoundRows) → gives r found → IsFound (items_in r left) (items_in r right) found)
      → AreFound left right (all_rows all) (all_made all)
  all_found gives cuts all given found =
      let together = all_come nat_cmp gives AllFound (λ r x is. one_found r x (found r x is))
      (λ from at x more begun is rest. more_found from at x more begun (found (range from (Some at)) x is) rest)
      None cuts all given in
      subst (λ (xs : List Item). AreFound xs right (all_rows all) (all_made all))
      (filter_all (λ (x : Item). true) left (λ k d h. refl))
      (subst (λ (ys : List Item). AreFound (items_in (range None None) left) ys (all_rows all) (all_made all))
      (filter_all (λ (x : Item). true) right (λ k d h. refl)) together)

-- the sums of all results fit 64 bits
pub fits_all : (left right : List Item) (all : List FoundRows) → AreFound left right (all_rows all) (all_made all)
    → length left ≤ item_limit → length right ≤ item_limit → FitAll all
fits_all left right all found left_few right_few =
    let few = AreMade-few left right (all_made all) found.advances left_few right_few in
    record { made = omega (arith, few.2); lefts = omega (arith, few.0); rights = omega (arith, few.1) }

-- all results as one
pub is_found : (left right : List Item) (all : FoundRows) (found : List FoundRows) → all.rows.items ≡ all_rows found
    → all.advances ≡ all_made found → AreFound left right (all_rows found) (all_made found) → IsFound left right all
is_found left right all found rows made is =
    subst (λ (xs : List JoinRow). AreFound left right xs all.advances) (sym rows)
    (subst (λ (m : Advances). AreFound left right (all_rows found) m) (sym made) is)

-- ---- joining a list of results

-- The results that are already added, and the remaining ones.
pub record IsFoundSoFar (all left : List FoundRows) (rows : List JoinRow) (made : Advances) : Type 0 where
  pub rows_are : all_rows all ≡ rows ++ all_rows left
  pub made_are : all_made all ≡ both_made made (all_made left)

-- ---- bundle by bundle

-- The results for the items before the remaining ones, which match none of these.
pub record IsFinding
    (left right lefts rights : List Item) (rows : List JoinRow) (advances : Advances) : Type 0 where
  pub front_left : List Item
  pub front_right : List Item
  pub left_is : left ≡ front_left ++ lefts
  pub right_is : right ≡ front_right ++ rights
  pub rows_are : AreItemsRows front_left front_right rows
  pub made : AreMade front_left front_right advances
  pub unmatched : MatchNothing front_left front_right lefts rights
  pub left_rise : ClassesRise lefts
  pub right_rise : ClassesRise rights

-- at first all items remain
pub finding_start : (left right : List Item) (rows : List JoinRow) (advances : Advances) → rows ≡ []
    → advances ≡ record { made = 0; left_parts = 0; right_parts = 0 } → ClassesRise left → ClassesRise right
    → IsFinding left right left right rows advances
finding_start left right rows advances none nothing left_rise right_rise = record {
  front_left = [];
  front_right = [];
  left_is = refl;
  right_is = refl;
  rows_are = subst (AreItemsRows [] []) (sym none) (AreItemsRows-none []);
  made = subst (AreMade [] []) (sym nothing) AreMade-none;
  unmatched = record {
    forth = λ x y h k. absurd (Contains-none x h);
    back = λ x y h k. absurd (Contains-none y k);
  };
  left_rise = left_rise;
  right_rise = right_rise;
}

-- a prefix is no longer than the list, and its ids are distinct
module _ (items front rest : List Item) (whole : items ≡ front ++ rest) where
  front-few : length items ≤ item_limit → length front ≤ item_limit
  front-few few = let n = ap length whole ∙ length-append front rest in omega (arith, n, few)

  pub rest-ids : HasDistinctIds items → HasDistinctIds rest
  rest-ids ids = distinct-later front rest (subst HasDistinctIds whole ids)

  pub front-ids : HasDistinctIds items → HasDistinctIds front
  front-ids ids = distinct-earlier front rest (subst HasDistinctIds whole ids)

module _ (left right lefts rights low_left high_left low_right high_right : List Item) (class : ℕ)
    (one : ArePartedAt class lefts low_left high_left) (other : ArePartedAt class rights low_right high_right)
    (old : List JoinRow) (advances : Advances) (is : IsFinding left right lefts rights old advances) where
  left_whole : left ≡ (is.front_left ++ low_left) ++ high_left
  left_whole =
      is.left_is ∙ ap (λ l. is.front_left ++ l) one.whole ∙ sym (append_assoc is.front_left low_left high_left)

  right_whole : right ≡ (is.front_right ++ low_right) ++ high_right
  right_whole =
      is.right_is ∙ ap (λ l. is.front_right ++ l) other.whole
      ∙ sym (append_assoc is.front_right low_right high_right)

  unmatched_rest : MatchNothing is.front_left is.front_right (low_left ++ high_left) (low_right ++ high_right)
  unmatched_rest =
      subst (λ (xs : List Item). MatchNothing is.front_left is.front_right xs (low_right ++ high_right)) one.whole
      (subst (MatchNothing is.front_left is.front_right lefts) other.whole is.unmatched)

  -- one more bundle
  pub finding_more : (new : List JoinRow) (more all : Advances) → HasDistinctIds left
      → AddsItemsRows low_left low_right old new → AreMade low_left low_right more → all ≡ both_made advances more
      → IsFinding left right high_left high_right new all
  finding_more new more all ids adds made all_is = record {
    front_left = is.front_left ++ low_left;
    front_right = is.front_right ++ low_right;
    left_is = left_whole;
    right_is = right_whole;
    rows_are = rows-both is.front_left is.front_right low_left low_right old new
        (front-ids left (is.front_left ++ low_left) high_left left_whole ids)
        (MatchNothing-front is.front_left is.front_right low_left low_right high_left high_right unmatched_rest)
        is.rows_are adds;
    made = subst (AreMade (is.front_left ++ low_left) (is.front_right ++ low_right)) (sym all_is)
        (AreMade-append is.front_left is.front_right low_left low_right advances more is.made made);
    unmatched = MatchNothing-more is.front_left is.front_right low_left low_right high_left high_right unmatched_rest
        (MatchNothing-parted class lefts low_left high_left rights low_right high_right one other);
    left_rise = high-rise class lefts low_left high_left one is.left_rise;
    right_rise = high-rise class rights low_right high_right other is.right_rise;
  }

  -- the sum with its advances fits 64 bits
  pub finding-fits : (more : Advances) → AreMade low_left low_right more → length left ≤ item_limit
      → length right ≤ item_limit → FitTogether advances more
  finding-fits more made left_few right_few =
      FitTogether-append is.front_left is.front_right low_left low_right advances more is.made made
      (front-few left (is.front_left ++ low_left) high_left left_whole left_few)
      (front-few right (is.front_right ++ low_right) high_right right_whole right_few)

-- at the end the remaining items are one bundle
module _ (left right lefts rights : List Item) (old : List JoinRow) (advances : Advances)
    (is : IsFinding left right lefts rights old advances) where
  pub finding_end : (rows : List JoinRow) (more all : Advances) → HasDistinctIds left
      → AddsItemsRows lefts rights old rows → AreMade lefts rights more → all ≡ both_made advances more
      → AreFound left right rows all
  finding_end rows more all ids adds made all_is =
      subst (λ (xs : List Item). AreFound xs right rows all) (sym is.left_is)
      (subst (λ (ys : List Item). AreFound (is.front_left ++ lefts) ys rows all) (sym is.right_is) (record {
        rows = rows-both is.front_left is.front_right lefts rights old rows
            (subst HasDistinctIds is.left_is ids) is.unmatched is.rows_are adds;
        advances = subst (AreMade (is.front_left ++ lefts) (is.front_right ++ rights)) (sym all_is)
            (AreMade-append is.front_left is.front_right lefts rights advances more is.made made);
      }))

  pub last-fits : (more : Advances) → AreMade lefts rights more → length left ≤ item_limit
      → length right ≤ item_limit → FitTogether advances more
  last-fits more made left_few right_few =
      FitTogether-append is.front_left is.front_right lefts rights advances more is.made made
      (subst (λ (xs : List Item). length xs ≤ item_limit) is.left_is left_few)
      (subst (λ (xs : List Item). length xs ≤ item_limit) is.right_is right_few)
