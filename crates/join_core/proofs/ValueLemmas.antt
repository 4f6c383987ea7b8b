-- The rows and the advances of a pair of parts, from the truncated fact that they are its value.
use Rattle.std.proofs.Common.{◌≡◌, ◌≢◌, ℕ, ◌≤◌, List, [], ◌∷◌, map, AllPairs, refl, sym, subst, ap, ◌∙◌, inl, inr, arith}
use Rattle.std.specs.Prelude.{Contains}
use Rattle.std.proofs.Math.Logic.{∥∥₁_elim, ∥∥₁_map}
use Rattle.std.proofs.Math.Nat.{ℕ_set}
use Rattle.std.proofs.Props.{props}
use Rattle.std.proofs.lemmas.Bool.{cases_eq}
use Rattle.std.proofs.lemmas.Int.{ints}
use Rattle.list_core.proofs.MadeLemmas.{AllPairs-map, Contains-map, Contains-map_source}
use Rattle.list_core.proofs.RisingLemmas.{Contains-head, Contains-cons, Contains-cons_cases, Contains-none}
use Rattle.period_core.specs.declared.period.Period.{Period}
use Rattle.dip_core.specs.declared.item.Item.{Item}
use Rattle.list_core.specs.Wanted.{IsListOf}
use Rattle.merge_core.specs.declared.hit.Hit.{Hit}
use Rattle.merge_core.specs.Hits.{AreAdvances, HitStartsBefore, IsHit, IsShared}
use Rattle.merge_core.specs.Meets.{IdsTell}
use Rattle.join_core.specs.declared.join_pairs.JoinOut.{JoinOut}
use Rattle.join_core.specs.declared.rows.JoinRow.{JoinRow}
use Rattle.join_core.specs.contracts.rows.JoinRowPartialEq.TheImpl.{eq-value}
use Rattle.join_core.specs.ItemJoin.{AreItemsRows, IsItemsJoinRow}
use Rattle.join_core.specs.PairValues.{IsPairValue, row_of_hit}
use Rattle.join_core.proofs.ListLemmas.{Contains-opened, nothing_prop}
use Rattle.join_core.proofs.OrderLemmas.{JoinRow-same_fields, row_eq-Decides}

-- sharing a period is a proposition
shared_prop : (a b p : Period) → IsProp (IsShared a b p)
shared_prop a b p = hlevel props

-- a bound is a proposition
pub le_prop : (a b : ℕ) → IsProp (a ≤ b)
le_prop a b = hlevel props

-- that rows differ is a proposition
differ_prop : (rows : List JoinRow) → IsProp (AllPairs (λ a b. a ≢ b) rows)
differ_prop rows = hlevel props

-- the bounds of advances, from the truncated fact
pub AreAdvances-opened : (p q : List Item) (n : ℕ) → ∥ AreAdvances p q n ∥₁ → AreAdvances p q n
AreAdvances-opened p q n bare = record {
  at_least = ∥∥₁_elim bare (le_prop _ _) (λ v. v.at_least);
  at_most = ∥∥₁_elim bare (le_prop _ _) (λ v. v.at_most);
}

-- the item with an id, from the truncated fact that there is one
item-opened : (items : List Item) (id : ℕ) → ∥ ((x : Item) × Contains items x × (id ≡ x.id)) ∥₁
    → (x : Item) × Contains items x × (id ≡ x.id)
item-opened [] id bare = absurd (∥∥₁_elim bare nothing_prop (λ s. Contains-none s.0 s.1))
item-opened (y ∷ items) id bare = elim (cases_eq id y.id) [
  | inl same ↦ (y, Contains-head y items, same)
  | inr other ↦
      let (x, x_in, is) = item-opened items id (∥∥₁_map bare (λ (x, x_in, is). (x, later other x x_in is, is))) in
      (x, Contains-cons y items x x_in, is)
]
  where
    later : (id ≢ y.id) → (x : Item) → Contains (y ∷ items) x → id ≡ x.id → Contains items x
    later other x x_in is = elim (Contains-cons_cases y items x x_in) [
      | inl first ↦ absurd (other (is ∙ ap (λ (v : Item). v.id) (sym first)))
      | inr behind ↦ behind
    ]

module _ (p q : List Item) where
  -- the row of a hit is a row of both parts
  row-of_hit : (hit : Hit) → IsHit p q hit → IsItemsJoinRow p q (row_of_hit hit)
  row-of_hit hit is = record {
    x = hit.left;
    y = hit.right;
    x_in = is.left_in;
    y_in = is.right_in;
    left_id = refl;
    right_id = refl;
    matches = is.matches;
    shared = is.shared;
  }

  -- each row of both parts is the row of a hit
  row-from_hit : (hits : List Hit) → ((hit : Hit) → IsHit p q hit → Contains hits hit) → (row : JoinRow)
      → IsItemsJoinRow p q row → Contains (map row_of_hit hits) row
  row-from_hit hits all row w =
      let hit : Hit = record { left = w.x; right = w.y; period = row.period } in
      let is : Contains hits hit =
      all hit (record { left_in = w.x_in; right_in = w.y_in; matches = w.matches; shared = w.shared }) in
      subst (Contains (map row_of_hit hits))
      (JoinRow-same_fields (row_of_hit hit) row refl (sym w.left_id) (sym w.right_id))
      (Contains-map row_of_hit hits hit is)

  -- the rows of all hits are the rows of both parts
  rows-of_hits : (hits : List Hit) → IsListOf HitStartsBefore (IsHit p q) hits → AreItemsRows p q (map row_of_hit hits)
  rows-of_hits hits all = record {
    ordered = AllPairs-map HitStartsBefore (λ (a b : JoinRow). a ≢ b) row_of_hit hits
        (λ g h there before e.
        let same : g.period.from ≡ h.period.from = ap (λ (r : JoinRow). r.period.from) e in
        absurd (omega (arith, ints)))
        all.ordered;
    exactly = λ row. (
      λ c. (let (hit, hit_in, is) = Contains-map_source row_of_hit hits row c in
          subst (IsItemsJoinRow p q) is (row-of_hit hit ((all.exactly hit).0 hit_in))),
      λ w. row-from_hit hits (λ hit. (all.exactly hit).1) row w,
    );
  }

  -- and so are the rows of a value
  rows-of_value : (out : JoinOut JoinRow) → IsPairValue row_of_hit p q out → AreItemsRows p q out.hits.items
  rows-of_value out v = subst (AreItemsRows p q) (sym v.made) (rows-of_hits v.hits v.all)

  module _ (left_ids : IdsTell p) (right_ids : IdsTell q) where
    -- a row of both parts, from the truncated fact
    row-opened : (row : JoinRow) → ∥ IsItemsJoinRow p q row ∥₁ → IsItemsJoinRow p q row
    row-opened row bare =
        let (x, x_in, left_id) = item-opened p row.left (∥∥₁_map bare (λ w. (w.x, w.x_in, w.left_id))) in
        let (y, y_in, right_id) = item-opened q row.right (∥∥₁_map bare (λ w. (w.y, w.y_in, w.right_id))) in
        let one : (w : IsItemsJoinRow p q row) → w.x ≡ x = λ w. left_ids w.x x w.x_in x_in (sym w.left_id ∙ left_id) in
        let other : (w : IsItemsJoinRow p q row) → w.y ≡ y =
        λ w. right_ids w.y y w.y_in y_in (sym w.right_id ∙ right_id) in
        record {
          x = x;
          y = y;
          x_in = x_in;
          y_in = y_in;
          left_id = left_id;
          right_id = right_id;
          matches = ∥∥₁_elim bare (ℕ_set x.class y.class)
              (λ w. ap (λ (v : Item). v.class) (sym (one w)) ∙ w.matches ∙ ap (λ (v : Item). v.class) (other w));
          shared = ∥∥₁_elim bare (shared_prop x.period y.period row.period)
              (λ w. subst (λ (v : Item). IsShared x.period v.period row.period) (other w)
              (subst (λ (u : Item). IsShared u.period w.y.period row.period) (one w) w.shared));
        }

    -- the rows of a pair of parts, from the truncated fact that they are its value
    pub rows-opened : (out : JoinOut JoinRow) → ∥ IsPairValue row_of_hit p q out ∥₁ → AreItemsRows p q out.hits.items
    rows-opened out bare =
        let rows : ∥ AreItemsRows p q out.hits.items ∥₁ = ∥∥₁_map bare (rows-of_value out) in
        record {
          ordered = ∥∥₁_elim rows (differ_prop out.hits.items) (λ v. v.ordered);
          exactly = λ row. (
            λ c. row-opened row (∥∥₁_map rows (λ v. (v.exactly row).0 c)),
            λ w. Contains-opened eq-value.it row_eq-Decides out.hits.items row
                (∥∥₁_map rows (λ v. (v.exactly row).1 w)),
          );
        }
