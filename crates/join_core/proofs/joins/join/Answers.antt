use Rattle.std.proofs.Common.{ℕ, List, length, map, subst, sym}
use Rattle.dip_core.specs.declared.item.Item.{Item}
use Rattle.dip_core.specs.Division.{IsLeast}
use Rattle.dip_core.specs.Item.{HasDistinctIds}
use Rattle.match_core.specs.Items.{unclassed}
use Rattle.join_core.specs.ItemJoin.{IsItemsJoin}
use Rattle.join_core.specs.Join.{IsWithin}
use Rattle.join_core.proofs.joins.join.Goals as goal

pub join_items-requires-clause-left_ids : goal.join_items-requires-clause-left_ids
join_items-requires-clause-left_ids g c κs within =
    subst HasDistinctIds (sym c.deref.ensures.value) c.in_ok-lefts.ensures.1.left.ids

pub join_items-requires-clause-right_ids : goal.join_items-requires-clause-right_ids
join_items-requires-clause-right_ids g c κs within =
    subst HasDistinctIds (sym c.deref-2.ensures.value) c.in_ok-lefts.ensures.1.right.ids

pub turns_answered-requires-clause-left_ids : goal.turns_answered-requires-clause-left_ids
turns_answered-requires-clause-left_ids g c κs within =
    subst HasDistinctIds (sym c.deref-3.ensures.value) c.in_ok-lefts.ensures.1.left.ids

pub turns_answered-requires-clause-right_ids : goal.turns_answered-requires-clause-right_ids
turns_answered-requires-clause-right_ids g c κs within =
    subst HasDistinctIds (sym c.deref-4.ensures.value) c.in_ok-lefts.ensures.1.right.ids

pub returns-clause-answer : goal.returns-clause-answer
returns-clause-answer g c =
    let rows = c.in_ok-rows.rows in (
      c.in_ok-lefts.ensures.0,
      c.in_ok-lefts.ensures.1.join rows
          (subst (λ (l : List Item). IsItemsJoin l c.in_ok-lefts.rights.items rows) c.deref.ensures.value
          (subst (λ (l : List Item). IsItemsJoin c.deref.result.now l rows) c.deref-2.ensures.value
          c.in_ok-rows.ensures.rows)),
    )

-- The bounds of a number of advances over items, by the least numbers of parts.
abbrev AreBounded : ℕ → List Item → List Item → Type 0
AreBounded turns left right =
    (k m : ℕ) → IsLeast (map unclassed left) k → IsLeast (map unclassed right) m
    → IsWithin k m (length left) (length right) turns

pub returns-clause-turns : goal.returns-clause-turns
returns-clause-turns g c k m lk lm =
    let turns = c.in_ok-turns.turns in
    let left = c.in_ok-lefts.ensures.1.left in
    let right = c.in_ok-lefts.ensures.1.right in
    let bounded : AreBounded turns c.in_ok-lefts.lefts.items c.in_ok-lefts.rights.items =
    subst (λ (l : List Item). AreBounded turns l c.in_ok-lefts.rights.items) c.deref-3.ensures.value
    (subst (AreBounded turns c.deref-3.result.now) c.deref-4.ensures.value c.in_ok-turns.ensures.within) in
    subst (λ (n : ℕ). IsWithin k m (length c.args.left.rows.now) n turns) right.count
    (subst (λ (n : ℕ). IsWithin k m n (length c.in_ok-lefts.rights.items) turns) left.count
    (bounded k m (left.least k lk) (right.least m lm)))
