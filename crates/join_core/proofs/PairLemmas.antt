-- The values of all pairs of two divisions.
use Rattle.std.proofs.Common.{◌≡◌, ℕ, ◌+◌, ◌*◌, ◌/◌, ◌%◌, ◌<◌, List, length, Some, subst, inl, inr, arith}
use Rattle.std.specs.Prelude.{slice_get}
use Rattle.std.proofs.lemmas.Nat.{div-mul-add, mod-mul-add}
use Rattle.std.proofs.lemmas.Option.{slice_get_cases}
use Rattle.dip_core.specs.declared.item.Item.{Item}
use Rattle.dip_core.specs.Item.{HasDistinctIds}
use Rattle.dip_core.specs.Division.{all_of, part_at}
use Rattle.dip_core.proofs.StepLemmas.{contains-all_of}
use Rattle.dip_core.proofs.PartedLemmas.{one_item}
use Rattle.merge_core.specs.Meets.{IdsTell}
use Rattle.join_core.specs.declared.join_pairs.JoinOut.{JoinOut}
use Rattle.join_core.specs.declared.rows.JoinRow.{JoinRow}
use Rattle.join_core.specs.ItemJoin.{AreItemsRows}
use Rattle.join_core.specs.PairValues.{IsPairValue, AreFirstValues, row_of_hit}
use Rattle.join_core.proofs.ValueLemmas.{rows-opened}

-- a value at an index within the list
pub there : (outs : List (JoinOut JoinRow)) (i : ℕ) → i < length outs
    → (o : JoinOut JoinRow) × (slice_get outs i ≡ Some o)
there outs i h = elim (slice_get_cases outs i).1 [
  | inl is ↦ (is.0, is.2)
  | inr past ↦ absurd (let p = past.0 in omega (arith, p, h))
]

-- the ids of a part are distinct if all ids are
IdsTell-part : (ps : List (List Item)) (k : ℕ) → HasDistinctIds (all_of ps) → IdsTell (part_at ps k)
IdsTell-part ps k distinct x y h i e =
    one_item (all_of ps) x y distinct (contains-all_of ps k x h) (contains-all_of ps k y i) e

module _ (ps qs : List (List Item)) (outs : List (JoinOut JoinRow)) (values : AreFirstValues ps qs outs) where
  -- the value of a pair, by the numbers of its parts
  pub value_of : (l r : ℕ) (o : JoinOut JoinRow) → r < length qs → slice_get outs (l * length qs + r) ≡ Some o
      → ∥ IsPairValue row_of_hit (part_at ps l) (part_at qs r) o ∥₁
  value_of l r o h at =
      subst (λ n. ∥ IsPairValue row_of_hit (part_at ps l) (part_at qs n) o ∥₁) (mod-mul-add l (length qs) r h)
      (subst (λ n. ∥ IsPairValue row_of_hit (part_at ps n) (part_at qs ((l * length qs + r) % length qs)) o ∥₁)
      (div-mul-add l (length qs) r h) (values (l * length qs + r) o at))

  module _ (left_ids : HasDistinctIds (all_of ps)) (right_ids : HasDistinctIds (all_of qs)) where
    -- the rows of a pair, by its number
    pub rows_at : (i : ℕ) (o : JoinOut JoinRow) → slice_get outs i ≡ Some o
        → AreItemsRows (part_at ps (i / length qs)) (part_at qs (i % length qs)) o.hits.items
    rows_at i o at =
        rows-opened (part_at ps (i / length qs)) (part_at qs (i % length qs))
        (IdsTell-part ps (i / length qs) left_ids) (IdsTell-part qs (i % length qs) right_ids) o (values i o at)

    -- the rows of a pair, by the numbers of its parts
    pub rows_of : (l r : ℕ) (o : JoinOut JoinRow) → r < length qs → slice_get outs (l * length qs + r) ≡ Some o
        → AreItemsRows (part_at ps l) (part_at qs r) o.hits.items
    rows_of l r o h at =
        rows-opened (part_at ps l) (part_at qs r) (IdsTell-part ps l left_ids) (IdsTell-part qs r right_ids) o
        (value_of l r o h at)
