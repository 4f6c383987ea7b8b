-- The values of the pairs of parts in a join, and all of them together.
use Rattle.std.specs.Prelude.{◌≡◌, ℕ, ◌/◌, ◌%◌, ◌++◌, List, length, map, flat_map, sum_by, slice_get, Some}
use Rattle.dip_core.specs.declared.item.Item.{Item}
use Rattle.dip_core.specs.Division.{part_at}
use Rattle.list_core.specs.Wanted.{IsListOf}
use Rattle.merge_core.specs.declared.hit.Hit.{Hit}
use Rattle.merge_core.specs.Hits.{IsHit, HitStartsBefore, AreAdvances}
use Rattle.join_core.specs.declared.join_pairs.JoinOut.{JoinOut}
use Rattle.join_core.specs.declared.rows.JoinRow.{JoinRow}

-- The values made from the hits of both parts, in ascending order of the hits' starts, and the advances that find
-- them.
pub record IsPairValue {T : Type 0} (from_hit : Hit → T) (left right : List Item) (out : JoinOut T) : Type 0 where
  pub hits : List Hit
  pub made : out.hits.items ≡ map from_hit hits
  pub all : IsListOf HitStartsBefore (IsHit left right) hits
  pub turns : AreAdvances left right out.turns

-- The row of a hit.
abbrev pub row_of_hit : Hit → JoinRow
row_of_hit hit = record { period = hit.period; left = hit.left.id; right = hit.right.id }

-- The rows of all pairs, pair by pair.
abbrev pub rows_in : List (JoinOut JoinRow) → List JoinRow
rows_in outs = flat_map (λ (out : JoinOut JoinRow). out.hits.items) outs

-- The advances of all pairs.
abbrev pub turns_in : List (JoinOut JoinRow) → ℕ
turns_in outs = sum_by (λ (out : JoinOut JoinRow). out.turns) outs

-- The values of the first pairs of two divisions, by left part and then by right part.
abbrev pub AreFirstValues : List (List Item) → List (List Item) → List (JoinOut JoinRow) → Type 0
AreFirstValues lefts rights outs = (i : ℕ) (out : JoinOut JoinRow) → slice_get outs i ≡ Some out
    → ∥ IsPairValue row_of_hit (part_at lefts (i / length rights)) (part_at rights (i % length rights)) out ∥₁

-- The rows and the advances of the first `n` pairs of two divisions.
pub record AreOfFirstPairs
    (lefts rights : List (List Item)) (n : ℕ) (rows : List JoinRow) (turns : ℕ) : Type 0 where
  pub outs : List (JoinOut JoinRow)
  pub len : length outs ≡ n
  pub values : AreFirstValues lefts rights outs
  pub rows_are : rows ≡ rows_in outs
  pub turns_are : turns ≡ turns_in outs

-- The new rows are the old ones, followed by the rows of the first `n` pairs.
pub record AddsFirstPairs
    (lefts rights : List (List Item)) (n : ℕ) (old new : List JoinRow) (turns : ℕ) : Type 0 where
  pub added : List JoinRow
  pub split : new ≡ old ++ added
  pub are : AreOfFirstPairs lefts rights n added turns
