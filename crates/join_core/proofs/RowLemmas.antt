-- From the join of items to the join of their rows.
use Rattle.std.proofs.Common.{◌≡◌, ◌≤◌, ℕ, List, length, [], ◌∷◌, map, refl, sym, subst, ap, ◌∙◌, arith}
use Rattle.period_core.specs.declared.period.Period.{Period}
use Rattle.row_core.specs.declared.row.Row.{Row}
use Rattle.dip_core.specs.declared.item.Item.{Item}
use Rattle.list_core.proofs.WantedLemmas.{IsListOf-same}
use Rattle.merge_core.specs.Hits.{IsShared}
use Rattle.match_core.specs.Items.{items_with, item_of, items_of, unclassed}
use Rattle.match_core.proofs.Tell.{ClassesTell}
use Rattle.match_core.proofs.RowItems.{row_of_item, item_of_row}
use Rattle.match_core.proofs.Sided.{IsSide}
use Rattle.join_core.specs.declared.rows.JoinRow.{JoinRow}
use Rattle.join_core.specs.ItemJoin.{IsItemsJoinRow, IsItemsJoin}
use Rattle.join_core.specs.Join.{RowBefore, IsJoinRow, IsJoin}

-- items without their classes are the rows' items
unclassed-items_with : (rows : List Row) (classes : List ℕ) → length rows ≤ length classes
    → map unclassed (items_with rows classes) ≡ items_of rows
unclassed-items_with [] classes enough = refl
unclassed-items_with (r ∷ rows) [] enough = absurd (omega arith)
unclassed-items_with (r ∷ rows) (c ∷ classes) enough =
    ap (λ l. item_of r ∷ l) (unclassed-items_with rows classes (omega arith))

-- so are a side's items
pub side-unclassed : (rows : List Row) (classes : List ℕ) (items : List Item) → IsSide rows classes items
    → map unclassed items ≡ items_of rows
side-unclassed rows classes items side =
    ap (map unclassed) side.are ∙ unclassed-items_with rows classes side.enough

module _ (Matches : Row → Row → Type 0) (left right : List Row) (lefts rights : List ℕ)
    (left_enough : length left ≤ length lefts) (right_enough : length right ≤ length rights)
    (tell : ClassesTell Matches left lefts right rights) where
  -- a row of the items' join is a row of the rows' join
  row-of_items : (j : JoinRow) → IsItemsJoinRow (items_with left lefts) (items_with right rights) j
      → IsJoinRow Matches left right j
  row-of_items j i =
      let a = row_of_item left lefts i.x i.x_in in
      let b = row_of_item right rights i.y i.y_in in
      record {
        x = a.0;
        y = b.0;
        x_in = a.1.row_in;
        y_in = b.1.row_in;
        left_id = i.left_id ∙ a.1.id;
        right_id = i.right_id ∙ b.1.id;
        matches = (tell a.1.place b.1.place a.0 b.0 a.1.row_at b.1.row_at).1
            (sym a.1.class_at ∙ i.matches ∙ b.1.class_at);
        shared = subst (λ (p : Period). IsShared p b.0.period j.period) a.1.period
            (subst (λ (p : Period). IsShared i.x.period p j.period) b.1.period i.shared);
      }

  -- a row of the rows' join is a row of the items' join
  row-of_rows : (j : JoinRow) → IsJoinRow Matches left right j
      → IsItemsJoinRow (items_with left lefts) (items_with right rights) j
  row-of_rows j i =
      let a = item_of_row left lefts i.x left_enough i.x_in in
      let b = item_of_row right rights i.y right_enough i.y_in in
      record {
        x = a.0;
        y = b.0;
        x_in = a.1.item_in;
        y_in = b.1.item_in;
        left_id = i.left_id ∙ sym a.1.id;
        right_id = i.right_id ∙ sym b.1.id;
        matches = a.1.class_at ∙ (tell a.1.place b.1.place i.x i.y a.1.row_at b.1.row_at).0 i.matches
            ∙ sym b.1.class_at;
        shared = subst (λ (p : Period). IsShared p b.0.period j.period) (sym a.1.period)
            (subst (λ (p : Period). IsShared i.x.period p j.period) (sym b.1.period) i.shared);
      }

  -- the join of the items is the join of the rows
  pub IsJoin-of_items : (rows : List JoinRow) → IsItemsJoin (items_with left lefts) (items_with right rights) rows
      → IsJoin Matches left right rows
  IsJoin-of_items rows lists =
      IsListOf-same RowBefore (IsItemsJoinRow (items_with left lefts) (items_with right rights))
      (IsJoinRow Matches left right) rows row-of_items row-of_rows lists
