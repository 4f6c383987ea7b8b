-- From the anti-join of items to the anti-join of their rows.
use Rattle.std.proofs.Common.{◌≡◌, ◌≤◌, ◌<◌, ◌+◌, ◌++◌, ◌∷◌, [], ℕ, ℤ, List, length, map, take, get_or, add-one, append_assoc, ap, sym, subst, ◌∙◌}
use Rattle.std.proofs.Math.Seq.{take-suc}
use Rattle.std.proofs.lemmas.List.{map-append}
use Rattle.period_core.specs.declared.period.Period.{Period}
use Rattle.period_core.specs.Period.{Holds}
use Rattle.row_core.specs.declared.row.Row.{Row}
use Rattle.dip_core.specs.declared.item.Item.{Item}
use Rattle.list_core.proofs.WantedLemmas.{IsListOf-same}
use Rattle.merge_core.specs.Gaps.{IsCovered, IsUncovered}
use Rattle.merge_core.proofs.SweepLemmas.{IsMaximal-same}
use Rattle.match_core.specs.Items.{items_with}
use Rattle.match_core.proofs.Tell.{ClassesTell}
use Rattle.match_core.proofs.RowItems.{IsItemAt, row_of_item, item_of_row}
use Rattle.anti_core.specs.declared.rows.AntiRow.{AntiRow}
use Rattle.anti_core.specs.Anti.{AntiRowBefore, IsMet, IsUnmet, IsAntiRow, IsAnti}
use Rattle.merge_core.specs.declared.gap.Gap.{Gap}
use Rattle.anti_core.specs.ItemAnti.{IsItemsAntiRow, IsItemsAnti, row_of_gap}

module _ (Matches : Row → Row → Type 0) (left right : List Row) (lefts rights : List ℕ)
    (left_enough : length left ≤ length lefts) (right_enough : length right ≤ length rights)
    (tell : ClassesTell Matches left lefts right rights) where
  -- an instant that is covered for an item is met for its row
  met-from_covered : (r : Row) (x : Item) (t : ℤ) → IsItemAt left lefts r x → IsCovered (items_with right rights) x t
      → IsMet Matches right r t
  met-from_covered r x t at is =
      let b = row_of_item right rights is.by is.by_in in
      record {
        by = b.0;
        by_in = b.1.row_in;
        matches = (tell at.place b.1.place r b.0 at.row_at b.1.row_at).1
            (sym at.class_at ∙ sym is.matches ∙ b.1.class_at);
        holds = subst (λ (p : Period). Holds p t) b.1.period is.holds;
      }

  -- an instant that is met for a row is covered for its item
  covered-from_met : (r : Row) (x : Item) (t : ℤ) → IsItemAt left lefts r x → IsMet Matches right r t
      → IsCovered (items_with right rights) x t
  covered-from_met r x t at is =
      let b = item_of_row right rights is.by right_enough is.by_in in
      record {
        by = b.0;
        by_in = b.1.item_in;
        matches = b.1.class_at ∙ sym ((tell at.place b.1.place r is.by at.row_at b.1.row_at).0 is.matches)
            ∙ sym at.class_at;
        holds = subst (λ (p : Period). Holds p t) (sym b.1.period) is.holds;
      }

  -- an uncovered instant of an item is an unmet instant of its row
  unmet-from_uncovered : (r : Row) (x : Item) → IsItemAt left lefts r x → (t : ℤ)
      → IsUncovered (items_with right rights) x t → IsUnmet Matches right r t
  unmet-from_uncovered r x at t is = record {
    held = subst (λ (p : Period). Holds p t) at.period is.held;
    unmet = λ m. is.uncovered (covered-from_met r x t at m);
  }

  -- and vice versa
  uncovered-from_unmet : (r : Row) (x : Item) → IsItemAt left lefts r x → (t : ℤ) → IsUnmet Matches right r t
      → IsUncovered (items_with right rights) x t
  uncovered-from_unmet r x at t is = record {
    held = subst (λ (p : Period). Holds p t) (sym at.period) is.held;
    uncovered = λ c. is.unmet (met-from_covered r x t at c);
  }

  -- a row of the items' anti-join is a row of the rows' anti-join
  row-of_items : (row : AntiRow) → IsItemsAntiRow (items_with left lefts) (items_with right rights) row
      → IsAntiRow Matches left right row
  row-of_items row is =
      let a = row_of_item left lefts is.x is.x_in in
      record {
        x = a.0;
        x_in = a.1.row_in;
        id = is.id ∙ a.1.id;
        maximal = IsMaximal-same (IsUncovered (items_with right rights) is.x) (IsUnmet Matches right a.0) row.period
            (unmet-from_uncovered a.0 is.x a.1) (uncovered-from_unmet a.0 is.x a.1) is.maximal;
      }

  -- a row of the rows' anti-join is a row of the items' anti-join
  row-of_rows : (row : AntiRow) → IsAntiRow Matches left right row
      → IsItemsAntiRow (items_with left lefts) (items_with right rights) row
  row-of_rows row is =
      let a = item_of_row left lefts is.x left_enough is.x_in in
      record {
        x = a.0;
        x_in = a.1.item_in;
        id = is.id ∙ sym a.1.id;
        maximal = IsMaximal-same (IsUnmet Matches right is.x) (IsUncovered (items_with right rights) a.0) row.period
            (uncovered-from_unmet is.x a.0 a.1) (unmet-from_uncovered is.x a.0 a.1) is.maximal;
      }

  -- the anti-join of the items is the anti-join of the rows
  pub IsAnti-of_items : (rows : List AntiRow) → IsItemsAnti (items_with left lefts) (items_with right rights) rows
      → IsAnti Matches left right rows
  IsAnti-of_items rows lists =
      IsListOf-same AntiRowBefore (IsItemsAntiRow (items_with left lefts) (items_with right rights))
      (IsAntiRow Matches left right) rows row-of_items row-of_rows lists

-- the row of one more gap
pub rows-more : (base : List AntiRow) (gaps : List Gap) (i : ℕ) (gap : Gap) (old new : List AntiRow) → i < length gaps
    → gap ≡ get_or gaps i gap → old ≡ base ++ map row_of_gap (take i gaps) → new ≡ old ++ row_of_gap gap ∷ []
    → new ≡ base ++ map row_of_gap (take (i + 1) gaps)
rows-more base gaps i gap old new inside at was is =
    let so_far = take i gaps in
    let step : take (i + 1) gaps ≡ so_far ++ gap ∷ [] =
    ap (λ n. take n gaps) (add-one i) ∙ take-suc gaps i gap inside ∙ ap (λ x. so_far ++ x ∷ []) (sym at) in
    is ∙ ap (λ z. z ++ row_of_gap gap ∷ []) was ∙ append_assoc base (map row_of_gap so_far) (row_of_gap gap ∷ [])
    ∙ ap (λ z. base ++ z) (sym (map-append row_of_gap so_far (gap ∷ [])))
    ∙ ap (λ l. base ++ map row_of_gap l) (sym step)
